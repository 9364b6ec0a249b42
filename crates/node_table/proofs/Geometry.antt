-- Rows that stand for trees keep what `IsLaid` says.
use Rattle.std.proofs.Common.{◌≡◌, inl, inr, ℕ, ◌+◌, ◌-◌, ◌<◌, ◌≤◌, Bool, true, false, List, ◌++◌, length, refl, sym, ap, ◌∙◌, subst, arith}
use Rattle.std.specs.Prelude.{◌⊎◌}
use Rattle.tree_model.specs.Axes.{attributes, below}
use Rattle.tree_model.specs.Labels.{Label}
use Rattle.tree_model.specs.Forest.{Forest}
use Rattle.tree_model.specs.Nodes.{Node, nodes, children, root_nodes_from}
use Rattle.tree_model.specs.Sound.{is_attr}
use Rattle.tree_model.specs.declared.row.Row.{Row}
use Rattle.tree_model.specs.declared.text.Name.{Name}
use Rattle.tree_model.proofs.Relations.{weight, HasParent, has_parent, inside_in, TopIn, top_in, first_top, attr_in}
use Rattle.tree_model.proofs.Standing.{IsIn, in_append, in_right, node_places}
use Rattle.node_table.specs.Laid.{IsLaid, dist_at, size_at, asize_at, is_attr_at, up}
use Rattle.node_table.specs.Views.{view_of, view_forest, KeepsTrees}
use Rattle.node_table.proofs.NodeRows.{IsRowOf, some_row, root_row, child_row, attribute_row, node_of, node_inside, ends_within, Kin, root, child, attribute, kin, own_kinds, roots_plain, attrs_marked, later}

pub clash : (b : Bool) {A : Type 0} → b ≡ true → b ≡ false → A
clash true e f = absurd cc
clash false e f = absurd cc

module _ (names : List Name) (values : List ℕ) (rows : List Row) (trees : KeepsTrees (view_of rows names values)) where
  abbrev f : Forest Label
  f = view_forest (view_of rows names values)

  abbrev is_a : ℕ → Bool
  is_a p = is_attr_at rows p

  abbrev d_of : ℕ → ℕ
  d_of p = dist_at rows p

  abbrev s_of : ℕ → ℕ
  s_of p = size_at rows p

  abbrev a_of : ℕ → ℕ
  a_of p = asize_at rows p

  sizes : (x : Node Label) → IsIn (nodes f) x → (p : ℕ) → x.place ≡ p → (1 ≤ a_of p) × (a_of p ≤ s_of p) × (p + s_of p ≤ length rows)
  sizes x h p e = subst (λ q. (1 ≤ a_of q) × (a_of q ≤ s_of q) × (q + s_of q ≤ length rows)) e
      (let r = (some_row names values rows trees x h).1 in
      (omega (arith, r.asize), omega (arith, r.asize, r.size), omega (arith, r.size, ends_within names values rows trees x h)))

  dists : (w : Node Label) → Kin names values rows trees w → d_of w.place ≤ w.place
  dists w (root t) = let r = root_row names values rows trees w t in omega (arith, r.dist)
  dists w (child y h c) = let r = child_row names values rows trees y w h c in omega (arith, r.dist)
  dists w (attribute y h c) = let r = attribute_row names values rows trees y w h c in omega (arith, r.dist)

  -- a child stands behind its parent's attributes, and its subtree ends in its parent's
  pub child_at : (y w : Node Label) → IsIn (children y) w → (y.place + (1 + length y.attrs) ≤ w.place) × (w.place + weight w ≤ y.place + weight y)
  child_at y w c = let t = top_in (y.place + (1 + length y.attrs)) y.kids w c in (t.from, omega (arith, t.within))

  pub attribute_at : (y w : Node Label) → IsIn (attributes y) w → (y.place < w.place) × (w.place < y.place + (1 + length y.attrs)) × (weight w ≡ 1)
  attribute_at y w c = let t = attr_in (y.place + 1) y.attrs w c in (omega (arith, t.at), omega (arith, t.at, t.within), t.light)

  inside : (x w : Node Label) → IsIn (nodes f) x → IsIn (attributes x ++ below x) w → (0 < d_of w.place) × (x.place ≤ up rows w.place)
  inside x w h i =
      elim (in_append (attributes x) (below x) w i) [
        | inl a ↦ let r = attribute_row names values rows trees x w h a in let b = attribute_at x w a in (omega (arith, r.dist, b.0), omega (arith, r.dist, b.0))
        | inr k ↦ deeper (has_parent (x.place + (1 + length x.attrs)) x.kids w k)
      ]
    where
      by_parent : (y : Node Label) → IsIn (below x) y → IsIn (children y) w ⊎ IsIn (attributes y) w → (0 < d_of w.place) × (x.place ≤ up rows w.place)
      by_parent y k (inl c) =
          let y_in : IsIn (nodes f) y = inside_in 0 f x y h (in_right (attributes x) (below x) y k) in
          let r = child_row names values rows trees y w y_in c in
          let b = child_at y w c in
          let far = later (x.place + (1 + length x.attrs)) _ (below x) y (node_places (x.place + (1 + length x.attrs)) x.kids) k in
          (omega (arith, r.dist, b.0), omega (arith, r.dist, b.0, far))
      by_parent y k (inr a) =
          let y_in : IsIn (nodes f) y = inside_in 0 f x y h (in_right (attributes x) (below x) y k) in
          let r = attribute_row names values rows trees y w y_in a in
          let b = attribute_at y w a in
          let far = later (x.place + (1 + length x.attrs)) _ (below x) y (node_places (x.place + (1 + length x.attrs)) x.kids) k in
          (omega (arith, r.dist, b.0), omega (arith, r.dist, b.0, far))

      deeper : IsIn (root_nodes_from (x.place + (1 + length x.attrs)) x.kids) w ⊎ HasParent (x.place + (1 + length x.attrs)) x.kids w → (0 < d_of w.place) × (x.place ≤ up rows w.place)
      deeper (inl c) = let r = child_row names values rows trees x w h c in let b = child_at x w c in (omega (arith, r.dist, b.0), omega (arith, r.dist, b.0))
      deeper (inr y) = by_parent y.0 y.1 y.2

  abbrev Ends : ℕ → Type 0
  Ends r = (r < up rows r + s_of (up rows r)) × (r + s_of r ≤ up rows r + s_of (up rows r))

  -- once the parent's place is known
  parent_is : (r q d : ℕ) → d_of r ≡ d → d ≡ r - q → q ≤ r → up rows r ≡ q
  parent_is r q d e e' le = omega (arith, e, e')

  ends : (w : Node Label) → Kin names values rows trees w → 0 < d_of w.place → Ends w.place
  ends w (root t) pos = let r = root_row names values rows trees w t in absurd (omega (arith, r.dist, pos))
  ends w (child y h c) pos =
      let r = child_row names values rows trees y w h c in
      let b = child_at y w c in
      let q = (some_row names values rows trees y h).1 in
      let at : up rows w.place ≡ y.place = parent_is w.place y.place _ r.dist refl (omega (arith, b.0)) in
      let e : s_of (up rows w.place) ≡ weight y = ap s_of at ∙ q.size in
      (omega (arith, at, e, b.1, r.size), omega (arith, at, e, b.1, r.size))
  ends w (attribute y h c) pos =
      let r = attribute_row names values rows trees y w h c in
      let b = attribute_at y w c in
      let q = (some_row names values rows trees y h).1 in
      let at : up rows w.place ≡ y.place = parent_is w.place y.place _ r.dist refl (omega (arith, b.0)) in
      let e : s_of (up rows w.place) ≡ weight y = ap s_of at ∙ q.size in
      (omega (arith, at, e, b.1, r.size), omega (arith, at, e, b.1, b.2, r.size))

  pub marked : (y w : Node Label) → IsIn (nodes f) y → IsIn (attributes y) w → is_attr w.label ≡ true
  marked y w h c = attrs_marked (y.place + 1) y.attrs w (own_kinds 0 f y trees.kinds h).1 c

  pub plain : (y w : Node Label) → IsIn (nodes f) y → IsIn (children y) w → is_attr w.label ≡ false
  plain y w h c = roots_plain (y.place + (1 + length y.attrs)) y.kids w (own_kinds 0 f y trees.kinds h).2 c

  attributes_of : (x : Node Label) → IsIn (nodes f) x → (w : Node Label) → IsIn (attributes x ++ below x) w → w.place < x.place + (1 + length x.attrs)
      → (d_of w.place ≡ w.place - x.place) × (is_a w.place ≡ true) × (s_of w.place ≡ 1)
  attributes_of x h w i lt =
      elim (in_append (attributes x) (below x) w i) [
        | inl a ↦
            let r = attribute_row names values rows trees x w h a in
            (r.dist, r.kind ∙ marked x w h a, r.size ∙ (attribute_at x w a).2)
        | inr k ↦
            let far = later (x.place + (1 + length x.attrs)) _ (below x) w (node_places (x.place + (1 + length x.attrs)) x.kids) k in
            absurd (omega (arith, lt, far))
      ]

  owned : (w : Node Label) → Kin names values rows trees w → is_a w.place ≡ true → 0 < d_of w.place → w.place < up rows w.place + a_of (up rows w.place)
  owned w (root t) e pos = let r = root_row names values rows trees w t in absurd (omega (arith, r.dist, pos))
  owned w (child y h c) e pos = let r = child_row names values rows trees y w h c in clash (is_a w.place) e (r.kind ∙ plain y w h c)
  owned w (attribute y h c) e pos =
      let r = attribute_row names values rows trees y w h c in
      let b = attribute_at y w c in
      let q = (some_row names values rows trees y h).1 in
      let at : up rows w.place ≡ y.place = parent_is w.place y.place _ r.dist refl (omega (arith, b.0)) in
      let same : a_of (up rows w.place) ≡ 1 + length y.attrs = ap a_of at ∙ q.asize in
      omega (arith, at, same, b.1)

  first : (x : Node Label) → IsIn (nodes f) x → a_of x.place < s_of x.place → (d_of (x.place + a_of x.place) ≡ a_of x.place) × (is_a (x.place + a_of x.place) ≡ false)
  first x h lt =
      let q = (some_row names values rows trees x h).1 in
      let y = first_top (x.place + (1 + length x.attrs)) x.kids (omega (arith, q.asize, q.size, lt)) in
      let r = child_row names values rows trees x y.0 h y.1 in
      let at : x.place + a_of x.place ≡ (y.0).place = omega (arith, q.asize, y.2) in
      (ap d_of at ∙ r.dist ∙ omega (arith, q.asize, y.2), ap is_a at ∙ r.kind ∙ plain x y.0 h y.1)

  abbrev Next : ℕ → Type 0
  Next r = (d_of (r + s_of r) ≡ (r + s_of r) - up rows r) × (is_a (r + s_of r) ≡ false)

  next_child : (y w : Node Label) → IsIn (nodes f) y → IsIn (children y) w → TopIn Label (y.place + (1 + length y.attrs)) y.kids w
      → w.place + s_of w.place < up rows w.place + s_of (up rows w.place) → Next w.place
  next_child y w h c t lt =
      elim t.next [
        | inl e ↦ absurd (omega (arith, at, same, r.size, e, lt))
        | inr z ↦
            let k = child_row names values rows trees y z.0 h z.1 in
            let there : w.place + s_of w.place ≡ (z.0).place = omega (arith, r.size, z.2) in
            (ap d_of there ∙ k.dist ∙ omega (arith, there, at), ap is_a there ∙ k.kind ∙ plain y z.0 h z.1)
      ]
    where
      r : IsRowOf names values rows (w.place - y.place) w
      r = child_row names values rows trees y w h c

      at : up rows w.place ≡ y.place
      at = parent_is w.place y.place _ r.dist refl (omega (arith, t.from))

      same : s_of (up rows w.place) ≡ weight y
      same = ap s_of at ∙ ((some_row names values rows trees y h).1).size

  next : (w : Node Label) → Kin names values rows trees w → 0 < d_of w.place → is_a w.place ≡ false → w.place + s_of w.place < up rows w.place + s_of (up rows w.place) → Next w.place
  next w (root t) pos e lt = let r = root_row names values rows trees w t in absurd (omega (arith, r.dist, pos))
  next w (child y h c) pos e lt = next_child y w h c (top_in (y.place + (1 + length y.attrs)) y.kids w c) lt
  next w (attribute y h c) pos e lt = let r = attribute_row names values rows trees y w h c in clash (is_a w.place) (r.kind ∙ marked y w h c) e

  pub laid : IsLaid rows
  laid = record {
    sizes = λ p lt. let x = node_of names values rows trees p lt in sizes x.0 x.1 p x.2;
    dists = λ p lt. let x = node_of names values rows trees p lt in subst (λ q. d_of q ≤ q) x.2 (dists x.0 (kin names values rows trees x.0 x.1));
    inside = λ p r lt gt le.
        let x = node_of names values rows trees p lt in
        let q = (some_row names values rows trees x.0 x.1).1 in
        let size : s_of p ≡ weight x.0 = ap s_of (sym x.2) ∙ q.size in
        let w = node_inside names values rows trees x.0 r (omega (arith, x.2, gt)) (omega (arith, x.2, size, le)) in
        let i = inside x.0 w.0 x.1 w.1 in
        subst (λ n. (0 < d_of n) × (p ≤ up rows n)) w.2 (i.0, omega (arith, i.1, x.2));
    ends = λ r lt pos. let w = node_of names values rows trees r lt in subst (λ n. 0 < d_of n → Ends n) w.2 (ends w.0 (kin names values rows trees w.0 w.1)) pos;
    attributes = λ p r lt gt le.
        let x = node_of names values rows trees p lt in
        let q = (some_row names values rows trees x.0 x.1).1 in
        let asize : a_of p ≡ 1 + length (x.0).attrs = ap a_of (sym x.2) ∙ q.asize in
        let w = node_inside names values rows trees x.0 r (omega (arith, x.2, gt)) (omega (arith, x.2, asize, le)) in
        let a = attributes_of x.0 x.1 w.0 w.1 (omega (arith, w.2, x.2, asize, le)) in
        (ap d_of (sym w.2) ∙ a.0 ∙ omega (arith, w.2, x.2), ap is_a (sym w.2) ∙ a.1, ap s_of (sym w.2) ∙ a.2);
    owned = λ r lt e pos. let w = node_of names values rows trees r lt in subst (λ n. is_a n ≡ true → 0 < d_of n → n < up rows n + a_of (up rows n)) w.2 (owned w.0 (kin names values rows trees w.0 w.1)) e pos;
    first = λ p lt less. let x = node_of names values rows trees p lt in subst (λ n. a_of n < s_of n → (d_of (n + a_of n) ≡ a_of n) × (is_a (n + a_of n) ≡ false)) x.2 (first x.0 x.1) less;
    next = λ r lt pos e less.
        let w = node_of names values rows trees r lt in
        subst (λ n. 0 < d_of n → is_a n ≡ false → n + s_of n < up rows n + s_of (up rows n) → Next n) w.2 (next w.0 (kin names values rows trees w.0 w.1)) pos e less;
  }
