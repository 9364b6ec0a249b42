-- The axes of nodes are those of their rows.
use Rattle.std.proofs.Common.{◌≡◌, ◌≢◌, inl, inr, ℕ, zero, suc, ◌+◌, ◌<◌, ◌≤◌, Bool, true, false, not, cond, List, [], ◌∷◌, ◌++◌, length, map, refl, sym, ap, ap₂, ◌∙◌, subst, arith, append-nil, reverse}
use Rattle.std.specs.Prelude.{◌⊎◌, ◌&&◌, ◌||◌, nat_eq, nat_lt, nat_le, filter}
use Rattle.std.specs.Bool.{Decides}
use Rattle.std.specs.List.{flat_map, range_with_len}
use Rattle.std.proofs.lemmas.List.{map-append, reverse-append}
use Rattle.std.proofs.lemmas.List.Elements.{filter-append}
use Rattle.std.proofs.lemmas.Bool.{and_parts, and_from}
use Rattle.std.proofs.lemmas.Bool.Decides.{same_from_decides, Decides-and, Decides-not, Decides-like, Decides-ltb, Decides-at, leb_tells, eqb_tells}
use Rattle.tree_model.specs.Axes.{attributes, below, subtree, is_inside, is_parent, are_siblings, are_together, is_on, passes, is_principal, is_reverse, has_name, directed, axis_nodes}
use Rattle.tree_model.specs.Forest.{Forest, none, tree, count}
use Rattle.tree_model.specs.Labels.{Label}
use Rattle.tree_model.specs.Nodes.{Node, attr_nodes, nodes_from, nodes, root_nodes_from, root_nodes, children, is_among}
use Rattle.tree_model.specs.Rows.{label_of}
use Rattle.tree_model.specs.Sound.{is_attr}
use Rattle.tree_model.specs.declared.axis.Axis.{Axis}
use Rattle.tree_model.specs.declared.axis.Axis.TheVariants.{Child, Descendant, Attribute, Slf, DescendantOrSelf, FollowingSibling, Following, Parent, Ancestor, PrecedingSibling, Preceding, AncestorOrSelf}
use Rattle.tree_model.specs.declared.axis.Test.{Test}
use Rattle.tree_model.specs.declared.axis.Test.TheVariants as test
use Rattle.tree_model.specs.declared.row.Row.{Row}
use Rattle.tree_model.specs.declared.text.Name.{Name}
use Rattle.tree_model.proofs.Relations.{weight, inside_in}
use Rattle.tree_model.proofs.Standing.{IsIn, in_append, in_left, in_right, roots_in, children_in, node_places}
use Rattle.node_table.specs.Laid.{IsLaid, row_at, dist_at, size_at, is_attr_at, up}
use Rattle.axis_cursor.specs.RowAxes.{is_up, is_in, is_child, are_children, root_of, stands_on, row_places, row_passes}
use Rattle.node_table.specs.Views.{view_of, view_forest, KeepsTrees, places_of}
use Rattle.axis_cursor.specs.Trees.{node_at, axis_places}
use Rattle.axis_cursor.proofs.Membership.{decides_eq, any_found, any_there, among}
use Rattle.node_table.proofs.NodeRows.{IsRowOf, some_row, root_row, child_row, attribute_row, node_of, node_inside, inside_places, Kin, root, child, attribute, kin, later, before, same_node, nodes_counted, one_there}
use Rattle.node_table.proofs.Geometry.{laid, clash, child_at, attribute_at, marked, plain}

-- ---- tests that decide

decides_not : (b : Bool) → Decides (not b) (b ≡ false)
decides_not true = (λ e. absurd cc, λ e. absurd cc)
decides_not false = (λ e. refl, λ e. refl)

decides_itself : (b : Bool) → Decides b (b ≡ true)
decides_itself b = (λ e. e, λ e. e)

decides_le : (a b : ℕ) → Decides (nat_le a b) (a ≤ b)
decides_le a b = elim (leb_tells a b) [ inl h ↦ (λ e. h.1, λ e. h.0) | inr h ↦ (λ e. clash (nat_le a b) e h.0, λ e. let lt : b < a = h.1 in absurd (omega arith)) ]

-- ---- lists

filter_both : (p q : ℕ → Bool) (xs : List ℕ) → filter (λ x. p x && q x) xs ≡ filter q (filter p xs)
filter_both p q [] = refl
filter_both p q (x ∷ xs) = by (p x) (q x) refl (filter_both p q xs)
  where
    by : (a b : Bool) → q x ≡ b → filter (λ x. p x && q x) xs ≡ filter q (filter p xs) → cond (a && b) (x ∷ filter (λ x. p x && q x) xs) (filter (λ x. p x && q x) xs) ≡ filter q (cond a (x ∷ filter p xs) (filter p xs))
    by true true e more = ap (λ l. x ∷ l) more ∙ sym (ap (λ c. cond c (x ∷ filter q (filter p xs)) (filter q (filter p xs))) e)
    by true false e more = more ∙ sym (ap (λ c. cond c (x ∷ filter q (filter p xs)) (filter q (filter p xs))) e)
    by false b e more = more

map_reversed : (f : Node Label → ℕ) (xs : List (Node Label)) → map f (reverse xs) ≡ reverse (map f xs)
map_reversed f [] = refl
map_reversed f (x ∷ xs) =
    ap (map f) (reverse-append (x ∷ []) xs) ∙ map-append f (reverse xs) (x ∷ []) ∙ ap (λ l. l ++ f x ∷ []) (map_reversed f xs) ∙ sym (reverse-append (f x ∷ []) (map f xs))

filter_reversed : (p : ℕ → Bool) (xs : List ℕ) → filter p (reverse xs) ≡ reverse (filter p xs)
filter_reversed p [] = refl
filter_reversed p (x ∷ xs) =
    ap (filter p) (reverse-append (x ∷ []) xs) ∙ filter-append p (reverse xs) (x ∷ []) ∙ ap (λ l. l ++ filter p (x ∷ [])) (filter_reversed p xs) ∙ by (p x)
  where
    by : (b : Bool) → reverse (filter p xs) ++ cond b (x ∷ []) [] ≡ reverse (cond b (x ∷ filter p xs) (filter p xs))
    by true = sym (reverse-append (x ∷ []) (filter p xs))
    by false = append-nil (reverse (filter p xs))

module _ (names : List Name) (values : List ℕ) (rows : List Row) (trees : KeepsTrees (view_of rows names values)) where
  abbrev f : Forest Label
  f = view_forest (view_of rows names values)

  rows_laid : IsLaid rows
  rows_laid = laid names values rows trees

  size_is : (a : Node Label) → IsIn (nodes f) a → size_at rows a.place ≡ weight a
  size_is a h = ((some_row names values rows trees a h).1).size

  -- ---- subtrees

  inside_is : (a b : Node Label) → IsIn (nodes f) a → IsIn (nodes f) b → Decides (is_among (attributes a ++ below a) b) ((a.place < b.place) × (b.place < a.place + size_at rows a.place))
  inside_is a b h k =
      Decides-like (is_among (attributes a ++ below a) b)
      (λ i. (omega (arith, later (a.place + 1) _ (attributes a ++ below a) b (inside_places names values rows trees a) i), omega (arith, before (a.place + 1) _ (attributes a ++ below a) b (inside_places names values rows trees a) i, size_is a h)))
      (λ le.
      let lt : a.place < b.place = le.0 in
      let gt : b.place < a.place + size_at rows a.place = le.1 in
      let w = node_inside names values rows trees a b.place lt (omega (arith, gt, size_is a h)) in
      subst (IsIn (attributes a ++ below a)) (same_node f w.0 b (inside_in 0 f a w.0 h w.1) k w.2) w.1)
      (among f (attributes a ++ below a) (λ x i. inside_in 0 f a x h i) b k)

  inside_test : (a b : Node Label) → IsIn (nodes f) a → IsIn (nodes f) b → is_inside a b ≡ is_in rows a.place b.place
  unfolding is_inside
  inside_test a b h k =
      same_from_decides (is_among (attributes a ++ below a) b) (is_in rows a.place b.place) (inside_is a b h k)
      (Decides-and (nat_lt a.place b.place) (nat_lt b.place (a.place + size_at rows a.place)) (Decides-ltb a.place b.place) (Decides-ltb b.place (a.place + size_at rows a.place)))

  attr_is : (b : Node Label) → IsIn (nodes f) b → is_attr b.label ≡ is_attr_at rows b.place
  attr_is b k = sym (((some_row names values rows trees b k).1).kind)

  -- ---- children and attributes

  abbrev IsUp : Node Label → Node Label → Type 0
  IsUp a b = (0 < dist_at rows b.place) × (b.place ≡ a.place + dist_at rows b.place)

  is_up_test : (a b : Node Label) → Decides (is_up rows a.place b.place) (IsUp a b)
  is_up_test a b = Decides-and (nat_lt 0 (dist_at rows b.place)) (nat_eq b.place (a.place + dist_at rows b.place)) (Decides-ltb 0 (dist_at rows b.place)) (decides_eq b.place (a.place + dist_at rows b.place))

  child_up : (a b : Node Label) → IsIn (nodes f) a → IsIn (children a) b → IsUp a b × (is_attr_at rows b.place ≡ false)
  child_up a b h c =
      let r = child_row names values rows trees a b h c in
      let at = child_at names values rows trees a b c in
      ((omega (arith, r.dist, at.0), omega (arith, r.dist, at.0)), r.kind ∙ plain names values rows trees a b h c)

  attribute_up : (a b : Node Label) → IsIn (nodes f) a → IsIn (attributes a) b → IsUp a b × (is_attr_at rows b.place ≡ true)
  attribute_up a b h c =
      let r = attribute_row names values rows trees a b h c in
      let at = attribute_at names values rows trees a b c in
      ((omega (arith, r.dist, at.0), omega (arith, r.dist, at.0)), r.kind ∙ marked names values rows trees a b h c)

  -- the node that a row leads up to is the parent
  same_parent : (a y b : Node Label) → IsIn (nodes f) a → IsIn (nodes f) y → IsUp a b → IsUp y b → y ≡ a
  same_parent a y b h k up' up'' = same_node f y a k h (let e : b.place ≡ a.place + dist_at rows b.place = up'.1 in let e' : b.place ≡ y.place + dist_at rows b.place = up''.1 in omega arith)

  up_child : (a b : Node Label) → IsIn (nodes f) a → Kin names values rows trees b → IsUp a b → is_attr_at rows b.place ≡ false → IsIn (children a) b
  up_child a b h (root t) is e = let r = root_row names values rows trees b t in let pos : 0 < dist_at rows b.place = is.0 in absurd (omega (arith, r.dist))
  up_child a b h (child y k c) is e = subst (λ (x : Node Label). IsIn (children x) b) (same_parent a y b h k is (child_up y b k c).0) c
  up_child a b h (attribute y k c) is e = clash (is_attr_at rows b.place) (attribute_up y b k c).1 e

  up_attribute : (a b : Node Label) → IsIn (nodes f) a → Kin names values rows trees b → IsUp a b → is_attr_at rows b.place ≡ true → IsIn (attributes a) b
  up_attribute a b h (root t) is e = let r = root_row names values rows trees b t in let pos : 0 < dist_at rows b.place = is.0 in absurd (omega (arith, r.dist))
  up_attribute a b h (child y k c) is e = clash (is_attr_at rows b.place) e (child_up y b k c).1
  up_attribute a b h (attribute y k c) is e = subst (λ (x : Node Label). IsIn (attributes x) b) (same_parent a y b h k is (attribute_up y b k c).0) c

  children_test : (a b : Node Label) → IsIn (nodes f) a → IsIn (nodes f) b → is_among (children a) b ≡ (is_up rows a.place b.place && not (is_attr_at rows b.place))
  children_test a b h k =
      same_from_decides (is_among (children a) b) (is_up rows a.place b.place && not (is_attr_at rows b.place))
      (among f (children a) (λ x c. children_in 0 f a x h c) b k)
      (Decides-like (is_up rows a.place b.place && not (is_attr_at rows b.place)) (λ is. up_child a b h (kin names values rows trees b k) is.0 is.1) (child_up a b h)
      (Decides-and (is_up rows a.place b.place) (not (is_attr_at rows b.place)) (is_up_test a b) (decides_not (is_attr_at rows b.place))))

  attribute_within : (a x : Node Label) → IsIn (nodes f) a → IsIn (attributes a) x → IsIn (nodes f) x
  attribute_within a x h c = inside_in 0 f a x h (in_left (attributes a) (below a) x c)

  attributes_test : (a b : Node Label) → IsIn (nodes f) a → IsIn (nodes f) b → is_among (attributes a) b ≡ (is_up rows a.place b.place && is_attr_at rows b.place)
  attributes_test a b h k =
      same_from_decides (is_among (attributes a) b) (is_up rows a.place b.place && is_attr_at rows b.place)
      (among f (attributes a) (λ x c. attribute_within a x h c) b k)
      (Decides-like (is_up rows a.place b.place && is_attr_at rows b.place) (λ is. up_attribute a b h (kin names values rows trees b k) is.0 is.1) (attribute_up a b h)
      (Decides-and (is_up rows a.place b.place) (is_attr_at rows b.place) (is_up_test a b) (decides_itself (is_attr_at rows b.place))))

  parent_in : (a b : Node Label) → IsIn (nodes f) a → IsIn (attributes a ++ children a) b → IsUp a b
  parent_in a b h c = elim (in_append (attributes a) (children a) b c) [ inl at ↦ (attribute_up a b h at).0 | inr kid ↦ (child_up a b h kid).0 ]

  in_parent : (a b : Node Label) → IsIn (nodes f) a → Kin names values rows trees b → IsUp a b → IsIn (attributes a ++ children a) b
  in_parent a b h (root t) is = let r = root_row names values rows trees b t in let pos : 0 < dist_at rows b.place = is.0 in absurd (omega (arith, r.dist))
  in_parent a b h (child y k c) is = in_right (attributes a) (children a) b (subst (λ (x : Node Label). IsIn (children x) b) (same_parent a y b h k is (child_up y b k c).0) c)
  in_parent a b h (attribute y k c) is = in_left (attributes a) (children a) b (subst (λ (x : Node Label). IsIn (attributes x) b) (same_parent a y b h k is (attribute_up y b k c).0) c)

  parent_test : (a b : Node Label) → IsIn (nodes f) a → IsIn (nodes f) b → is_parent a b ≡ is_up rows a.place b.place
  unfolding is_parent
  parent_test a b h k =
      same_from_decides (is_among (attributes a ++ children a) b) (is_up rows a.place b.place)
      (Decides-like (is_among (attributes a ++ children a) b) (parent_in a b h) (in_parent a b h (kin names values rows trees b k))
      (among f (attributes a ++ children a) (λ x c. elim (in_append (attributes a) (children a) x c) [ inl at ↦ attribute_within a x h at | inr kid ↦ children_in 0 f a x h kid ]) b k))
      (is_up_test a b)

  -- ---- what is below a node, without attributes

  below_plain : (a b : Node Label) → IsIn (nodes f) a → IsIn (nodes f) b → (is_among (below a) b && not (is_attr b.label)) ≡ (is_in rows a.place b.place && not (is_attr_at rows b.place))
  unfolding is_inside
  below_plain a b h k =
      let whole : List (Node Label) = attributes a ++ below a in
      same_from_decides (is_among (below a) b && not (is_attr b.label)) (is_in rows a.place b.place && not (is_attr_at rows b.place))
      (Decides-like (is_among (below a) b && not (is_attr b.label))
      (λ (is : IsIn (below a) b × (is_attr b.label ≡ false)). (in_right (attributes a) (below a) b is.0, sym (attr_is b k) ∙ is.1))
      (λ (is : IsIn whole b × (is_attr_at rows b.place ≡ false)).
      (elim (in_append (attributes a) (below a) b is.0) [ inl at ↦ clash (is_attr_at rows b.place) (attribute_up a b h at).1 is.1 | inr under ↦ under ], attr_is b k ∙ is.1))
      (Decides-and (is_among (below a) b) (not (is_attr b.label)) (among f (below a) (λ x i. inside_in 0 f a x h (in_right (attributes a) (below a) x i)) b k) (decides_not (is_attr b.label))))
      (Decides-at (is_in rows a.place b.place && not (is_attr_at rows b.place)) (is_among whole b && not (is_attr_at rows b.place)) (ap (λ c. c && not (is_attr_at rows b.place)) (sym (inside_test a b h k)))
      (Decides-and (is_among whole b) (not (is_attr_at rows b.place)) (among f whole (λ x i. inside_in 0 f a x h i) b k) (decides_not (is_attr_at rows b.place))))

  -- ---- siblings

  abbrev IsSomeChild : Node Label → Type 0
  IsSomeChild a = (0 < dist_at rows a.place) × (is_attr_at rows a.place ≡ false)

  abbrev AreBrothers : Node Label → Node Label → Type 0
  AreBrothers a b = (IsSomeChild a × IsSomeChild b) × (up rows a.place ≡ up rows b.place)

  up_of : (y b : Node Label) → IsUp y b → up rows b.place ≡ y.place
  up_of y b is = let e : b.place ≡ y.place + dist_at rows b.place = is.1 in omega arith

  with_parent : (a b : Node Label) → IsIn (nodes f) b → Kin names values rows trees a → AreBrothers a b → (y : Node Label) × IsIn (nodes f) y × (IsIn (children y) a × IsIn (children y) b)
  with_parent a b k (root t) is = let r = root_row names values rows trees a t in let pos : 0 < dist_at rows a.place = ((is.0).0).0 in absurd (omega (arith, r.dist))
  with_parent a b k (attribute y h c) is = clash (is_attr_at rows a.place) (attribute_up y a h c).1 ((is.0).0).1
  with_parent a b k (child y h c) is =
      let own : up rows a.place ≡ y.place = up_of y a (child_up y a h c).0 in
      let pos : 0 < dist_at rows b.place = ((is.0).1).0 in
      let same : up rows a.place ≡ up rows b.place = is.1 in
      let le = (rows_laid).dists b.place (((some_row names values rows trees b k).1).within) in
      let is_b : IsUp y b = (pos, omega (arith, own, same, le, pos)) in
      (y, h, (c, up_child y b h (kin names values rows trees b k) is_b ((is.0).1).1))

  child_decides : (a : Node Label) → Decides (is_child rows a.place) (IsSomeChild a)
  child_decides a = Decides-and (nat_lt 0 (dist_at rows a.place)) (not (is_attr_at rows a.place)) (Decides-ltb 0 (dist_at rows a.place)) (decides_not (is_attr_at rows a.place))

  are_brothers : (a b : Node Label) → Decides (are_children rows a.place b.place) (AreBrothers a b)
  are_brothers a b =
      Decides-and (is_child rows a.place && is_child rows b.place) (nat_eq (up rows a.place) (up rows b.place))
      (Decides-and (is_child rows a.place) (is_child rows b.place) (child_decides a) (child_decides b)) (decides_eq (up rows a.place) (up rows b.place))

  in_kids : (y b : Node Label) → IsIn (nodes f) y → IsIn (nodes f) b → Decides (is_among (children y) b) (IsIn (children y) b)
  in_kids y b h k = among f (children y) (λ x c. children_in 0 f y x h c) b k

  siblings_test : (a b : Node Label) → IsIn (nodes f) a → IsIn (nodes f) b → are_siblings f a b ≡ are_children rows a.place b.place
  unfolding are_siblings
  siblings_test a b h k =
      same_from_decides (are_siblings f a b) (are_children rows a.place b.place) (
        λ e.
            let y = any_found (λ parent. is_among (children parent) a && is_among (children parent) b) (nodes f) e in
            let both = and_parts (is_among (children y.0) a) (is_among (children y.0) b) y.2 in
            let one = child_up y.0 a y.1 ((in_kids y.0 a y.1 h).0 both.0) in
            let two = child_up y.0 b y.1 ((in_kids y.0 b y.1 k).0 both.1) in
            ((((one.0).0, one.1), ((two.0).0, two.1)), up_of y.0 a one.0 ∙ sym (up_of y.0 b two.0)),
        λ is.
            let y = with_parent a b k (kin names values rows trees a h) is in
            any_there (λ parent. is_among (children parent) a && is_among (children parent) b) (nodes f) y.0 y.1
            (and_from (is_among (children y.0) a) (is_among (children y.0) b) ((in_kids y.0 a y.1 h).1 (y.2).0) ((in_kids y.0 b y.1 k).1 (y.2).1)),
      ) (are_brothers a b)

  -- ---- trees

  under_root : (n : ℕ) (g : Forest Label) (x : Node Label) → IsIn (nodes_from n g) x → (t : Node Label) × IsIn (root_nodes_from n g) t × IsIn (subtree t) x
  under_root n none x h = absurd h
  under_root n (tree label attrs kids rest) x (inl e) = (record { place = n; label = label; attrs = attrs; kids = kids }, inl refl, inl e)
  under_root n (tree label attrs kids rest) x (inr h) =
      let own : Node Label = record { place = n; label = label; attrs = attrs; kids = kids } in
      let al : List (Node Label) = attr_nodes (n + 1) attrs in
      let ks : List (Node Label) = nodes_from (n + (1 + length attrs)) kids in
      let rs : List (Node Label) = nodes_from (n + (1 + length attrs + count kids)) rest in
      elim (in_append al (ks ++ rs) x h) [
        | inl at ↦ (own, inl refl, inr (in_left al ks x at))
        | inr more ↦ elim (in_append ks rs x more) [
          | inl kid ↦ (own, inl refl, inr (in_right al ks x kid))
          | inr r ↦ let t = under_root (n + (1 + length attrs + count kids)) rest x r in (t.0, inr t.1, t.2)
        ]
      ]

  -- from a root on to its subtree's end it is the root
  root_from : (t : Node Label) → IsIn (root_nodes f) t → (p : ℕ) → t.place ≤ p → p < t.place + size_at rows t.place → root_of rows p ≡ t.place
  root_from t h zero le lt = omega arith
  root_from t h (suc p) le lt = by (λ le lt. root_from t h p le lt) (eqb_tells t.place (suc p))
    where
      k : IsIn (nodes f) t
      k = roots_in 0 f t h

      r : IsRowOf names values rows 0 t
      r = root_row names values rows trees t h

      by : (t.place ≤ p → p < t.place + size_at rows t.place → root_of rows p ≡ t.place) → ((nat_eq t.place (suc p) ≡ true) × (t.place ≡ suc p)) ⊎ ((nat_eq t.place (suc p) ≡ false) × (t.place ≢ suc p)) → root_of rows (suc p) ≡ t.place
      by more (inl e) =
          let none_up : dist_at rows (suc p) ≡ 0 = ap (dist_at rows) (sym e.1) ∙ r.dist in
          ap (λ b. cond b (suc p) (root_of rows p)) ((decides_eq (dist_at rows (suc p)) 0).1 none_up) ∙ sym e.1
      by more (inr e) =
          let apart : t.place ≢ suc p = e.1 in
          let some_up = (rows_laid).inside t.place (suc p) r.within (omega (arith, apart)) lt in
          let pos : 0 < dist_at rows (suc p) = some_up.0 in
          let differs : nat_eq (dist_at rows (suc p)) 0 ≡ false = elim (eqb_tells (dist_at rows (suc p)) 0) [ inl z ↦ absurd (omega (arith, z.1)) | inr z ↦ z.0 ] in
          ap (λ b. cond b (suc p) (root_of rows p)) differs ∙ more (omega arith) (omega arith)

  in_subtree : (t b : Node Label) → IsIn (nodes f) t → IsIn (nodes f) b → IsIn (subtree t) b → (t.place ≤ b.place) × (b.place < t.place + size_at rows t.place)
  in_subtree t b h k (inl e) = let same : t.place ≡ b.place = ap (λ (y : Node Label). y.place) e in (omega arith, omega (arith, size_is t h))
  in_subtree t b h k (inr i) = let le = (inside_is t b h k).0 ((among f (attributes t ++ below t) (λ x j. inside_in 0 f t x h j) b k).1 i) in (omega (arith, le.0), le.1)

  root_is : (t b : Node Label) → IsIn (root_nodes f) t → IsIn (nodes f) b → IsIn (subtree t) b → root_of rows b.place ≡ t.place
  root_is t b h k i = let at = in_subtree t b (roots_in 0 f t h) k i in root_from t h b.place at.0 at.1

  within_tree : (t x : Node Label) → IsIn (nodes f) t → IsIn (subtree t) x → IsIn (nodes f) x
  within_tree t x h (inl e) = subst (IsIn (nodes f)) e h
  within_tree t x h (inr i) = inside_in 0 f t x h i

  in_tree : (t b : Node Label) → IsIn (root_nodes f) t → IsIn (nodes f) b → Decides (is_among (subtree t) b) (IsIn (subtree t) b)
  in_tree t b h k = among f (subtree t) (λ x i. within_tree t x (roots_in 0 f t h) i) b k

  together_test : (a b : Node Label) → IsIn (nodes f) a → IsIn (nodes f) b → are_together f a b ≡ nat_eq (root_of rows a.place) (root_of rows b.place)
  unfolding are_together
  together_test a b h k =
      same_from_decides (are_together f a b) (nat_eq (root_of rows a.place) (root_of rows b.place)) (
        λ e.
            let t = any_found (λ root. is_among (subtree root) a && is_among (subtree root) b) (root_nodes f) e in
            let both = and_parts (is_among (subtree t.0) a) (is_among (subtree t.0) b) t.2 in
            root_is t.0 a t.1 h ((in_tree t.0 a t.1 h).0 both.0) ∙ sym (root_is t.0 b t.1 k ((in_tree t.0 b t.1 k).0 both.1)),
        λ e.
            let t = under_root 0 f a h in
            let u = under_root 0 f b k in
            let same : (u.0).place ≡ (t.0).place = sym (root_is u.0 b u.1 k u.2) ∙ sym e ∙ root_is t.0 a t.1 h t.2 in
            let one : u.0 ≡ t.0 = same_node f u.0 t.0 (roots_in 0 f u.0 u.1) (roots_in 0 f t.0 t.1) same in
            any_there (λ root. is_among (subtree root) a && is_among (subtree root) b) (root_nodes f) t.0 t.1
            (and_from (is_among (subtree t.0) a) (is_among (subtree t.0) b) ((in_tree t.0 a t.1 h).1 t.2) ((in_tree t.0 b t.1 k).1 (subst (λ (x : Node Label). IsIn (subtree x) b) one u.2))),
      ) (decides_eq (root_of rows a.place) (root_of rows b.place))

  -- ---- the axes

  behind_test : (c p : ℕ) → c < length rows → (nat_lt c p && not (is_in rows c p)) ≡ nat_le (c + size_at rows c) p
  behind_test c p lt =
      let big = ((rows_laid).sizes c lt) in
      same_from_decides (nat_lt c p && not (is_in rows c p)) (nat_le (c + size_at rows c) p)
      (Decides-like (nat_lt c p && not (is_in rows c p))
      (λ (is : (c < p) × ((c < p) × (p < c + size_at rows c) → ⊥)). let after : c < p = is.0 in elim (leb_tells (c + size_at rows c) p) [ inl h ↦ h.1 | inr h ↦ absurd (is.1 (after, h.1)) ])
      (λ le. let one : 1 ≤ size_at rows c = omega (arith, big.0, big.1) in (omega arith, λ (in_it : (c < p) × (p < c + size_at rows c)). let less : p < c + size_at rows c = in_it.1 in omega arith))
      (Decides-and (nat_lt c p) (not (is_in rows c p)) (Decides-ltb c p) (Decides-not (is_in rows c p) (Decides-and (nat_lt c p) (nat_lt p (c + size_at rows c)) (Decides-ltb c p) (Decides-ltb p (c + size_at rows c))))))
      (decides_le (c + size_at rows c) p)

  pub on_is : (axis : Axis) (c n : Node Label) → IsIn (nodes f) c → IsIn (nodes f) n → is_on f axis c n ≡ stands_on rows axis c.place n.place
  unfolding stands_on
  on_is Child c n h k = children_test c n h k
  on_is Descendant c n h k = below_plain c n h k
  on_is Attribute c n h k = attributes_test c n h k
  on_is Slf c n h k = refl
  on_is DescendantOrSelf c n h k = ap (λ b. nat_eq c.place n.place || b) (below_plain c n h k)
  on_is FollowingSibling c n h k = ap (λ b. nat_lt c.place n.place && b) (siblings_test c n h k)
  on_is Following c n h k =
      ap (λ b. nat_lt c.place n.place && not b && are_together f c n && not (is_attr n.label)) (inside_test c n h k)
      ∙ ap (λ b. b && are_together f c n && not (is_attr n.label)) (behind_test c.place n.place (((some_row names values rows trees c h).1).within))
      ∙ ap₂ (λ x y. nat_le (c.place + size_at rows c.place) n.place && x && not y) (together_test c n h k) (attr_is n k)
  on_is Parent c n h k = parent_test n c k h
  on_is Ancestor c n h k = inside_test n c k h
  on_is PrecedingSibling c n h k = ap (λ b. nat_lt n.place c.place && b) (siblings_test c n h k)
  on_is Preceding c n h k =
      ap (λ b. nat_lt n.place c.place && not b && are_together f c n && not (is_attr n.label)) (inside_test n c k h)
      ∙ ap₂ (λ x y. nat_lt n.place c.place && not (is_in rows n.place c.place) && x && not y) (together_test c n h k) (attr_is n k)
  on_is AncestorOrSelf c n h k = ap (λ b. nat_eq c.place n.place || b) (inside_test n c k h)

  -- ---- node tests

  principal_is : (axis : Axis) (row : Row) → is_principal axis (label_of names values row) ≡ is_principal axis (label_of names [] row)
  principal_is Child row = refl
  principal_is Descendant row = refl
  principal_is Attribute row = refl
  principal_is Slf row = refl
  principal_is DescendantOrSelf row = refl
  principal_is FollowingSibling row = refl
  principal_is Following row = refl
  principal_is Parent row = refl
  principal_is Ancestor row = refl
  principal_is PrecedingSibling row = refl
  principal_is Preceding row = refl
  principal_is AncestorOrSelf row = refl

  no_value : (axis : Axis) (test : Test) (row : Row) → passes axis test (label_of names values row) ≡ passes axis test (label_of names [] row)
  no_value axis test.Node row = refl
  no_value axis test.Text row = refl
  no_value axis test.Comment row = refl
  no_value axis test.Document row = refl
  no_value axis (test.Pi target) row = refl
  no_value axis (test.Principal uri local) row = ap (λ b. b && has_name uri local (label_of names [] row).name) (principal_is axis row)
  no_value axis (test.Element uri local) row = refl
  no_value axis (test.Attribute uri local) row = refl

  pub passes_is : (axis : Axis) (test : Test) (n : Node Label) → IsIn (nodes f) n → passes axis test n.label ≡ row_passes names rows axis test n.place
  passes_is axis test n k = ap (passes axis test) (sym (((some_row names values rows trees n k).1).label)) ∙ no_value axis test (row_at rows n.place)

  -- ---- the places of an axis

  filter_places : (p : Node Label → Bool) (q : ℕ → Bool) (xs : List (Node Label)) → ((x : Node Label) → IsIn xs x → p x ≡ q x.place) → places_of (filter p xs) ≡ filter q (places_of xs)
  filter_places p q [] agree = refl
  filter_places p q (x ∷ xs) agree = by (p x) (q x.place) (agree x (inl refl)) (filter_places p q xs (λ y h. agree y (inr h)))
    where
      by : (a b : Bool) → a ≡ b → places_of (filter p xs) ≡ filter q (places_of xs) → places_of (cond a (x ∷ filter p xs) (filter p xs)) ≡ cond b (x.place ∷ filter q (places_of xs)) (filter q (places_of xs))
      by true true e more = ap (λ l. x.place ∷ l) more
      by true false e more = absurd cc
      by false true e more = absurd cc
      by false false e more = more

  directed_places : (axis : Axis) (xs : List (Node Label)) → places_of (directed axis xs) ≡ directed axis (places_of xs)
  directed_places axis xs = by (is_reverse axis)
    where
      by : (b : Bool) → places_of (cond b (reverse xs) xs) ≡ cond b (reverse (places_of xs)) (places_of xs)
      by true = map_reversed (λ (y : Node Label). y.place) xs
      by false = refl

  filter_directed : (axis : Axis) (q : ℕ → Bool) (xs : List ℕ) → filter q (directed axis xs) ≡ directed axis (filter q xs)
  filter_directed axis q xs = by (is_reverse axis)
    where
      by : (b : Bool) → filter q (cond b (reverse xs) xs) ≡ cond b (reverse (filter q xs)) (filter q xs)
      by true = filter_reversed q xs
      by false = refl

  pub axis_places_are : (axis : Axis) (test : Test) (c : ℕ) → c < length rows → axis_places f axis test c ≡ filter (row_passes names rows axis test) (row_places rows axis c)
  unfolding axis_places
  axis_places_are axis test c lt =
      let x = node_of names values rows trees c lt in
      let both : Node Label → Bool = λ (n : Node Label). is_on f axis x.0 n && passes axis test n.label in
      ap (λ m. places_of (flat_map (axis_nodes f axis test) (node_at f m))) (sym x.2)
      ∙ ap (λ l. places_of (flat_map (axis_nodes f axis test) l)) (one_there 0 (count f) (nodes f) x.0 (node_places 0 f) x.1)
      ∙ ap places_of (append-nil (axis_nodes f axis test x.0))
      ∙ directed_places axis (filter both (nodes f))
      ∙ ap (directed axis)
      (filter_places both (λ p. stands_on rows axis (x.0).place p && row_passes names rows axis test p) (nodes f) (λ n k. ap₂ (λ a b. a && b) (on_is axis x.0 n x.1 k) (passes_is axis test n k))
      ∙ ap₂ (λ m l. filter (λ p. stands_on rows axis m p && row_passes names rows axis test p) l) x.2 (node_places 0 f ∙ ap (range_with_len 0) (nodes_counted names values rows trees))
      ∙ filter_both (stands_on rows axis c) (row_passes names rows axis test) (range_with_len 0 (length rows)))
      ∙ sym (filter_directed axis (row_passes names rows axis test) (filter (stands_on rows axis c) (range_with_len 0 (length rows))))
