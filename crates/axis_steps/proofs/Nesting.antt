-- Subtrees and trees, by the numbers of rows.
use Rattle.std.proofs.Common.{◌≡◌, ◌≢◌, inl, inr, ℕ, zero, suc, ◌+◌, ◌<◌, ◌≤◌, Bool, true, false, not, List, length, refl, sym, ap, ◌∙◌, subst, arith}
use Rattle.std.specs.Prelude.{◌⊎◌, ◌&&◌, nat_eq, nat_lt, nat_le}
use Rattle.std.proofs.lemmas.Bool.{and_parts, and_from, or_right, or_cases}
use Rattle.std.proofs.lemmas.Bool.Decides.{eqb_tells, leb_tells, Decides-ltb}
use Rattle.tree_model.specs.declared.axis.Axis.TheVariants.{Descendant, DescendantOrSelf, Following, Preceding}
use Rattle.tree_model.specs.declared.row.Row.{Row}
use Rattle.node_table.specs.Laid.{IsLaid, dist_at, size_at, is_attr_at, up}
use Rattle.axis_cursor.specs.RowAxes.{is_in, root_of, stands_on}
use Rattle.axis_cursor.proofs.Roots.{root_same}
use Rattle.axis_cursor.proofs.Relations.{in_parts, in_is, not_in}

module _ (rows : List Row) (laid : IsLaid rows) where
  pub big : (p : ℕ) → p < length rows → 1 ≤ size_at rows p
  big p lt = let s = laid.sizes p lt in omega (arith, s.0, s.1)

  -- a subtree inside another ends in it
  nested_up_to : (n p r : ℕ) → r ≤ n → p < length rows → p < r → r < p + size_at rows p → r + size_at rows r ≤ p + size_at rows p
  nested_up_to zero p r le lt gt inside = absurd (omega arith)
  nested_up_to (suc n) p r le lt gt inside = by (eqb_tells (up rows r) p) (λ after. nested_up_to n p (up rows r) (omega (arith, i.0)) lt after (omega (arith, i.0)))
    where
      i : (0 < dist_at rows r) × (p ≤ up rows r)
      i = laid.inside p r lt gt inside

      within : r < length rows
      within = let s = laid.sizes p lt in omega (arith, s.2)

      e : (r < up rows r + size_at rows (up rows r)) × (r + size_at rows r ≤ up rows r + size_at rows (up rows r))
      e = laid.ends r within i.0

      by : ((nat_eq (up rows r) p ≡ true) × (up rows r ≡ p)) ⊎ ((nat_eq (up rows r) p ≡ false) × (up rows r ≢ p)) → (p < up rows r → up rows r + size_at rows (up rows r) ≤ p + size_at rows p) → r + size_at rows r ≤ p + size_at rows p
      by (inl same) more = subst (λ q. r + size_at rows r ≤ q + size_at rows q) same.1 e.1
      by (inr apart) more = let ne : up rows r ≢ p = apart.1 in let le' = i.1 in let after : p < up rows r = omega arith in omega (arith, e.1, more after)

  pub nested : (p r : ℕ) → p < length rows → p < r → r < p + size_at rows p → r + size_at rows r ≤ p + size_at rows p
  nested p r lt gt inside = nested_up_to r p r (omega arith) lt gt inside

  pub within_of : (p r : ℕ) → p < length rows → r < p + size_at rows p → r < length rows
  within_of p r lt inside = let s = laid.sizes p lt in omega (arith, s.2)

  -- a subtree stands in one tree
  pub one_tree : (p r : ℕ) → p < length rows → p ≤ r → r < p + size_at rows p → root_of rows r ≡ root_of rows p
  one_tree p r lt le inside = root_same rows p r le (λ k gt le'. (laid.inside p k lt gt (omega arith)).0)

  -- ---- what stands on an axis

  pub record IsFollowing (c p : ℕ) : Type 0 where
    pub behind : c + size_at rows c ≤ p
    pub tree : root_of rows c ≡ root_of rows p
    pub plain : not (is_attr_at rows p) ≡ true

  le_parts : (a b : ℕ) → nat_le a b ≡ true → a ≤ b
  le_parts a b e = elim (leb_tells a b) [ inl h ↦ h.1 | inr h ↦ absurd (untrue (nat_le a b) e h.0) ]
    where
      untrue : (b : Bool) → b ≡ true → b ≡ false → ⊥
      untrue true e f = absurd cc
      untrue false e f = absurd cc

  le_from : (a b : ℕ) → a ≤ b → nat_le a b ≡ true
  le_from a b le = elim (leb_tells a b) [ inl h ↦ h.0 | inr h ↦ let lt : b < a = h.1 in absurd (omega arith) ]

  eq_parts : (a b : ℕ) → nat_eq a b ≡ true → a ≡ b
  eq_parts a b e = elim (eqb_tells a b) [ inl h ↦ h.1 | inr h ↦ absurd (untrue (nat_eq a b) e h.0) ]
    where
      untrue : (b : Bool) → b ≡ true → b ≡ false → ⊥
      untrue true e f = absurd cc
      untrue false e f = absurd cc

  eq_from : (a b : ℕ) → a ≡ b → nat_eq a b ≡ true
  eq_from a b same = elim (eqb_tells a b) [ inl h ↦ h.0 | inr h ↦ absurd (h.1 same) ]

  pub following_parts : (c p : ℕ) → stands_on rows Following c p ≡ true → IsFollowing c p
  unfolding stands_on
  following_parts c p e =
      let two = and_parts (nat_le (c + size_at rows c) p && nat_eq (root_of rows c) (root_of rows p)) (not (is_attr_at rows p)) e in
      let one = and_parts (nat_le (c + size_at rows c) p) (nat_eq (root_of rows c) (root_of rows p)) two.0 in
      record { behind = le_parts (c + size_at rows c) p one.0; tree = eq_parts (root_of rows c) (root_of rows p) one.1; plain = two.1 }

  pub following_is : (c p : ℕ) → IsFollowing c p → stands_on rows Following c p ≡ true
  unfolding stands_on
  following_is c p is =
      and_from (nat_le (c + size_at rows c) p && nat_eq (root_of rows c) (root_of rows p)) (not (is_attr_at rows p))
      (and_from (nat_le (c + size_at rows c) p) (nat_eq (root_of rows c) (root_of rows p)) (le_from (c + size_at rows c) p is.behind) (eq_from (root_of rows c) (root_of rows p) is.tree)) is.plain

  pub record IsPreceding (c p : ℕ) : Type 0 where
    pub before : p < c
    pub apart : not (is_in rows p c) ≡ true
    pub tree : root_of rows c ≡ root_of rows p
    pub plain : not (is_attr_at rows p) ≡ true

  pub preceding_parts : (c p : ℕ) → stands_on rows Preceding c p ≡ true → IsPreceding c p
  unfolding stands_on
  preceding_parts c p e =
      let three = and_parts (nat_lt p c && not (is_in rows p c) && nat_eq (root_of rows c) (root_of rows p)) (not (is_attr_at rows p)) e in
      let two = and_parts (nat_lt p c && not (is_in rows p c)) (nat_eq (root_of rows c) (root_of rows p)) three.0 in
      let one = and_parts (nat_lt p c) (not (is_in rows p c)) two.0 in
      record { before = (Decides-ltb p c).0 one.0; apart = one.1; tree = eq_parts (root_of rows c) (root_of rows p) two.1; plain = three.1 }

  pub preceding_is : (c p : ℕ) → IsPreceding c p → stands_on rows Preceding c p ≡ true
  unfolding stands_on
  preceding_is c p is =
      and_from (nat_lt p c && not (is_in rows p c) && nat_eq (root_of rows c) (root_of rows p)) (not (is_attr_at rows p))
      (and_from (nat_lt p c && not (is_in rows p c)) (nat_eq (root_of rows c) (root_of rows p))
      (and_from (nat_lt p c) (not (is_in rows p c)) ((Decides-ltb p c).1 is.before) is.apart) (eq_from (root_of rows c) (root_of rows p) is.tree)) is.plain

  -- ---- what one node has on its axis another has

  -- a node inside another has less below it
  pub below_outer : (start c p : ℕ) → start < length rows → start < c → c < start + size_at rows start → stands_on rows Descendant c p ≡ true → stands_on rows Descendant start p ≡ true
  unfolding stands_on
  below_outer start c p lt gt inside e =
      let both = and_parts (is_in rows c p) (not (is_attr_at rows p)) e in
      let i = in_parts rows c p both.0 in
      and_from (is_in rows start p) (not (is_attr_at rows p)) (in_is rows start p (omega (arith, i.behind)) (omega (arith, i.within, nested start c lt gt inside))) both.1

  -- and so has one that isn't an attribute, with itself
  pub self_outer : (start c p : ℕ) → start < length rows → start < c → c < start + size_at rows start → is_attr_at rows c ≡ false → stands_on rows DescendantOrSelf c p ≡ true → stands_on rows DescendantOrSelf start p ≡ true
  unfolding stands_on
  self_outer start c p lt gt inside plain e =
      or_right (nat_eq start p) (is_in rows start p && not (is_attr_at rows p))
      (elim (or_cases (nat_eq c p) (is_in rows c p && not (is_attr_at rows p)) e) [
        | inl same ↦
            let is : c ≡ p = eq_parts c p same in
            and_from (is_in rows start p) (not (is_attr_at rows p)) (in_is rows start p (omega arith) (omega arith)) (ap (λ b. not b) (ap (is_attr_at rows) (sym is) ∙ plain))
        | inr under ↦ below_outer start c p lt gt inside under
      ])

  -- a node inside another has more behind it
  pub behind_inner : (start c p : ℕ) → start < length rows → start < c → c < start + size_at rows start → stands_on rows Following start p ≡ true → stands_on rows Following c p ≡ true
  behind_inner start c p lt gt inside e =
      let is = following_parts start p e in
      following_is c p (record { behind = omega (arith, nested start c lt gt inside, is.behind); tree = one_tree start c lt (omega arith) inside ∙ is.tree; plain = is.plain })

  -- a node behind another in its tree has less behind it
  pub behind_further : (start c p : ℕ) → c < length rows → start + size_at rows start ≤ c → root_of rows c ≡ root_of rows start → stands_on rows Following c p ≡ true → stands_on rows Following start p ≡ true
  behind_further start c p lt le tree e =
      let is = following_parts c p e in
      following_is start p (record { behind = omega (arith, is.behind, big c lt); tree = sym tree ∙ is.tree; plain = is.plain })

  -- a node further on in a tree has more before it
  pub before_further : (last c p : ℕ) → last < c → root_of rows c ≡ root_of rows last → stands_on rows Preceding last p ≡ true → stands_on rows Preceding c p ≡ true
  before_further last c p lt tree e =
      let is = preceding_parts last p e in
      preceding_is c p (record {
        before = omega (arith, is.before);
        apart = not_true (is_in rows p c) (not_in rows p c (λ i. absurd (untrue (is_in rows p last) (in_is rows p last is.before (omega (arith, i.within))) is.apart)));
        tree = tree ∙ is.tree;
        plain = is.plain;
      })
    where
      not_true : (b : Bool) → b ≡ false → not b ≡ true
      not_true true e = absurd cc
      not_true false e = refl

      untrue : (b : Bool) → b ≡ true → not b ≡ true → ⊥
      untrue true e f = absurd cc
      untrue false e f = absurd cc
