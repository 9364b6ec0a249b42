-- What is below many nodes.
use Rattle.std.proofs.Common.{◌≡◌, inl, inr, ℕ, ◌+◌, ◌<◌, ◌≤◌, Bool, true, false, not, List, [], ◌∷◌, ◌++◌, length, refl, sym, ap, ◌∙◌, subst, arith}
use Rattle.std.specs.Prelude.{◌⊎◌, ◌&&◌, nat_eq, Result, Ok, Err, OnOk}
use Rattle.std.specs.declared.alloc.AllocError.{AllocError}
use Rattle.std.proofs.lemmas.Bool.{and_parts, and_from, or_left, or_right, or_cases, eq-eqb, eqb-true, cases_lt}
use Rattle.tree_model.specs.declared.axis.Axis.{Axis}
use Rattle.tree_model.specs.declared.axis.Axis.TheVariants.{Descendant, DescendantOrSelf}
use Rattle.tree_model.specs.declared.row.Row.{Row}
use Rattle.tree_model.specs.declared.text.Name.{Name}
use Rattle.node_table.specs.Laid.{IsLaid, row_at, asize_at, size_at, is_attr_at}
use Rattle.axis_cursor.specs.RowAxes.{is_in, row_passes, stands_on}
use Rattle.axis_cursor.proofs.Relations.{in_parts, in_is}
use Rattle.axis_steps.specs.Steps.{Has, Passes, HasReached, HasRows, HasOwn, HasBelow, Keeps}
use Rattle.axis_steps.specs.declared.trees.Step.{Step}
use Rattle.axis_steps.proofs.Having.{has_push, has_left, has_right}

clash : {A : Type 0} (b : Bool) → b ≡ true → b ≡ false → A
clash true e f = absurd cc
clash false e f = absurd cc

not_false : (b : Bool) → b ≡ false → not b ≡ true
not_false true e = absurd cc
not_false false e = refl

not_true : (b : Bool) → not b ≡ true → b ≡ false
not_true true e = absurd cc
not_true false e = refl

-- what is reached from those that are kept is reached from all
pub reached_kept : (names : List Name) (rows : List Row) (step : Step) (places kept found : List ℕ) → Keeps rows step.axis places kept → HasReached names rows step kept found → HasReached names rows step places found
reached_kept names rows step places kept found keeps reached p = (
  λ h. let at = (reached p).0 h in (at.0, ((at.1).0, keeps.some (at.1).0 (at.1).1, (at.1).2)),
  λ at. (reached p).1 (at.0, keeps.enough p (at.0).within at.1),
)

pub outermost_of : (rows : List Row) (axis : Axis) (places kept : List ℕ) → (axis ≡ Descendant) ⊎ (axis ≡ DescendantOrSelf) → Keeps rows Descendant places kept → Keeps rows DescendantOrSelf places kept → Keeps rows axis places kept
outermost_of rows axis places kept (inl is) below or_self = subst (λ a. Keeps rows a places kept) (sym is) below
outermost_of rows axis places kept (inr is) below or_self = subst (λ a. Keeps rows a places kept) (sym is) or_self

module _ (names : List Name) (rows : List Row) (step : Step) where
  pub rows_none : (from to : ℕ) (found : List ℕ) → to ≤ from → HasRows names rows step from to found found
  rows_none from to found le p = (λ h. inl h, λ either. elim either [ inl h ↦ h | inr is ↦ absurd (omega (arith, is.1, is.2)) ])

  -- one row, and then another stretch
  pub rows_joined : (from at to : ℕ) (old mid new : List ℕ) → from ≤ at → at ≤ to → HasRows names rows step from at old mid → HasRows names rows step at to mid new → HasRows names rows step from to old new
  rows_joined from at to old mid new le le' first second p = (
    λ h. elim ((second p).0 h) [
      | inl m ↦ elim ((first p).0 m) [ inl o ↦ inl o | inr is ↦ inr (is.0, is.1, omega (arith, is.2), is.3) ]
      | inr is ↦ inr (is.0, omega (arith, is.1), is.2, is.3)
    ],
    λ either. elim either [
      | inl o ↦ (second p).1 (inl ((first p).1 (inl o)))
      | inr is ↦ (second p).1 (elim (cases_lt p at) [ inl less ↦ inl ((first p).1 (inr (is.0, is.1, less, is.3))) | inr more ↦ inr (is.0, more, is.2, is.3) ])
    ],
  )

  -- the row is added
  pub row_pushed : (at : ℕ) (old : List ℕ) → at < length rows → is_attr_at rows at ≡ false → row_passes names rows step.axis step.test.now at ≡ true → HasRows names rows step at (at + 1) old (old ++ at ∷ [])
  row_pushed at old lt plain passed p = (
    λ h. elim (has_push old at p h) [ inl o ↦ inl o | inr e ↦ inr (subst (Passes names rows step) e (record { within = lt; passes = passed }), omega arith, omega arith, subst (λ q. is_attr_at rows q ≡ false) e plain) ],
    λ either. elim either [ inl o ↦ has_left old (at ∷ []) p o | inr is ↦ let here : at ≡ p = omega (arith, is.1, is.2) in has_right old (at ∷ []) p (inl here) ],
  )

  -- or it is none to be added
  pub row_passed : (at : ℕ) (old : List ℕ) → (is_attr_at rows at ≡ true) ⊎ (row_passes names rows step.axis step.test.now at ≡ false) → HasRows names rows step at (at + 1) old old
  row_passed at old none p = (λ h. inl h, λ either. elim either [ inl o ↦ o | inr is ↦ absurd (no_more none is) ])
    where
      no_more : (is_attr_at rows at ≡ true) ⊎ (row_passes names rows step.axis step.test.now at ≡ false) → Passes names rows step p × (at ≤ p) × (p < at + 1) × (is_attr_at rows p ≡ false) → ⊥
      no_more (inl attr) is = let here : at ≡ p = omega (arith, is.1, is.2) in clash (is_attr_at rows p) (ap (is_attr_at rows) (sym here) ∙ attr) is.3
      no_more (inr fails) is =
          let here : at ≡ p = omega (arith, is.1, is.2) in
          clash (row_passes names rows step.axis step.test.now p) (is.0).passes (ap (row_passes names rows step.axis step.test.now) (sym here) ∙ fails)

  pub own_added : (c : ℕ) (found : List ℕ) → c < length rows → step.axis ≡ DescendantOrSelf → row_passes names rows step.axis step.test.now c ≡ true → HasOwn names rows step c found (found ++ c ∷ [])
  own_added c found lt is passed p = (
    λ h. elim (has_push found c p h) [ inl o ↦ inl o | inr e ↦ inr (subst (Passes names rows step) e (record { within = lt; passes = passed }), is, e) ],
    λ either. elim either [ inl o ↦ has_left found (c ∷ []) p o | inr own ↦ has_right found (c ∷ []) p (inl own.2) ],
  )

  -- the rows behind the attributes of a node are those below it
  inner : IsLaid rows → (c p : ℕ) → c < length rows → (is_in rows c p && not (is_attr_at rows p)) ≡ true → ((c + asize_at rows c ≤ p) × (p < c + size_at rows c)) × (is_attr_at rows p ≡ false)
  inner laid c p lt e =
      let both = and_parts (is_in rows c p) (not (is_attr_at rows p)) e in
      let i = in_parts rows c p both.0 in
      let plain = not_true (is_attr_at rows p) both.1 in
      ((elim (cases_lt p (c + asize_at rows c)) [ inl less ↦ clash (is_attr_at rows p) ((laid.attributes c p lt i.behind less).1) plain | inr more ↦ more ], i.within), plain)

  outer : IsLaid rows → (c p : ℕ) → c < length rows → c + asize_at rows c ≤ p → p < c + size_at rows c → is_attr_at rows p ≡ false → (is_in rows c p && not (is_attr_at rows p)) ≡ true
  outer laid c p lt le within plain =
      and_from (is_in rows c p) (not (is_attr_at rows p)) (in_is rows c p (omega (arith, le, (laid.sizes c lt).0)) within) (not_false (is_attr_at rows p) plain)

  pub below_added : IsLaid rows → (c : ℕ) (old mid new : List ℕ) → c < length rows → (step.axis ≡ Descendant) ⊎ (step.axis ≡ DescendantOrSelf)
      → HasOwn names rows step c old mid → HasRows names rows step (c + asize_at rows c) (c + size_at rows c) mid new → HasBelow names rows step c old new
  unfolding stands_on
  below_added laid c old mid new lt (inl is) own more p = (
    λ h. elim ((more p).0 h) [
      | inl m ↦ elim ((own p).0 m) [ inl o ↦ inl o | inr self' ↦ let wrong : Descendant ≡ DescendantOrSelf = sym is ∙ self'.1 in absurd cc ]
      | inr in_it ↦ inr (in_it.0, subst (λ a. stands_on rows a c p ≡ true) (sym is) (outer laid c p lt in_it.1 in_it.2 in_it.3))
    ],
    λ either. elim either [
      | inl o ↦ (more p).1 (inl ((own p).1 (inl o)))
      | inr at ↦ let i = inner laid c p lt (subst (λ a. stands_on rows a c p ≡ true) is at.1) in (more p).1 (inr (at.0, (i.0).0, (i.0).1, i.1))
    ],
  )
  below_added laid c old mid new lt (inr is) own more p = (
    λ h. elim ((more p).0 h) [
      | inl m ↦ elim ((own p).0 m) [
        | inl o ↦ inl o
        | inr self' ↦ inr (self'.0, subst (λ a. stands_on rows a c p ≡ true) (sym is) (or_left (nat_eq c p) (is_in rows c p && not (is_attr_at rows p)) (eq-eqb c p self'.2)))
      ]
      | inr in_it ↦ inr (in_it.0, subst (λ a. stands_on rows a c p ≡ true) (sym is) (or_right (nat_eq c p) (is_in rows c p && not (is_attr_at rows p)) (outer laid c p lt in_it.1 in_it.2 in_it.3)))
    ],
    λ either. elim either [
      | inl o ↦ (more p).1 (inl ((own p).1 (inl o)))
      | inr at ↦ side at.0 (or_cases (nat_eq c p) (is_in rows c p && not (is_attr_at rows p)) (subst (λ a. stands_on rows a c p ≡ true) is at.1))
    ],
  )
    where
      side : Passes names rows step p → (nat_eq c p ≡ true) ⊎ ((is_in rows c p && not (is_attr_at rows p)) ≡ true) → Has new p
      side passed (inl same) = (more p).1 (inl ((own p).1 (inr (passed, is, eqb-true c p same))))
      side passed (inr under) = let i = inner laid c p lt under in (more p).1 (inr (passed, (i.0).0, (i.0).1, i.1))

  -- node after node
  pub reached_none : HasReached names rows step [] []
  reached_none p = (λ h. absurd h, λ at. absurd (at.1).1)

  pub reached_next : (places : List ℕ) (c : ℕ) (old new : List ℕ) → HasReached names rows step places old → HasBelow names rows step c old new → HasReached names rows step (places ++ c ∷ []) new
  reached_next places c old new all below p = (
    λ h. elim ((below p).0 h) [
      | inl o ↦ let at = (all p).0 o in (at.0, ((at.1).0, has_left places (c ∷ []) (at.1).0 (at.1).1, (at.1).2))
      | inr one ↦ (one.0, (c, has_right places (c ∷ []) c (inl refl), one.1))
    ],
    λ at. by at.0 (at.1).0 (has_push places c (at.1).0 (at.1).1) (at.1).2,
  )
    where
      by : Passes names rows step p → (k : ℕ) → Has places k ⊎ (c ≡ k) → stands_on rows step.axis k p ≡ true → Has new p
      by passed k (inl before) on = (below p).1 (inl ((all p).1 (passed, (k, before, on))))
      by passed k (inr is_c) on = (below p).1 (inr (passed, subst (λ x. stands_on rows step.axis x p ≡ true) (sym is_c) on))

  -- where memory was there
  pub on_below : IsLaid rows → (c : ℕ) (row : Row) (old mid new : List ℕ) (r : Result (Unit {0}) AllocError) → c < length rows → row ≡ row_at rows c → (step.axis ≡ Descendant) ⊎ (step.axis ≡ DescendantOrSelf)
      → HasOwn names rows step c old mid → OnOk r (HasRows names rows step (c + row.asize) (c + row.size) mid new) → OnOk r (HasBelow names rows step c old new)
  on_below laid c row old mid new (Ok u) lt is axis own more =
      below_added laid c old mid new lt axis own (subst (λ (r : Row). HasRows names rows step (c + r.asize) (c + r.size) mid new) is more)
  on_below laid c row old mid new (Err e) lt is axis own more = more
