-- Steps by rows are the steps between nodes.
use Rattle.std.proofs.Common.{◌≡◌, ◌≢◌, inl, inr, ℕ, ◌+◌, ◌<◌, ◌≤◌, Bool, true, false, not, List, length, refl, sym, ap, ◌∙◌, subst, arith, ap₂}
use Rattle.std.specs.Prelude.{◌⊎◌, ◌&&◌, ◌||◌, nat_eq, nat_lt, filter, Some}
use denote.Ref.{Bor}
use Rattle.tree_model.specs.declared.axis.AxisStep.{AxisStep}
use Rattle.std.specs.Bool.{Decides}
use Rattle.std.specs.List.{All, flat_map, range_with_len}
use Rattle.std.proofs.lemmas.Bool.{and_parts, and_from, or_left, or_right, or_cases, eq-eqb, eqb-true, lt-ltb, ltb-true}
use Rattle.std.proofs.lemmas.Bool.Decides.{same_from_decides, Decides-like, eqb_tells}
use Rattle.tree_model.specs.Axes.{passes}
use Rattle.tree_model.specs.Forest.{Forest, count}
use Rattle.tree_model.specs.Labels.{Label}
use Rattle.tree_model.specs.Nodes.{is_place_among}
use Rattle.tree_model.specs.declared.axis.Axis.{Axis}
use Rattle.tree_model.specs.declared.axis.Axis.TheVariants.{Child, Descendant, DescendantOrSelf, Ancestor, AncestorOrSelf}
use Rattle.tree_model.specs.declared.axis.Test.{Test}
use Rattle.tree_model.specs.declared.axis.Test.TheVariants as test
use Rattle.tree_model.specs.declared.row.Row.{Row}
use Rattle.tree_model.specs.declared.text.Name.{Name}
use Rattle.node_table.specs.Laid.{IsLaid, dist_at, size_at, is_attr_at, up}
use Rattle.axis_cursor.specs.RowAxes.{is_up, is_in, stands_on}
use Rattle.node_table.specs.Views.{view_of, view_forest, KeepsTrees}
use Rattle.axis_cursor.specs.Trees.{axis_places, step_places}
use Rattle.node_table.proofs.Geometry.{laid}
use Rattle.node_table.proofs.NodeRows.{nodes_counted}
use Rattle.axis_cursor.proofs.Ranges.{range_same}
use Rattle.axis_cursor.proofs.Relations.{IsIn, in_parts, in_is}
use Rattle.axis_cursor.proofs.Told.{axis_places_are}
use Rattle.axis_steps.specs.Steps.{Has, Passes, IsOnSome, HasReached, HasAncestors, IsFirstStep, axis_list, path_places}
use Rattle.axis_steps.specs.declared.trees.Step.{Step}
use Rattle.axis_steps.proofs.Having.{has_decides, has_filter, filter_has, has_range, range_has, has_flat, flat_has, all_has, has_all}
use Rattle.axis_steps.proofs.Keeping.{has_axis, axis_has}
use Rattle.axis_steps.proofs.Nesting.{nested}

-- what was climbed was reached
pub reached_above : (names : List Name) (rows : List Row) (step : Step) (places found : List ℕ) → step.axis ≡ Ancestor → HasAncestors names rows step places found → HasReached names rows step places found
unfolding stands_on
reached_above names rows step places found is all p = (
  λ h. let at = (all p).0 h in (at.0, ((at.1).0, (at.1).1, on (at.1).0 (at.1).2)),
  λ at. (all p).1 (at.0, ((at.1).0, (at.1).1, inl (subst (λ a. stands_on rows a (at.1).0 p ≡ true) is (at.1).2))),
)
  where
    on : (c : ℕ) → (is_in rows p c ≡ true) ⊎ ((step.axis ≡ AncestorOrSelf) × (c ≡ p)) → stands_on rows step.axis c p ≡ true
    on c (inl i) = subst (λ a. stands_on rows a c p ≡ true) (sym is) i
    on c (inr both) = let wrong : Ancestor ≡ AncestorOrSelf = sym is ∙ both.0 in absurd cc

pub reached_self : (names : List Name) (rows : List Row) (step : Step) (places found : List ℕ) → step.axis ≡ AncestorOrSelf → HasAncestors names rows step places found → HasReached names rows step places found
unfolding stands_on
reached_self names rows step places found is all p = (
  λ h. let at = (all p).0 h in (at.0, ((at.1).0, (at.1).1, subst (λ a. stands_on rows a (at.1).0 p ≡ true) (sym is) (on (at.1).0 (at.1).2))),
  λ at. (all p).1 (at.0, ((at.1).0, (at.1).1, off (at.1).0 (subst (λ a. stands_on rows a (at.1).0 p ≡ true) is (at.1).2))),
)
  where
    on : (c : ℕ) → (is_in rows p c ≡ true) ⊎ ((step.axis ≡ AncestorOrSelf) × (c ≡ p)) → (nat_eq c p || is_in rows p c) ≡ true
    on c (inl i) = or_right (nat_eq c p) (is_in rows p c) i
    on c (inr both) = or_left (nat_eq c p) (is_in rows p c) (eq-eqb c p both.1)

    off : (c : ℕ) → (nat_eq c p || is_in rows p c) ≡ true → (is_in rows p c ≡ true) ⊎ ((step.axis ≡ AncestorOrSelf) × (c ≡ p))
    off c e = elim (or_cases (nat_eq c p) (is_in rows p c) e) [ inl same ↦ inr (is, eqb-true c p same) | inr i ↦ inl i ]

pub reached_upwards : (names : List Name) (rows : List Row) (step : Step) (places found : List ℕ) → (step.axis ≡ Ancestor) ⊎ (step.axis ≡ AncestorOrSelf) → HasAncestors names rows step places found → HasReached names rows step places found
reached_upwards names rows step places found (inl is) all = reached_above names rows step places found is all
reached_upwards names rows step places found (inr is) all = reached_self names rows step places found is all

-- ---- in words of the forest

module _ (names : List Name) (values : List ℕ) (rows : List Row) (trees : KeepsTrees (view_of rows names values)) where
  abbrev f : Forest Label
  f = view_forest (view_of rows names values)

  -- what the axes of nodes have
  pub places_decide : (step : Step) (places : List ℕ) → All (λ p. p < length rows) places → (p : ℕ)
      → Decides (is_place_among (flat_map (axis_places f step.axis step.test.now) places) p) (Passes names rows step p × IsOnSome rows step.axis places p)
  places_decide step places within p =
      Decides-like (is_place_among (flat_map (axis_places f step.axis step.test.now) places) p) to from (has_decides (flat_map (axis_places f step.axis step.test.now) places) p)
    where
      lists : (c : ℕ) → Has places c → axis_places f step.axis step.test.now c ≡ axis_list names rows step c
      lists c h = axis_places_are names values rows trees step.axis step.test.now c (all_has (λ q. q < length rows) places within c h)

      to : Has (flat_map (axis_places f step.axis step.test.now) places) p → Passes names rows step p × IsOnSome rows step.axis places p
      to h =
          let w = has_flat (axis_places f step.axis step.test.now) places p h in
          let a = has_axis names rows step w.0 p (subst (λ l. Has l p) (lists w.0 w.1) w.2) in
          (a.0, (w.0, w.1, a.1))

      from : Passes names rows step p × IsOnSome rows step.axis places p → Has (flat_map (axis_places f step.axis step.test.now) places) p
      from at =
          let on = at.1 in
          flat_has (axis_places f step.axis step.test.now) places p on.0 on.1 (subst (λ l. Has l p) (sym (lists on.0 on.1)) (axis_has names rows step on.0 p at.0 on.2))

  -- what was reached, in document order
  pub step_is : (step : Step) (places found ordered : List ℕ) → All (λ p. p < length rows) places → HasReached names rows step places found → ordered ≡ filter (is_place_among found) (range_with_len 0 (length rows))
      → ordered ≡ step_places f step.axis step.test.now places
  step_is step places found ordered within reached is =
      is
      ∙ range_same (is_place_among found) (is_place_among (flat_map (axis_places f step.axis step.test.now) places)) 0 (length rows)
      (λ p le lt. same_from_decides (is_place_among found p) (is_place_among (flat_map (axis_places f step.axis step.test.now) places) p)
      (Decides-like (is_place_among found p) (reached p).0 (reached p).1 (has_decides found p)) (places_decide step places within p))
      ∙ ap (λ n. filter (is_place_among (flat_map (axis_places f step.axis step.test.now) places)) (range_with_len 0 n)) (sym (nodes_counted names values rows trees))

-- what was reached lies within the rows, and so does what is left of it in document order
pub reached_within : (names : List Name) (rows : List Row) (step : Step) (places found : List ℕ) → HasReached names rows step places found → All (λ p. p < length rows) found
reached_within names rows step places found reached = has_all (λ p. p < length rows) found (λ p h. (((reached p).0 h).0).within)

pub ordered_within : (n : ℕ) (on : ℕ → Bool) (ordered : List ℕ) → ordered ≡ filter on (range_with_len 0 n) → All (λ p. p < n) ordered
ordered_within n on ordered is =
    has_all (λ p. p < n) ordered (λ p h. let r = has_range 0 n p (has_filter on (range_with_len 0 n) p (subst (λ l. Has l p) is h)).0 in omega (arith, r.1))

pub shorter : (steps : List AxisStep) (first : Step × Bor (List AxisStep)) → IsFirstStep steps (Some first) → length first.1.now < length steps
shorter steps first (inl one) = let e : length steps ≡ 1 + length first.1.now = ap length one.1 ∙ omega arith in omega (arith, e)
shorter steps first (inr two) = let e : length steps ≡ 2 + length first.1.now = ap length two.2 ∙ omega arith in omega (arith, e)
