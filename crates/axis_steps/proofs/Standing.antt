-- Rows that stand for trees, step by step upwards.
use Rattle.std.proofs.Common.{◌≡◌, inl, inr, ℕ, zero, suc, ◌+◌, ◌-◌, ◌<◌, ◌≤◌, Bool, true, false, List, [], ◌∷◌, ◌++◌, length, get_or, take, refl, sym, ap, ◌∙◌, subst, arith}
use Rattle.std.specs.Prelude.{◌⊎◌, ◌↔◌}
use Rattle.std.proofs.Common.{take-suc}
use Rattle.std.proofs.lemmas.Bool.{cases_lt}
use Rattle.tree_model.specs.declared.axis.Axis.TheVariants.{AncestorOrSelf}
use Rattle.tree_model.specs.Axes.{passes}
use Rattle.tree_model.specs.Rows.{label_of}
use Rattle.tree_model.specs.declared.row.Row.{Row}
use Rattle.tree_model.specs.declared.text.Name.{Name}
use Rattle.node_table.specs.Laid.{IsLaid, no_row, row_at, dist_at, size_at, up}
use Rattle.axis_cursor.specs.RowAxes.{is_in, row_passes}
use Rattle.node_table.specs.Views.{view_of, view_forest, KeepsTrees}
use Rattle.axis_cursor.specs.Trees.{axis_places}
use Rattle.node_table.proofs.Geometry.{laid}
use Rattle.axis_cursor.proofs.Named.{all_named}
use Rattle.axis_cursor.proofs.Told.{axis_places_are}
use Rattle.axis_cursor.proofs.Relations.{in_parts, in_is}
use Rattle.axis_steps.specs.Steps.{IsStanding, Has, Passes, HasClimbed, HasSelf, HasAncestors, IsTreeEnd, axis_list}
use Rattle.axis_steps.specs.declared.trees.Step.{Step}
use Rattle.axis_steps.proofs.Having.{has_push, has_left, has_right}
use Rattle.axis_steps.proofs.Nesting.{one_tree}

-- rows of trees
pub stands : (names : List Name) (values : List ℕ) (rows : List Row) → KeepsTrees (view_of rows names values) → IsStanding names rows
stands names values rows trees = record { laid = laid names values rows trees; named = all_named names values rows trees.placed }

get_same : (rows : List Row) (p : ℕ) (d e : Row) → p < length rows → get_or rows p d ≡ get_or rows p e
get_same [] p d e lt = absurd (omega arith)
get_same (r ∷ rows) zero d e lt = refl
get_same (r ∷ rows) (suc p) d e lt = get_same rows p d e (omega arith)

pub row_named : (names : List Name) (rows : List Row) → IsStanding names rows → (p : ℕ) (row : Row) → p < length rows → row ≡ row_at rows p → row.name < length names
row_named names rows standing p row lt is = subst (λ (r : Row). r.name < length names) (sym is) (standing.named p no_row lt)

-- one step upwards from a row that is no root
pub record Upwards (rows : List Row) (at dist : ℕ) : Type 0 where
  pub le : dist ≤ at
  pub less : at - dist < at
  pub within : at - dist < length rows
  pub is_up : at - dist ≡ up rows at

pub upwards : (rows : List Row) → IsLaid rows → (at : ℕ) (row : Row) → at < length rows → row ≡ row_at rows at → (row.dist ≡ 0 → ⊥) → Upwards rows at row.dist
upwards rows laid at row lt is some =
    let same : row.dist ≡ dist_at rows at = ap (λ (r : Row). r.dist) is in
    let le = laid.dists at lt in
    record { le = omega (arith, le, same); less = omega (arith, le, same, some); within = omega (arith, le, same); is_up = ap (λ d. at - d) same }

-- what stands in a subtree stands in the parent's
pub stands_up : (rows : List Row) → IsLaid rows → (at c dist : ℕ) → at < length rows → Upwards rows at dist → at ≤ c → c < at + size_at rows at → (at - dist ≤ c) × (c < (at - dist) + size_at rows (at - dist))
stands_up rows laid at c dist lt u le inside =
    let pos : 0 < dist_at rows at = let e = u.is_up in let l = u.less in omega arith in
    let e = laid.ends at lt pos in
    let same : up rows at ≡ at - dist = sym u.is_up in
    let wide : at + size_at rows at ≤ (at - dist) + size_at rows (at - dist) = subst (λ q. at + size_at rows at ≤ q + size_at rows q) same e.1 in
    (omega (arith, u.less), omega (arith, wide))

-- a tree ends where its root's subtree does
pub tree_end : (rows : List Row) → IsLaid rows → (at c : ℕ) (row : Row) → at < length rows → row ≡ row_at rows at → row.dist ≡ 0 → at ≤ c → c < at + size_at rows at → IsTreeEnd rows c (at + row.size)
tree_end rows laid at c row lt is root le inside p from to =
    let same : row.size ≡ size_at rows at = ap (λ (r : Row). r.size) is in
    one_tree rows laid at p lt (omega arith) (omega (arith, same)) ∙ sym (one_tree rows laid at c lt le inside)

pub fits_end : (rows : List Row) → IsLaid rows → (at : ℕ) (row : Row) → at < length rows → row ≡ row_at rows at → at + row.size ≤ length rows
fits_end rows laid at row lt is =
    let same : row.size ≡ size_at rows at = ap (λ (r : Row). r.size) is in
    omega (arith, same, (laid.sizes at lt).2)

-- ---- ancestors

-- those from `last` and from `at` on were added
abbrev pub Climbing : List Name → List Row → Step → ℕ → ℕ → ℕ → List ℕ → List ℕ → Type 0
Climbing names rows step c last at old new = (p : ℕ) → Has new p ↔ (Has old p ⊎ (Passes names rows step p × (is_in rows p c ≡ true) × (last ≤ p) × (at ≤ p)))

pub climbs_first : (names : List Name) (rows : List Row) (step : Step) (c last : ℕ) (found : List ℕ) → Climbing names rows step c last c found found
climbs_first names rows step c last found p = (
  λ h. inl h,
  λ either. elim either [ inl h ↦ h | inr is ↦ let i = in_parts rows p c is.1 in absurd (omega (arith, i.behind, is.3)) ],
)

-- an ancestor of c before `at` is the parent of `at` or stands before that
further_up : (rows : List Row) → IsLaid rows → (at c p : ℕ) → p < length rows → at ≤ c → c < at + size_at rows at → is_in rows p c ≡ true → p < at → p ≤ up rows at × (0 < dist_at rows at)
further_up rows laid at c p lt le inside is less =
    let i = in_parts rows p c is in
    let h = laid.inside p at lt less (omega (arith, i.within)) in (h.1, h.0)

module _ (names : List Name) (rows : List Row) (laid : IsLaid rows) (step : Step) (c last : ℕ) where
  -- one ancestor further
  climbed_to : (at q : ℕ) (old mid : List ℕ) → at < length rows → at ≤ c → c < at + size_at rows at → q < at → q ≡ up rows at → last ≤ q → q < length rows → c < q + size_at rows q
      → Climbing names rows step c last at old mid → (new : List ℕ) → ((p : ℕ) → Has new p ↔ (Has mid p ⊎ (Passes names rows step p × (q ≡ p)))) → Climbing names rows step c last q old new
  climbed_to at q old mid lt le inside less is from within holds before new more p = (
    λ h. elim ((more p).0 h) [
      | inl m ↦ elim ((before p).0 m) [ inl o ↦ inl o | inr was ↦ inr (was.0, was.1, was.2, let b = was.3 in omega arith) ]
      | inr one ↦ let e = one.1 in inr (one.0, in_is rows p c (omega arith) (subst (λ r. c < r + size_at rows r) e holds), omega arith, omega arith)
    ],
    λ either. elim either [
      | inl o ↦ (more p).1 (inl ((before p).1 (inl o)))
      | inr now ↦ (more p).1 (by now (cases_lt p at))
    ],
  )
    where
      by : Passes names rows step p × (is_in rows p c ≡ true) × (last ≤ p) × (q ≤ p) → (p < at) ⊎ (at ≤ p) → Has mid p ⊎ (Passes names rows step p × (q ≡ p))
      by now (inl below) =
          let h = further_up rows laid at c p ((now.0).within) le inside now.1 below in
          let le' = now.3 in
          inr (now.0, omega (arith, h.0, is))
      by now (inr above) = inl ((before p).1 (inr (now.0, now.1, now.2, above)))

  pub climbed_push : (at q : ℕ) (old mid : List ℕ) → at < length rows → at ≤ c → c < at + size_at rows at → q < at → q ≡ up rows at → last ≤ q → q < length rows → c < q + size_at rows q
      → Climbing names rows step c last at old mid → row_passes names rows step.axis step.test.now q ≡ true → Climbing names rows step c last q old (mid ++ q ∷ [])
  climbed_push at q old mid lt le inside less is from within holds before yes' =
      climbed_to at q old mid lt le inside less is from within holds before (mid ++ q ∷ []) (λ p. (
        λ h. elim (has_push mid q p h) [ inl m ↦ inl m | inr e ↦ inr (subst (Passes names rows step) e (record { within = within; passes = yes' }), e) ],
        λ either. elim either [ inl m ↦ has_left mid (q ∷ []) p m | inr one ↦ has_right mid (q ∷ []) p (inl one.1) ],
      ))

  pub climbed_past : (at q : ℕ) (old mid : List ℕ) → at < length rows → at ≤ c → c < at + size_at rows at → q < at → q ≡ up rows at → last ≤ q → q < length rows → c < q + size_at rows q
      → Climbing names rows step c last at old mid → row_passes names rows step.axis step.test.now q ≡ false → Climbing names rows step c last q old mid
  climbed_past at q old mid lt le inside less is from within holds before no' =
      climbed_to at q old mid lt le inside less is from within holds before mid (λ p. (
        λ h. inl h,
        λ either. elim either [ inl m ↦ m | inr one ↦ absurd (differ (row_passes names rows step.axis step.test.now p) (one.0).passes (ap (row_passes names rows step.axis step.test.now) (sym one.1) ∙ no')) ],
      ))
    where
      differ : (b : Bool) → b ≡ true → b ≡ false → ⊥
      differ true e f = absurd cc
      differ false e f = absurd cc

  -- all of them
  pub climbed_all : (at : ℕ) (old new : List ℕ) → at < length rows → at ≤ c → c < at + size_at rows at → (0 < dist_at rows at → up rows at < last) → Climbing names rows step c last at old new → HasClimbed names rows step c last old new
  climbed_all at old new lt le inside stop all p = (
    λ h. elim ((all p).0 h) [ inl o ↦ inl o | inr is ↦ inr (is.0, is.1, is.2) ],
    λ either. elim either [ inl o ↦ (all p).1 (inl o) | inr is ↦ (all p).1 (inr (is.0, is.1, is.2, far is (cases_lt p at))) ],
  )
    where
      far : Passes names rows step p × (is_in rows p c ≡ true) × (last ≤ p) → (p < at) ⊎ (at ≤ p) → at ≤ p
      far is (inl below) =
          let h = further_up rows laid at c p ((is.0).within) le inside is.1 below in
          let s = stop h.1 in
          let l = is.2 in
          absurd (omega (arith, h.0, s, l))
      far is (inr above) = above

-- a test of a row is that of its place
pub row_tested : (names : List Name) (rows : List Row) (step : Step) (p : ℕ) (row : Row) (b : Bool) → row ≡ row_at rows p → b ≡ passes step.axis step.test.now (label_of names [] row) → row_passes names rows step.axis step.test.now p ≡ b
row_tested names rows step p row b is test = ap (λ (r : Row). passes step.axis step.test.now (label_of names [] r)) (sym is) ∙ sym test

-- ---- one axis

-- what a cursor has to give
pub list_of_axis : (names : List Name) (rows : List Row) (step : Step) (c : ℕ) (given : List ℕ) → ((values : List ℕ) × KeepsTrees (view_of rows names values)) → c < length rows
    → ((values : List ℕ) → KeepsTrees (view_of rows names values) → given ≡ axis_places (view_forest (view_of rows names values)) step.axis step.test.now c) → given ≡ axis_list names rows step c
list_of_axis names rows step c given trees lt is = is trees.0 trees.1 ∙ axis_places_are names trees.0 rows trees.1 step.axis step.test.now c lt

-- ---- ancestors of many

-- c itself
pub self_added : (names : List Name) (rows : List Row) (step : Step) (c : ℕ) (found : List ℕ) → c < length rows → step.axis ≡ AncestorOrSelf → row_passes names rows step.axis step.test.now c ≡ true → HasSelf names rows step c found (found ++ c ∷ [])
self_added names rows step c found lt is passed p = (
  λ h. elim (has_push found c p h) [ inl o ↦ inl o | inr e ↦ inr (subst (Passes names rows step) e (record { within = lt; passes = passed }), is, e) ],
  λ either. elim either [ inl o ↦ has_left found (c ∷ []) p o | inr own ↦ has_right found (c ∷ []) p (inl own.2) ],
)

pub self_left : (names : List Name) (rows : List Row) (step : Step) (c : ℕ) (found : List ℕ) → ((step.axis ≡ AncestorOrSelf) → row_passes names rows step.axis step.test.now c ≡ true → ⊥) → HasSelf names rows step c found found
self_left names rows step c found none p = (
  λ h. inl h,
  λ either. elim either [ inl o ↦ o | inr own ↦ absurd (none own.1 (ap (row_passes names rows step.axis step.test.now) own.2 ∙ (own.0).passes)) ],
)

-- the places up to one more
pub take_next : (xs : List ℕ) (i x : ℕ) → i < length xs → x ≡ get_or xs i x → take (suc i) xs ≡ take i xs ++ x ∷ []
take_next xs i x lt is = take-suc xs i x lt ∙ ap (λ y. take i xs ++ y ∷ []) (sym is)

-- what stands before the last node and holds the next holds the last too
module _ (names : List Name) (rows : List Row) (step : Step) where
  pub ancestors_none : HasAncestors names rows step [] []
  ancestors_none p = (λ h. absurd h, λ is. absurd (is.1).1)

  abbrev pub IsLast : List ℕ → ℕ → Type 0
  IsLast places last = (last ≡ 0) ⊎ Has places last

  pub ancestors_next : (places : List ℕ) (last c from : ℕ) (old mid new : List ℕ) → IsLast places last → ((last < c) × (from ≡ last)) ⊎ (from ≡ 0)
      → HasAncestors names rows step places old → HasSelf names rows step c old mid → HasClimbed names rows step c from mid new → HasAncestors names rows step (places ++ c ∷ []) new
  ancestors_next places last c from old mid new known cut all own above p = (
    λ h. elim ((above p).0 h) [
      | inl m ↦ elim ((own p).0 m) [
        | inl o ↦ let is = (all p).0 o in (is.0, ((is.1).0, has_left places (c ∷ []) (is.1).0 (is.1).1, (is.1).2))
        | inr self' ↦ (self'.0, (c, has_right places (c ∷ []) c (inl refl), inr (self'.1, self'.2)))
      ]
      | inr up' ↦ (up'.0, (c, has_right places (c ∷ []) c (inl refl), inl up'.1))
    ],
    λ is. from_new is,
  )
    where
      known_above : Passes names rows step p → is_in rows p c ≡ true → ((last < c) × (from ≡ last)) ⊎ (from ≡ 0) → (last ≡ 0) ⊎ Has places last → (p < from) ⊎ (from ≤ p) → Has new p
      known_above passed i cut last_known (inr le) = (above p).1 (inr (passed, i, le))
      known_above passed i (inr zero_from) last_known (inl lt) = absurd (omega (arith, zero_from, lt))
      known_above passed i (inl both) (inl zero_last) (inl lt) = absurd (omega (arith, both.1, zero_last, lt))
      known_above passed i (inl both) (inr has_last) (inl lt) =
          let parts = in_parts rows p c i in
          let holds : is_in rows p last ≡ true = in_is rows p last (omega (arith, both.1, lt)) (omega (arith, parts.within, both.0)) in
          (above p).1 (inl ((own p).1 (inl ((all p).1 (passed, (last, has_last, inl holds))))))

      by_node : Passes names rows step p → (k : ℕ) → Has places k ⊎ (c ≡ k) → (is_in rows p k ≡ true) ⊎ ((step.axis ≡ AncestorOrSelf) × (k ≡ p)) → Has new p
      by_node passed k (inl before) how = (above p).1 (inl ((own p).1 (inl ((all p).1 (passed, (k, before, how))))))
      by_node passed k (inr is_c) (inl i) = known_above passed (ap (is_in rows p) is_c ∙ i) cut known (cases_lt p from)
      by_node passed k (inr is_c) (inr self') = (above p).1 (inl ((own p).1 (inr (passed, self'.0, is_c ∙ self'.1))))

      from_new : Passes names rows step p × ((k : ℕ) × Has (places ++ c ∷ []) k × ((is_in rows p k ≡ true) ⊎ ((step.axis ≡ AncestorOrSelf) × (k ≡ p)))) → Has new p
      from_new is = by_node is.0 (is.1).0 (has_push places c (is.1).0 (is.1).1) (is.1).2
