-- Nodes that do for others.
use Rattle.std.proofs.Common.{◌≡◌, inl, inr, ℕ, ◌+◌, ◌<◌, ◌≤◌, Bool, true, false, cond, List, [], ◌∷◌, ◌++◌, length, refl, sym, ap, ◌∙◌, subst, arith}
use Rattle.std.specs.Prelude.{filter, reverse}
use Rattle.std.specs.List.{All, flat_map, range_with_len}
use Rattle.tree_model.specs.Axes.{is_reverse}
use Rattle.tree_model.specs.declared.axis.Axis.{Axis}
use Rattle.tree_model.specs.declared.axis.Axis.TheVariants.{Descendant, DescendantOrSelf, Following, Preceding}
use Rattle.tree_model.specs.declared.row.Row.{Row}
use Rattle.tree_model.specs.declared.text.Name.{Name}
use Rattle.node_table.specs.Laid.{IsLaid, size_at, is_attr_at}
use Rattle.axis_cursor.specs.RowAxes.{row_places, row_passes, stands_on}
use Rattle.axis_steps.specs.Steps.{Has, Passes, IsOnSome, HasReached, Keeps, IsTreeEnd, axis_list}
use Rattle.axis_steps.specs.Keeping.{IsOpen}
use Rattle.axis_steps.specs.declared.trees.Step.{Step}
use Rattle.axis_steps.proofs.Having.{has_push, has_left, has_right, has_filter, filter_has, has_range, range_has, has_reverse, reverse_has, has_flat, flat_has, all_has, has_all}
use Rattle.axis_steps.proofs.Nesting.{below_outer, self_outer, behind_inner, behind_further, before_further, one_tree}

module _ (rows : List Row) (axis : Axis) where
  pub keeps_none : Keeps rows axis [] []
  keeps_none = record { some = λ c h. h; enough = λ p lt on. absurd on.1 }

  pub keeps_all : (places : List ℕ) → Keeps rows axis places places
  keeps_all places = record { some = λ c h. h; enough = λ p lt on. on }

  -- one more that is kept
  pub keeps_push : (places kept : List ℕ) (c : ℕ) → Keeps rows axis places kept → Keeps rows axis (places ++ c ∷ []) (kept ++ c ∷ [])
  keeps_push places kept c k = record {
    some = λ x h. elim (has_push kept c x h) [ inl o ↦ has_left places (c ∷ []) x (k.some x o) | inr e ↦ has_right places (c ∷ []) x (inl e) ];
    enough = λ p lt on. elim (has_push places c on.0 on.1) [
      | inl o ↦ let w = k.enough p lt (on.0, o, on.2) in (w.0, has_left kept (c ∷ []) w.0 w.1, w.2)
      | inr e ↦ (on.0, has_right kept (c ∷ []) on.0 (inl e), on.2)
    ];
  }

  -- one more for which another does
  pub keeps_by : (places kept : List ℕ) (c k : ℕ) → Has kept k → ((p : ℕ) → stands_on rows axis c p ≡ true → stands_on rows axis k p ≡ true) → Keeps rows axis places kept → Keeps rows axis (places ++ c ∷ []) kept
  keeps_by places kept c k has does keeps = record {
    some = λ x h. has_left places (c ∷ []) x (keeps.some x h);
    enough = λ p lt on. elim (has_push places c on.0 on.1) [
      | inl o ↦ keeps.enough p lt (on.0, o, on.2)
      | inr e ↦ (k, has, does p (subst (λ x. stands_on rows axis x p ≡ true) (sym e) on.2))
    ];
  }

  -- one more that does for one that was kept
  pub keeps_instead : (places kept : List ℕ) (c k : ℕ) → ((p : ℕ) → stands_on rows axis k p ≡ true → stands_on rows axis c p ≡ true) → Keeps rows axis places (k ∷ kept) → Keeps rows axis (places ++ c ∷ []) (c ∷ kept)
  keeps_instead places kept c k does keeps = record {
    some = some;
    enough = λ p lt on. elim (has_push places c on.0 on.1) [
      | inl o ↦ kept_still p (keeps.enough p lt (on.0, o, on.2))
      | inr e ↦ (c, inl refl, subst (λ x. stands_on rows axis x p ≡ true) (sym e) on.2)
    ];
  }
    where
      some : (x : ℕ) → Has (c ∷ kept) x → Has (places ++ c ∷ []) x
      some x (inl e) = has_right places (c ∷ []) x (inl e)
      some x (inr h) = has_left places (c ∷ []) x (keeps.some x (inr h))

      kept_still : (p : ℕ) → IsOnSome rows axis (k ∷ kept) p → IsOnSome rows axis (c ∷ kept) p
      kept_still p on = by on.0 on.1 on.2
        where
          by : (x : ℕ) → Has (k ∷ kept) x → stands_on rows axis x p ≡ true → IsOnSome rows axis (c ∷ kept) p
          by x (inl e) is = (c, inl refl, does p (subst (λ y. stands_on rows axis y p ≡ true) (sym e) is))
          by x (inr h) is = (x, inr h, is)

  -- the one that was kept back is kept
  pub keeps_moved : (places kept : List ℕ) (k : ℕ) → Keeps rows axis places (k ∷ kept) → Keeps rows axis places (kept ++ k ∷ [])
  keeps_moved places kept k keeps = record {
    some = λ x h. elim (has_push kept k x h) [ inl o ↦ keeps.some x (inr o) | inr e ↦ keeps.some x (inl e) ];
    enough = λ p lt on. moved p (keeps.enough p lt on);
  }
    where
      moved : (p : ℕ) → IsOnSome rows axis (k ∷ kept) p → IsOnSome rows axis (kept ++ k ∷ []) p
      moved p on = by on.0 on.1 on.2
        where
          by : (x : ℕ) → Has (k ∷ kept) x → stands_on rows axis x p ≡ true → IsOnSome rows axis (kept ++ k ∷ []) p
          by x (inl e) is = (x, has_right kept (k ∷ []) x (inl e), is)
          by x (inr h) is = (x, has_left kept (k ∷ []) x h, is)

  -- and another is kept back
  pub keeps_back : (places kept : List ℕ) (c : ℕ) → Keeps rows axis places kept → Keeps rows axis (places ++ c ∷ []) (c ∷ kept)
  keeps_back places kept c keeps = record {
    some = some;
    enough = λ p lt on. elim (has_push places c on.0 on.1) [
      | inl o ↦ let w = keeps.enough p lt (on.0, o, on.2) in (w.0, inr w.1, w.2)
      | inr e ↦ (on.0, inl e, on.2)
    ];
  }
    where
      some : (x : ℕ) → Has (c ∷ kept) x → Has (places ++ c ∷ []) x
      some x (inl e) = has_right places (c ∷ []) x (inl e)
      some x (inr h) = has_left places (c ∷ []) x (keeps.some x h)

  pub keeps_first : (c : ℕ) → Keeps rows axis (c ∷ []) (c ∷ [])
  keeps_first c = keeps_all (c ∷ [])

  pub keeps_within : (n : ℕ) (places kept : List ℕ) → Keeps rows axis places kept → All (λ p. p < n) places → All (λ p. p < n) kept
  keeps_within n places kept keeps within = has_all (λ p. p < n) kept (λ p h. all_has (λ p. p < n) places within p (keeps.some p h))

-- ---- what is walked

module _ (names : List Name) (rows : List Row) (step : Step) where
  has_directed : (b : Bool) (xs : List ℕ) (p : ℕ) → Has (cond b (reverse xs) xs) p → Has xs p
  has_directed true xs p h = has_reverse xs p h
  has_directed false xs p h = h

  directed_has : (b : Bool) (xs : List ℕ) (p : ℕ) → Has xs p → Has (cond b (reverse xs) xs) p
  directed_has true xs p h = reverse_has xs p h
  directed_has false xs p h = h

  pub has_axis : (c p : ℕ) → Has (axis_list names rows step c) p → Passes names rows step p × (stands_on rows step.axis c p ≡ true)
  has_axis c p h =
      let on : List ℕ = filter (stands_on rows step.axis c) (range_with_len 0 (length rows)) in
      let passed = has_filter (row_passes names rows step.axis step.test.now) (row_places rows step.axis c) p h in
      let stands = has_filter (stands_on rows step.axis c) (range_with_len 0 (length rows)) p (has_directed (is_reverse step.axis) on p passed.0) in
      let lt = has_range 0 (length rows) p stands.0 in
      (record { within = omega (arith, lt.1); passes = passed.1 }, stands.1)

  pub axis_has : (c p : ℕ) → Passes names rows step p → stands_on rows step.axis c p ≡ true → Has (axis_list names rows step c) p
  axis_has c p passed stands =
      let on : List ℕ = filter (stands_on rows step.axis c) (range_with_len 0 (length rows)) in
      filter_has (row_passes names rows step.axis step.test.now) (row_places rows step.axis c) p
      (directed_has (is_reverse step.axis) on p (filter_has (stands_on rows step.axis c) (range_with_len 0 (length rows)) p (range_has 0 (length rows) p (omega arith) (omega (arith, passed.within))) stands)) passed.passes

  -- what is walked from those that are kept is reached from all
  pub reached_by : (places kept found : List ℕ) → Keeps rows step.axis places kept → found ≡ flat_map (axis_list names rows step) kept → HasReached names rows step places found
  reached_by places kept found keeps is p = (
    λ h.
        let w = has_flat (axis_list names rows step) kept p (subst (λ l. Has l p) is h) in
        let a = has_axis w.0 p w.2 in
        (a.0, (w.0, keeps.some w.0 w.1, a.1)),
    λ at.
        let w = keeps.enough p (at.0).within at.1 in
        subst (λ l. Has l p) (sym is) (flat_has (axis_list names rows step) kept p w.0 w.1 (axis_has w.0 p at.0 w.2)),
  )

-- ---- the subtree that was kept last

module _ (rows : List Row) (laid : IsLaid rows) where
  -- what was kept stays
  pub still_open : (kept : List ℕ) (start end c : ℕ) → IsOpen rows kept start end → IsOpen rows (kept ++ c ∷ []) start end
  still_open kept start end c (inl e) = inl e
  still_open kept start end c (inr o) = inr (o.0, o.1, has_left kept (c ∷ []) start o.2)

  pub now_open : (kept : List ℕ) (c size : ℕ) → c < length rows → size ≡ size_at rows c → IsOpen rows (kept ++ c ∷ []) c (c + size)
  now_open kept c size lt e = inr (lt, ap (λ n. c + n) e, has_right kept (c ∷ []) c (inl refl))

  -- a node inside it that is no attribute
  pub below_open : (places kept : List ℕ) (start end c : ℕ) → IsOpen rows kept start end → start < c → c < end → Keeps rows Descendant places kept → Keeps rows Descendant (places ++ c ∷ []) kept
  below_open places kept start end c (inl e) gt lt keeps = absurd (omega arith)
  below_open places kept start end c (inr o) gt lt keeps =
      let e : end ≡ start + size_at rows start = o.1 in
      keeps_by rows Descendant places kept c start o.2 (λ p is. below_outer rows laid start c p o.0 gt (omega arith) is) keeps

  pub self_open : (places kept : List ℕ) (start end c : ℕ) → IsOpen rows kept start end → start < c → c < end → is_attr_at rows c ≡ false → Keeps rows DescendantOrSelf places kept → Keeps rows DescendantOrSelf (places ++ c ∷ []) kept
  self_open places kept start end c (inl e) gt lt plain keeps = absurd (omega arith)
  self_open places kept start end c (inr o) gt lt plain keeps =
      let e : end ≡ start + size_at rows start = o.1 in
      keeps_by rows DescendantOrSelf places kept c start o.2 (λ p is. self_outer rows laid start c p o.0 gt (omega arith) plain is) keeps

  -- ---- the tree of the node that is kept back

  pub tree_inside : (start c end : ℕ) → start < length rows → start < c → c < start + size_at rows start → IsTreeEnd rows start end → IsTreeEnd rows c end
  tree_inside start c end lt gt inside tree p from to = tree p (omega arith) to ∙ sym (one_tree rows laid start c lt (omega arith) inside)

  pub tree_further : (last c end : ℕ) → last < c → c < end → IsTreeEnd rows last end → IsTreeEnd rows c end
  tree_further last c end gt lt tree p from to = tree p (omega arith) to ∙ sym (tree c (omega arith) lt)

  pub behind_last : (places kept : List ℕ) (start end tree_end c : ℕ) → c < length rows → end ≡ start + size_at rows start → end ≤ c → c < tree_end → IsTreeEnd rows start tree_end
      → Keeps rows Following places (start ∷ kept) → Keeps rows Following (places ++ c ∷ []) (start ∷ kept)
  behind_last places kept start end tree_end c lt e le within tree keeps =
      keeps_by rows Following places (start ∷ kept) c start (inl refl) (λ p is. behind_further rows laid start c p lt (omega arith) (tree c (omega arith) within) is) keeps

  pub inside_last : (places kept : List ℕ) (start end c : ℕ) → start < length rows → end ≡ start + size_at rows start → start < c → c < end
      → Keeps rows Following places (start ∷ kept) → Keeps rows Following (places ++ c ∷ []) (c ∷ kept)
  inside_last places kept start end c lt e gt inside keeps =
      keeps_instead rows Following places kept c start (λ p is. behind_inner rows laid start c p lt gt (omega arith) is) keeps

  pub further_last : (places kept : List ℕ) (last tree_end c : ℕ) → last < c → c < tree_end → IsTreeEnd rows last tree_end
      → Keeps rows Preceding places (last ∷ kept) → Keeps rows Preceding (places ++ c ∷ []) (c ∷ kept)
  further_last places kept last tree_end c gt within tree keeps =
      keeps_instead rows Preceding places kept c last (λ p is. before_further rows laid last c p gt (tree c (omega arith) within) is) keeps
