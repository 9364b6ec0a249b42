-- Lists of bindings down to so many.
use Rattle.std.proofs.Common.{◌≡◌, ℕ, ◌+◌, ◌-◌, ◌<◌, ◌≤◌, min, List, ◌++◌, length, map, reverse, take, drop, sym, ap, ◌∙◌, arith, ◌⊎◌, inl, inr}
use Rattle.std.proofs.lemmas.Bool.{cases_lt}
use Rattle.std.proofs.lemmas.List.{reverse-append, length-reverse, length-append, length-map, length-drop, map-append, take-append-drop, take_all, drop-drop, drop_at, drop_all, drop-append-le}
use Rattle.std.proofs.Math.Nat.{le_refl}
use Rattle.std.proofs.Math.Seq.{drop-append-add}
use Rattle.prefix_scopes.specs.Few.{numbering_of, scope_of}
use Rattle.prefix_scopes.specs.Scoping.{Numbering}
use Rattle.prefix_scopes.specs.declared.scopes.Bound.{Bound}

-- one less
pub left_less : (start now next : List Numbering) → now ≡ drop (length start - length now) start → 0 < length now → next ≡ drop 1 now → next ≡ drop (length start - length next) start
left_less start now next is some less =
    let len : length next ≡ length now - 1 = ap length less ∙ length-drop 1 now in
    let sum : length start - length now + 1 ≡ length start - length next = omega (arith, len, some, ap length is ∙ length-drop (length start - length now) start) in
    less ∙ ap (drop 1) is ∙ drop-drop 1 (length start - length now) start ∙ ap (λ n. drop n start) sum

length_scope : (bounds : List Bound) → length (scope_of bounds) ≡ length bounds
length_scope bounds = length-map (reverse bounds) numbering_of ∙ length-reverse bounds

scope_parts : (bounds : List Bound) (n : ℕ) → scope_of bounds ≡ scope_of (drop n bounds) ++ scope_of (take n bounds)
scope_parts bounds n =
    ap scope_of (sym (take-append-drop n bounds)) ∙ ap (map numbering_of) (reverse-append (take n bounds) (drop n bounds)) ∙ map-append numbering_of (reverse (drop n bounds)) (reverse (take n bounds))

-- the outer ones of the bindings in a row
scope_take : (bounds : List Bound) (n : ℕ) → scope_of (take n bounds) ≡ drop (length bounds - n) (scope_of bounds)
scope_take bounds n =
    sym (ap (drop (length bounds - n)) (scope_parts bounds n) ∙ drop_at (scope_of (drop n bounds)) (scope_of (take n bounds)) (length bounds - n) (length_scope (drop n bounds) ∙ length-drop n bounds))

-- down to some of the few, or to all of them and some of the many
module _ (many : List Numbering) (few : List Bound) (len : ℕ) where
  whole : length (many ++ scope_of few) ≡ length many + length few
  whole = length-append many (scope_of few) ∙ ap (λ n. length many + n) (length_scope few)

  among_few : len ≤ length few → drop (length many) many ++ scope_of (take len few) ≡ drop (length (many ++ scope_of few) - len) (many ++ scope_of few)
  among_few le =
      let count : length (many ++ scope_of few) - len ≡ length many + (length few - len) = omega (arith, whole, le) in
      ap (λ l. l ++ scope_of (take len few)) (drop_all (length many) many (le_refl (length many)))
      ∙ scope_take few len ∙ sym (drop-append-add many (scope_of few) (length few - len)) ∙ ap (λ n. drop n (many ++ scope_of few)) (sym count)

  among_many : length few ≤ len → len ≤ length (many ++ scope_of few) → drop (length many - (len - length few)) many ++ scope_of few ≡ drop (length (many ++ scope_of few) - len) (many ++ scope_of few)
  among_many le within =
      let count : length many - (len - length few) ≡ length (many ++ scope_of few) - len = omega (arith, whole, le, within) in
      let few_stay : length (many ++ scope_of few) - len ≤ length many = omega (arith, whole, le) in
      ap (λ n. drop n many ++ scope_of few) count ∙ sym (drop-append-le (length (many ++ scope_of few) - len) many (scope_of few) few_stay)

  pub shortened : (kept : ℕ) → kept ≡ min len (length few) → len ≤ length (many ++ scope_of few)
      → drop (length many - (len - kept)) many ++ scope_of (take kept few) ≡ drop (length (many ++ scope_of few) - len) (many ++ scope_of few)
  shortened kept is within = by (cases_lt len (length few))
    where
      by : (len < length few) ⊎ (length few ≤ len) → drop (length many - (len - kept)) many ++ scope_of (take kept few) ≡ drop (length (many ++ scope_of few) - len) (many ++ scope_of few)
      by (inl lt) =
          let same : kept ≡ len = omega (arith, is, lt) in
          let none : length many - (len - kept) ≡ length many = omega (arith, same) in
          ap (λ n. drop n many ++ scope_of (take kept few)) none ∙ ap (λ n. drop (length many) many ++ scope_of (take n few)) same ∙ among_few (omega (arith, lt))
      by (inr le) =
          let same : kept ≡ length few = omega (arith, is, le) in
          ap (λ n. drop (length many - (len - n)) many ++ scope_of (take n few)) same
          ∙ ap (λ l. drop (length many - (len - length few)) many ++ scope_of l) (take_all (length few) few (le_refl (length few))) ∙ among_many le within
