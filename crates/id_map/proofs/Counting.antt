-- How often an id stands in runs, and what that says of runs in order of id.
use Rattle.std.proofs.Common.{◌≡◌, ℕ, zero, suc, ◌+◌, ◌-◌, ◌<◌, ◌≤◌, ◌^◌, inl, inr, List, [], ◌∷◌, ◌++◌, length, refl, sym, ap, ◌∙◌, arith}
use Rattle.std.specs.List.{sum_by, AllByRecursion}
use Rattle.std.proofs.lemmas.Bool.{cases_Bool, cases_lt}
use Rattle.std.proofs.lemmas.List.{length-append}
use Rattle.std.proofs.lemmas.List.Elements.{All-from_recursion}
use Rattle.std.proofs.lemmas.List.Sums.{sum_by-cons}
use Rattle.id_map.specs.Ids.{ids_from, times, AreIds}
use Rattle.id_map.specs.Spans.{ids_of, AreLaid, AreApart, SameRuns}
use Rattle.id_map.specs.declared.span.Span.{Span}
use Rattle.id_map.proofs.IdLists.{length-ids_from, times-append, times_below, times_above, times_within}
use Rattle.id_map.proofs.Joining.{AreSome}
use Rattle.id_map.proofs.SameRuns.{same, same_true, stands, stands-nil, stands-other, stands-same, all_from_standing}

-- how often an id stands in a run
abbrev pub in_run : ℕ → Span → ℕ
in_run id s = times id (ids_from s.first_id s.n)

pub times-ids_of : (id : ℕ) (ss : List Span) → times id (ids_of ss) ≡ sum_by (in_run id) ss
times-ids_of id [] = refl
times-ids_of id (s ∷ ss) = times-append id (ids_from s.first_id s.n) (ids_of ss) ∙ ap (λ k. in_run id s + k) (times-ids_of id ss) ∙ sym (sum_by-cons (in_run id) s ss)

-- an id stands as often in the same runs in another order
pub times-same_runs : (id : ℕ) (xs ys : List Span) → SameRuns ys xs → times id (ids_of xs) ≡ sum_by (in_run id) ys
times-same_runs id xs ys h = times-ids_of id xs ∙ sym (h (in_run id))

in_run_once : (id : ℕ) (s : Span) → in_run id s ≤ 1
in_run_once id s =
    elim (cases_lt id s.first_id) [
      | inl lt ↦ omega (arith, times_below id s.first_id s.n lt)
      | inr le ↦ elim (cases_lt id (s.first_id + s.n)) [
        | inl lt ↦ omega (arith, times_within id s.first_id s.n le lt)
        | inr ge ↦ omega (arith, times_above id s.first_id s.n ge)
      ]
    ]

-- ---- runs in order of id

pub apart_order : (low high : ℕ) (ss : List Span) → AreApart low ss high → low ≤ high
apart_order low high [] h = h
apart_order low high (s ∷ ss) h = omega (arith, h.0, apart_order (s.first_id + s.n) high ss h.1)

pub end_at_most : (low high : ℕ) (ss : List Span) (t : Span) → AreApart low ss high → 0 < stands t ss → t.first_id + t.n ≤ high
end_at_most low high [] t h some = absurd (omega (arith, stands-nil t))
end_at_most low high (s ∷ ss) t h some =
    elim (cases_Bool (same s t)) [
      | inl e ↦ omega (arith, apart_order (s.first_id + s.n) high ss h.1, ap (λ (x : Span). x.first_id + x.n) (same_true s t e))
      | inr e ↦ end_at_most (s.first_id + s.n) high ss t h.1 (omega (arith, stands-other t s ss e))
    ]

pub none_below : (id low high : ℕ) (ss : List Span) → AreApart low ss high → id < low → sum_by (in_run id) ss ≡ 0
none_below id low high [] h lt = refl
none_below id low high (s ∷ ss) h lt =
    let first : id < s.first_id = omega (arith, h.0) in
    sum_by-cons (in_run id) s ss ∙ omega (arith, times_below id s.first_id s.n first, none_below id (s.first_id + s.n) high ss h.1 (omega (arith, h.0)))

pub none_above : (id low high : ℕ) (ss : List Span) → AreApart low ss high → high ≤ id → sum_by (in_run id) ss ≡ 0
none_above id low high [] h le = refl
none_above id low high (s ∷ ss) h le =
    let end : s.first_id + s.n ≤ id = omega (arith, apart_order (s.first_id + s.n) high ss h.1) in
    sum_by-cons (in_run id) s ss ∙ omega (arith, times_above id s.first_id s.n end, none_above id (s.first_id + s.n) high ss h.1 le)

pub none_before : (id : ℕ) (ss : List Span) → AllByRecursion (λ s. id < s.first_id) ss → sum_by (in_run id) ss ≡ 0
none_before id [] h = refl
none_before id (s ∷ ss) h = sum_by-cons (in_run id) s ss ∙ omega (arith, times_below id s.first_id s.n h.0, none_before id ss h.1)

pub at_most_once : (id low high : ℕ) (ss : List Span) → AreApart low ss high → sum_by (in_run id) ss ≤ 1
at_most_once id low high [] h = omega arith
at_most_once id low high (s ∷ ss) h =
    elim (cases_lt id (s.first_id + s.n)) [
      | inl lt ↦ omega (arith, sum_by-cons (in_run id) s ss, in_run_once id s, none_below id (s.first_id + s.n) high ss h.1 lt)
      | inr le ↦ omega (arith, sum_by-cons (in_run id) s ss, times_above id s.first_id s.n le, at_most_once id (s.first_id + s.n) high ss h.1)
    ]

-- ---- what a map keeps of its ids

ids_from_below : (first n b : ℕ) (ids : List ℕ) → first + n ≤ b → AllByRecursion (λ id. id < b) ids → AllByRecursion (λ id. id < b) (ids_from first n ++ ids)
ids_from_below first zero b ids le h = h
ids_from_below first (suc n) b ids le h = (let lt : first < b = omega arith in lt, ids_from_below (suc first) n b ids (omega arith) h)

ids_of_below : (b : ℕ) (ss : List Span) → AllByRecursion (λ s. s.first_id + s.n ≤ b) ss → AllByRecursion (λ id. id < b) (ids_of ss)
ids_of_below b [] h = tt
ids_of_below b (s ∷ ss) h = ids_from_below s.first_id s.n b (ids_of ss) h.0 (ids_of_below b ss h.1)

pub ids_are : (xs ys : List Span) → SameRuns ys xs → AreApart 0 ys (2 ^ 32 - 1) → length (ids_of xs) < 2 ^ 32 → AreIds (ids_of xs)
ids_are xs ys h apart few = record {
  distinct = λ id. omega (arith, times-same_runs id xs ys h, at_most_once id 0 (2 ^ 32 - 1) ys apart);
  few = few;
  small = All-from_recursion (λ id. id < 2 ^ 32 - 1) (ids_of xs) (ids_of_below (2 ^ 32 - 1) xs
      (all_from_standing (λ s. s.first_id + s.n ≤ 2 ^ 32 - 1) xs (λ s some. end_at_most 0 (2 ^ 32 - 1) ys s apart (omega (arith, stands-same s ys xs h)))));
}

-- ---- runs about new ids

-- runs that begin at an id or before it, which isn't in them, end before it
pub apart_up_to : (low m first : ℕ) (ss : List Span) → AreApart low ss m → low ≤ first → AllByRecursion (λ s. s.first_id ≤ first) ss → sum_by (in_run first) ss ≡ 0 → AreApart low ss first
apart_up_to low m first [] h le all none = le
apart_up_to low m first (s ∷ ss) h le all none =
    elim (cases_lt first (s.first_id + s.n)) [
      | inl lt ↦ absurd (omega (arith, none, sum_by-cons (in_run first) s ss, times_within first s.first_id s.n all.0 lt))
      | inr ge ↦ (h.0, apart_up_to (s.first_id + s.n) m first ss h.1 ge all.1 (omega (arith, none, sum_by-cons (in_run first) s ss)))
    ]

-- runs that begin behind an id begin behind all new ones from it on
pub apart_behind : (first n m high : ℕ) (ss : List Span) → AreApart m ss high → first + n ≤ high → AreSome ss → AllByRecursion (λ s. first < s.first_id) ss
    → ((id : ℕ) → first ≤ id → id < first + n → sum_by (in_run id) ss ≡ 0) → AreApart (first + n) ss high
apart_behind first n m high [] h le has all none = le
apart_behind first n m high (s ∷ ss) h le has all none =
    elim (cases_lt s.first_id (first + n)) [
      | inl lt ↦ let le_self : s.first_id ≤ s.first_id = omega arith in
          let within : s.first_id < s.first_id + s.n = omega (arith, has.0) in
          absurd (omega (arith, none s.first_id (omega (arith, all.0)) lt, sum_by-cons (in_run s.first_id) s ss, times_within s.first_id s.first_id s.n le_self within))
      | inr ge ↦ (ge, h.1)
    ]

-- ---- runs in order of pre

pub laid_order : (p q : ℕ) (ss : List Span) → AreLaid p ss q → p ≤ q
laid_order p q [] h = omega (arith, h)
laid_order p q (s ∷ ss) h = omega (arith, laid_order (p + s.n) q ss h.1)

pub end_pre_at_most : (p q : ℕ) (ss : List Span) (t : Span) → AreLaid p ss q → 0 < stands t ss → t.pre + t.n ≤ q
end_pre_at_most p q [] t h some = absurd (omega (arith, stands-nil t))
end_pre_at_most p q (s ∷ ss) t h some =
    elim (cases_Bool (same s t)) [
      | inl e ↦ omega (arith, h.0, laid_order (p + s.n) q ss h.1, ap (λ (x : Span). x.pre + x.n) (same_true s t e))
      | inr e ↦ end_pre_at_most (p + s.n) q ss t h.1 (omega (arith, stands-other t s ss e))
    ]

-- a run stands at as many as the ids before it
pub pre_is : (p q : ℕ) (xs : List Span) (s : Span) (ys : List Span) → AreLaid p (xs ++ s ∷ ys) q → s.pre ≡ p + length (ids_of xs)
pre_is p q [] s ys h = h.0 ∙ omega arith
pre_is p q (x ∷ xs) s ys h =
    pre_is (p + x.n) q xs s ys h.1 ∙ omega (arith, length-append (ids_from x.first_id x.n) (ids_of xs), length-ids_from x.first_id x.n)

pub length-laid : (p q : ℕ) (ss : List Span) → AreLaid p ss q → p + length (ids_of ss) ≡ q
length-laid p q [] h = omega (arith, h)
length-laid p q (s ∷ ss) h = omega (arith, length-laid (p + s.n) q ss h.1, length-append (ids_from s.first_id s.n) (ids_of ss), length-ids_from s.first_id s.n)
