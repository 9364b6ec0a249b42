-- Lists of ids that rise by one, how often an id stands in a list, and where.
use Rattle.std.proofs.Common.{◌≡◌, ℕ, zero, suc, ◌+◌, ◌-◌, ◌<◌, ◌≤◌, min, inl, inr, not, cond, eqb, ltb, List, [], ◌∷◌, ◌++◌, length, take, drop, Option, Some, None, refl, sym, ap, ap₂, ◌∙◌, arith}
use Rattle.std.specs.List.{position_or_len}
use Rattle.std.proofs.lemmas.Bool.{cond-true, cond-false, eq-eqb, ne_eqb, lt-ltb, le-ltb, cases_eq, cases_lt}
use Rattle.std.proofs.lemmas.List.{length-append, length-take, length-drop}
use Rattle.std.proofs.lemmas.List.Sums.{sum_by-cons, sum_by-append}
use Rattle.id_map.specs.Ids.{ids_from, times, pre_with, with_ids, without_ids}

pub length-ids_from : (first n : ℕ) → length (ids_from first n) ≡ n
length-ids_from first zero = refl
length-ids_from first (suc n) = ap suc (length-ids_from (suc first) n)

pub ids_from-append : (first n m : ℕ) → ids_from first (n + m) ≡ ids_from first n ++ ids_from (first + n) m
ids_from-append first zero m = ap₂ ids_from (omega arith) (omega arith)
ids_from-append first (suc n) m =
    let more : suc n + m ≡ suc (n + m) = omega arith in
    ap (ids_from first) more ∙ ap (λ l. first ∷ l) (ids_from-append (suc first) n m ∙ ap (λ k. ids_from (suc first) n ++ ids_from k m) (omega arith))

pub take-ids_from : (k first n : ℕ) → take k (ids_from first n) ≡ ids_from first (min n k)
take-ids_from zero first n = let none : 0 ≡ min n 0 = omega arith in ap (ids_from first) none
take-ids_from (suc k) first zero = let none : 0 ≡ min 0 (suc k) = omega arith in ap (ids_from first) none
take-ids_from (suc k) first (suc n) =
    let more : suc (min n k) ≡ min (suc n) (suc k) = omega arith in
    ap (λ l. first ∷ l) (take-ids_from k (suc first) n) ∙ ap (ids_from first) more

pub drop-ids_from : (k first n : ℕ) → drop k (ids_from first n) ≡ ids_from (first + min n k) (n - min n k)
drop-ids_from zero first n = ap₂ ids_from (omega arith) (omega arith)
drop-ids_from (suc k) first zero = let none : 0 ≡ 0 - min 0 (suc k) = omega arith in ap (ids_from (first + min 0 (suc k))) none
drop-ids_from (suc k) first (suc n) = drop-ids_from k (suc first) n ∙ ap₂ ids_from (omega arith) (omega arith)

-- ---- how often an id stands in a list

pub times-append : (id : ℕ) (xs ys : List ℕ) → times id (xs ++ ys) ≡ times id xs + times id ys
times-append id xs ys = sum_by-append (λ x. cond (eqb x id) 1 0) xs ys

times-same : (id x : ℕ) (xs : List ℕ) → x ≡ id → times id (x ∷ xs) ≡ 1 + times id xs
times-same id x xs e = sum_by-cons (λ x. cond (eqb x id) 1 0) x xs ∙ ap (λ n. n + times id xs) (cond-true (eqb x id) 1 0 (eq-eqb x id e))

times-other : (id x : ℕ) (xs : List ℕ) → (x ≡ id → ⊥) → times id (x ∷ xs) ≡ times id xs
times-other id x xs ne = sum_by-cons (λ x. cond (eqb x id) 1 0) x xs ∙ ap (λ n. n + times id xs) (cond-false (eqb x id) 1 0 (ne_eqb x id ne)) ∙ omega arith

pub times_below : (id first n : ℕ) → id < first → times id (ids_from first n) ≡ 0
times_below id first zero lt = refl
times_below id first (suc n) lt = times-other id first (ids_from (suc first) n) (λ e. omega arith) ∙ times_below id (suc first) n (omega arith)

pub times_above : (id first n : ℕ) → first + n ≤ id → times id (ids_from first n) ≡ 0
times_above id first zero le = refl
times_above id first (suc n) le = times-other id first (ids_from (suc first) n) (λ e. omega arith) ∙ times_above id (suc first) n (omega arith)

pub times_within : (id first n : ℕ) → first ≤ id → id < first + n → times id (ids_from first n) ≡ 1
times_within id first zero le lt = absurd (omega arith)
times_within id first (suc n) le lt =
    elim (cases_eq first id) [
      | inl e ↦ times-same id first (ids_from (suc first) n) e ∙ ap (λ k. 1 + k) (times_below id (suc first) n (omega arith))
      | inr ne ↦ times-other id first (ids_from (suc first) n) ne ∙ times_within id (suc first) n (omega arith) (omega arith)
    ]

-- ---- where an id stands in a list

all_passed : (id : ℕ) (xs : List ℕ) → times id xs ≡ 0 → position_or_len (λ x. eqb x id) xs ≡ length xs
all_passed id [] none = refl
all_passed id (x ∷ xs) none =
    elim (cases_eq x id) [
      | inl e ↦ absurd (omega (arith, times-same id x xs e))
      | inr ne ↦ cond-true (not (eqb x id)) (1 + position_or_len (λ x. eqb x id) xs) 0 (ap not (ne_eqb x id ne))
          ∙ ap (λ n. 1 + n) (all_passed id xs (sym (times-other id x xs ne) ∙ none)) ∙ omega arith
    ]

passed_to : (id : ℕ) (xs ys : List ℕ) → times id xs ≡ 0 → position_or_len (λ x. eqb x id) (xs ++ id ∷ ys) ≡ length xs
passed_to id [] ys none = cond-false (not (eqb id id)) (1 + position_or_len (λ x. eqb x id) ys) 0 (ap not (eq-eqb id id refl))
passed_to id (x ∷ xs) ys none =
    elim (cases_eq x id) [
      | inl e ↦ absurd (omega (arith, times-same id x xs e))
      | inr ne ↦ cond-true (not (eqb x id)) (1 + position_or_len (λ x. eqb x id) (xs ++ id ∷ ys)) 0 (ap not (ne_eqb x id ne))
          ∙ ap (λ n. 1 + n) (passed_to id xs ys (sym (times-other id x xs ne) ∙ none)) ∙ omega arith
    ]

-- an id that isn't there has no pre
pub pre_with-none : (id : ℕ) (ids : List ℕ) → times id ids ≡ 0 → None ≡ pre_with id ids
pre_with-none id ids none =
    let n = position_or_len (λ x. eqb x id) ids in
    sym (cond-false (ltb n (length ids)) (Some n) None (le-ltb n (length ids) (omega (arith, all_passed id ids none))))

-- the first that equals an id stands at as many as stand before it
pub pre_with-at : (id k : ℕ) (xs ys ids : List ℕ) → times id xs ≡ 0 → length xs ≡ k → ids ≡ xs ++ id ∷ ys → Some k ≡ pre_with id ids
pre_with-at id k xs ys ids none len e =
    let n = position_or_len (λ x. eqb x id) (xs ++ id ∷ ys) in
    let at : n ≡ k = passed_to id xs ys none ∙ len in
    let within : n < length (xs ++ id ∷ ys) = omega (arith, at, length-append xs (id ∷ ys)) in
    ap (λ m. Some m) (sym at) ∙ sym (cond-true (ltb n (length (xs ++ id ∷ ys))) (Some n) None (lt-ltb n _ within)) ∙ ap (pre_with id) (sym e)

pub times-self : (id : ℕ) (xs : List ℕ) → times id (id ∷ xs) ≡ 1 + times id xs
times-self id xs = times-same id id xs refl

-- where the first isn't sought, a list without a pre for an id leaves one without
first_found : (id x : ℕ) (xs : List ℕ) → x ≡ id → pre_with id (x ∷ xs) ≡ None → ⊥
first_found id x xs same e =
    let found : Some 0 ≡ pre_with id (x ∷ xs) = pre_with-at id 0 [] xs (x ∷ xs) refl refl (ap (λ y. y ∷ xs) same) in
    let clash : ◌≡◌ {A = Option ℕ} (Some 0) None = found ∙ e in cc

later : (id x : ℕ) (xs : List ℕ) → (x ≡ id → ⊥) → pre_with id (x ∷ xs) ≡ None → pre_with id xs ≡ None
later id x xs ne e =
    let n = position_or_len (λ y. eqb y id) xs in
    let m = position_or_len (λ y. eqb y id) (x ∷ xs) in
    let next : m ≡ 1 + n = cond-true (not (eqb x id)) (1 + n) 0 (ap not (ne_eqb x id ne)) in
    elim (cases_lt n (length xs)) [
      | inl lt ↦ let within : m < length (x ∷ xs) = omega (arith, next) in
          let clash : ◌≡◌ {A = Option ℕ} (Some m) None = sym (cond-true (ltb m (length (x ∷ xs))) (Some m) None (lt-ltb m (length (x ∷ xs)) within)) ∙ e in absurd cc
      | inr ge ↦ cond-false (ltb n (length xs)) (Some n) None (le-ltb n (length xs) ge)
    ]

-- an id that has no pre isn't there
pub times-without_pre : (id : ℕ) (ids : List ℕ) → pre_with id ids ≡ None → times id ids ≡ 0
times-without_pre id [] e = refl
times-without_pre id (x ∷ xs) e =
    elim (cases_eq x id) [
      | inl same ↦ absurd (first_found id x xs same e)
      | inr ne ↦ times-other id x xs ne ∙ times-without_pre id xs (later id x xs ne e)
    ]

pub length-with_ids : (pre first n : ℕ) (ids : List ℕ) → length (with_ids pre first n ids) ≡ length ids + n
length-with_ids pre first n ids =
    omega (arith, length-append (take pre ids) (ids_from first n ++ drop pre ids), length-append (ids_from first n) (drop pre ids), length-take pre ids, length-drop pre ids, length-ids_from first n)

pub length-without_ids : (pre n : ℕ) (ids : List ℕ) → pre + n ≤ length ids → length (without_ids pre n ids) + n ≡ length ids
length-without_ids pre n ids le = omega (arith, length-append (take pre ids) (drop (pre + n) ids), length-take pre ids, length-drop (pre + n) ids)
