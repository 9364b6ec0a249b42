-- Where a search in runs ends.
use Rattle.std.proofs.Common.{◌≡◌, ℕ, zero, suc, ◌+◌, ◌-◌, ◌<◌, ◌≤◌, List, [], ◌∷◌, length, take, drop, get_or, leb, ltb, true, false, sym, ◌∙◌, subst, arith}
use Rattle.std.specs.List.{AllByRecursion, AllWithin, AllAdjacentBelow}
use Rattle.std.specs.List.Sorted.{IsNonDecreasingBy, IsPartitionPoint}
use Rattle.std.proofs.lemmas.Bool.{leb-true, leb-false, ltb-true, ltb-false}
use Rattle.std.proofs.lemmas.List.{length-take-le, get_or-take}
use Rattle.std.proofs.lemmas.List.Elements.{All-from_recursion, recursion_from_All, All-get_or}
use Rattle.std.proofs.lemmas.List.Sorted.{IsNonDecreasingBy-from_all_adjacent}
use Rattle.id_map.specs.Changes.{IsIdPlace, IsPrePlace}
use Rattle.id_map.specs.Spans.{AreLaid, AreApart}
use Rattle.id_map.specs.declared.span.Span.{Span}

pub all_before : (P : Span → Type 0) (i : ℕ) (ss : List Span) → i ≤ length ss → AllWithin P ss 0 i → AllByRecursion P (take i ss)
all_before P zero ss le h = tt
all_before P (suc i) [] le h = absurd (omega arith)
all_before P (suc i) (s ∷ ss) le h = (h 0 s (omega arith) (omega arith), all_before P i ss (omega arith) (λ k d lo hi. h (suc k) d (omega arith) (omega arith)))

pub all_behind : (P : Span → Type 0) (i : ℕ) (ss : List Span) → AllWithin P ss i (length ss) → AllByRecursion P (drop i ss)
all_behind P zero [] h = tt
all_behind P zero (s ∷ ss) h = (h 0 s (omega arith) (omega arith), all_behind P zero ss (λ k d lo hi. h (suc k) d (omega arith) (omega arith)))
all_behind P (suc i) [] h = tt
all_behind P (suc i) (s ∷ ss) h = all_behind P i ss (λ k d lo hi. h (suc k) d (omega arith) (omega arith))

-- ids and pres rise from run to run

ids_adjacent : (low high : ℕ) (ss : List Span) → AreApart low ss high → AllAdjacentBelow (λ x y. x.first_id ≤ y.first_id) ss (length ss)
ids_adjacent low high [] h k d lt = absurd (omega arith)
ids_adjacent low high (s ∷ []) h k d lt = absurd (omega arith)
ids_adjacent low high (s ∷ t ∷ ss) h zero d lt = let one : 0 + 1 ≡ 1 = omega arith in subst (λ m. s.first_id ≤ (get_or (s ∷ t ∷ ss) m d).first_id) (sym one) (omega (arith, h.1.0))
ids_adjacent low high (s ∷ t ∷ ss) h (suc k) d lt =
    let more : suc k + 1 ≡ suc (k + 1) = omega arith in
    subst (λ m. (get_or (t ∷ ss) k d).first_id ≤ (get_or (s ∷ t ∷ ss) m d).first_id) (sym more) (ids_adjacent (s.first_id + s.n) high (t ∷ ss) h.1 k d (omega arith))

pub ids_rise : (low high : ℕ) (ss : List Span) → AreApart low ss high → IsNonDecreasingBy (λ s. s.first_id) ss
ids_rise low high ss h = IsNonDecreasingBy-from_all_adjacent (λ (s : Span). s.first_id) ss (ids_adjacent low high ss h)

pres_adjacent : (p q : ℕ) (ss : List Span) → AreLaid p ss q → AllAdjacentBelow (λ x y. x.pre ≤ y.pre) ss (length ss)
pres_adjacent p q [] h k d lt = absurd (omega arith)
pres_adjacent p q (s ∷ []) h k d lt = absurd (omega arith)
pres_adjacent p q (s ∷ t ∷ ss) h zero d lt = let one : 0 + 1 ≡ 1 = omega arith in subst (λ m. s.pre ≤ (get_or (s ∷ t ∷ ss) m d).pre) (sym one) (omega (arith, h.0, h.1.0))
pres_adjacent p q (s ∷ t ∷ ss) h (suc k) d lt =
    let more : suc k + 1 ≡ suc (k + 1) = omega arith in
    subst (λ m. (get_or (t ∷ ss) k d).pre ≤ (get_or (s ∷ t ∷ ss) m d).pre) (sym more) (pres_adjacent (p + s.n) q (t ∷ ss) h.1 k d (omega arith))

pub pres_rise : (p q : ℕ) (ss : List Span) → AreLaid p ss q → IsNonDecreasingBy (λ s. s.pre) ss
pres_rise p q ss h = IsNonDecreasingBy-from_all_adjacent (λ (s : Span). s.pre) ss (pres_adjacent p q ss h)

-- ---- what a search finds

pub id_place : (place id : ℕ) (runs : List Span) → place ≤ length runs → IsPartitionPoint (λ s. leb s.first_id id ≡ true) (λ s. leb s.first_id id ≡ false) runs place → IsIdPlace runs id place
id_place place id runs le point = record {
  within = le;
  before = All-from_recursion (λ (s : Span). s.first_id ≤ id) (take place runs) (all_before (λ s. s.first_id ≤ id) place runs le (λ k d lo hi. leb-true (get_or runs k d).first_id id (point.0 k d lo hi)));
  behind = All-from_recursion (λ (s : Span). id < s.first_id) (drop place runs) (all_behind (λ s. id < s.first_id) place runs (λ k d lo hi. leb-false (get_or runs k d).first_id id (point.1 k d lo hi)));
}

pub pre_place : (place pre : ℕ) (runs : List Span) → place ≤ length runs → IsPartitionPoint (λ s. ltb s.pre pre ≡ true) (λ s. ltb s.pre pre ≡ false) runs place → IsPrePlace runs pre place
pre_place place pre runs le point = record {
  within = le;
  before = All-from_recursion (λ (s : Span). s.pre < pre) (take place runs) (all_before (λ s. s.pre < pre) place runs le (λ k d lo hi. ltb-true (get_or runs k d).pre pre (point.0 k d lo hi)));
  behind = All-from_recursion (λ (s : Span). pre ≤ s.pre) (drop place runs) (all_behind (λ s. pre ≤ s.pre) place runs (λ k d lo hi. ltb-false (get_or runs k d).pre pre (point.1 k d lo hi)));
}

-- the last of the runs that begin at an id or before it
pub record IsLast (id k : ℕ) (runs : List Span) (s : Span) : Type 0 where
  pub within : k < length runs
  pub here : s ≡ get_or runs k s
  pub first : s.first_id ≤ id
  pub behind : AllByRecursion (λ t. id < t.first_id) (drop (k + 1) runs)

pub last_is : (place id : ℕ) (runs : List Span) (s : Span) → (place ≡ 0 → ⊥) → IsIdPlace runs id place → s ≡ get_or runs (place - 1) s → IsLast id (place - 1) runs s
last_is place id runs s some placed is =
    let k : ℕ = place - 1 in
    let lt : k < length (take place runs) = omega (arith, length-take-le place runs placed.within) in
    let below : k < place = omega arith in
    let same : get_or (take place runs) k s ≡ s = get_or-take place runs k s below ∙ sym is in
    let next : place ≡ k + 1 = omega arith in
    record {
      within = omega (arith, placed.within);
      here = is;
      first = subst (λ (x : Span). x.first_id ≤ id) same (All-get_or (λ (x : Span). x.first_id ≤ id) (take place runs) k s lt placed.before);
      behind = subst (λ m. AllByRecursion (λ t. id < t.first_id) (drop m runs)) next (recursion_from_All (λ (t : Span). id < t.first_id) (drop place runs) placed.behind);
    }
