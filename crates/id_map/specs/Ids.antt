-- Ids in order of the pre numbers at which they stand: the first stands at 0, each other one right behind the one before it.
use Rattle.std.specs.Prelude.{◌≡◌, ℕ, zero, suc, ◌+◌, ◌-◌, ◌^◌, ◌<◌, ◌≤◌, ◌==◌, List, [], ◌∷◌, ◌++◌, length, take, drop, Option, position, count_by, All}

-- n ids, each one more than the one before it
abbrev pub ids_from : ℕ → ℕ → List ℕ
ids_from first zero = []
ids_from first (suc n) = first ∷ ids_from (suc first) n

-- ids with their pres, the first of which is n
abbrev pub pairs_from : ℕ → List ℕ → List (ℕ × ℕ)
pairs_from n [] = []
pairs_from n (id ∷ ids) = (id, n) ∷ pairs_from (suc n) ids

abbrev pub id_pairs : List ℕ → List (ℕ × ℕ)
id_pairs ids = pairs_from 0 ids

-- a pair whose pre is so many more or less
abbrev pub moved_up : ℕ → ℕ × ℕ → ℕ × ℕ
moved_up n pair = (pair.0, pair.1 + n)

abbrev pub moved_down : ℕ → ℕ × ℕ → ℕ × ℕ
moved_down n pair = (pair.0, pair.1 - n)

-- the pre of the first that equals an id
abbrev pub pre_with : ℕ → List ℕ → Option ℕ
pre_with id ids = position (λ x. x == id) ids

-- ids with n more, from a first one on, before the one at a pre
abbrev pub with_ids : ℕ → ℕ → ℕ → List ℕ → List ℕ
with_ids pre first n ids = take pre ids ++ (ids_from first n ++ drop pre ids)

-- ids without the n from a pre on
abbrev pub without_ids : ℕ → ℕ → List ℕ → List ℕ
without_ids pre n ids = take pre ids ++ drop (pre + n) ids

-- how many of some ids equal one
abbrev pub times : ℕ → List ℕ → ℕ
times id ids = count_by (λ x. x == id) ids

-- none of n ids, from a first one on, is among some
abbrev pub AreNew : ℕ → ℕ → List ℕ → Type 0
AreNew first n ids = (id : ℕ) → first ≤ id → id < first + n → times id ids ≡ 0

-- what a map keeps of its ids
pub record AreIds (ids : List ℕ) : Type 0 where
  pub distinct : (id : ℕ) → times id ids ≤ 1
  pub few : length ids < 2 ^ 32
  pub small : All (λ id. id < 2 ^ 32 - 1) ids
