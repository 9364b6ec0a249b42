-- A pool as a finite map from the numbers of frames to their items and counts. The map is a list, in which a number is a
-- place. A frame whose count is 0 is not in the map: it is spare.
use Rattle.std.specs.Prelude.{◌≡◌, ℕ, zero, suc, ◌+◌, ◌-◌, List, [], ◌∷◌, ◌++◌, cond}
use Rattle.std.proofs.Common.{get_or, set, eqb, replicate}
use Rattle.std.specs.List.{sum_by}

-- the items of a frame, and its count
pub record Held (A : Type 0) : Type 0 where
  pub items : List A
  pub count : ℕ

-- what is not in the map
abbrev pub no_frame : {A : Type 0} → Held A
no_frame = record { items = []; count = 0 }

abbrev pub held_at : {A : Type 0} → List (Held A) → ℕ → Held A
held_at pool f = get_or pool f no_frame

abbrev pub items_at : {A : Type 0} → List (Held A) → ℕ → List A
items_at pool f = (held_at pool f).items

abbrev pub count_at : {A : Type 0} → List (Held A) → ℕ → ℕ
count_at pool f = (held_at pool f).count

-- what is not in the map has no items
abbrev pub SparesAreEmpty : {A : Type 0} → List (Held A) → Type 0
SparesAreEmpty pool = (f : ℕ) → count_at pool f ≡ 0 → items_at pool f ≡ []

-- the map with another frame in a place
abbrev pub with_frame : {A : Type 0} → List (Held A) → ℕ → List A → ℕ → List (Held A)
with_frame pool f items count = set pool f (record { items = items; count = count })

-- a frame that one more directory names, and one that one less names
abbrev pub shared : {A : Type 0} → List (Held A) → ℕ → List (Held A)
shared pool f = with_frame pool f (items_at pool f) (count_at pool f + 1)

abbrev pub with_count : {A : Type 0} → List A → ℕ → Held A
with_count items zero = no_frame
with_count items (suc n) = record { items = items; count = suc n }

abbrev pub released : {A : Type 0} → List (Held A) → ℕ → List (Held A)
released pool f = set pool f (with_count (items_at pool f) (count_at pool f - 1))

-- how often a number stands in a list of numbers
abbrev pub here : ℕ → ℕ → ℕ
here f g = cond (eqb g f) 1 0

abbrev pub times : ℕ → List ℕ → ℕ
times f frames = sum_by (here f) frames

-- 1 where a count is 0
abbrev pub vacancy : ℕ → ℕ
vacancy zero = 1
vacancy (suc n) = 0

abbrev pub presence : ℕ → ℕ
presence zero = 0
presence (suc n) = 1

abbrev pub spare_of : {A : Type 0} → List (Held A) → ℕ
spare_of pool = sum_by (λ h. vacancy h.count) pool

abbrev pub used_of : {A : Type 0} → List (Held A) → ℕ
used_of pool = sum_by (λ h. presence h.count) pool

-- the map with at least so many spare frames
abbrev pub with_spare : {A : Type 0} → ℕ → List (Held A) → List (Held A)
with_spare n pool = pool ++ replicate (n - spare_of pool) no_frame

-- so many numbers from one on
abbrev pub numbers_from : ℕ → ℕ → List ℕ
numbers_from m zero = []
numbers_from m (suc n) = m ∷ numbers_from (suc m) n
