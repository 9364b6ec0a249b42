-- The sizes of the frames of a sequence, one after the other.
use Rattle.std.specs.Prelude.{ℕ, ◌+◌, ◌-◌, ◌/◌, ◌%◌, ◌<◌, ◌≤◌, List, [], ◌∷◌, cond}
use Rattle.std.proofs.Common.{leb}

abbrev pub amount : List ℕ → ℕ
amount [] = 0
amount (x ∷ xs) = x + amount xs

-- the place of the first item of each frame, where that of the first frame is given
abbrev pub starts : ℕ → List ℕ → List ℕ
starts n [] = []
starts n (x ∷ xs) = n ∷ starts (n + x) xs

-- no two neighbours have 256 items or fewer together; what stands before the first has so many items
abbrev pub ArePacked : ℕ → List ℕ → Type 0
ArePacked l [] = Unit {0}
ArePacked l (x ∷ xs) = (256 < l + x) × ArePacked x xs

-- the last of some sizes, or else what stands before them
abbrev pub last_or : ℕ → List ℕ → ℕ
last_or l [] = l
last_or l (x ∷ xs) = last_or x xs

-- each frame has an item, and at most 256
abbrev pub AreSizes : List ℕ → Type 0
AreSizes [] = Unit {0}
AreSizes (x ∷ xs) = (0 < x) × (x ≤ 256) × AreSizes xs

-- so many items are put into frames: up to 256 into one, up to 512 into two that are even, more into full frames and a rest
abbrev pub first_chunk : ℕ → ℕ
first_chunk m = cond (leb m 256) m (cond (leb m 512) ((m + 1) / 2) 256)

abbrev pub last_chunk : ℕ → ℕ
last_chunk m = cond (leb m 256) m (cond (leb m 512) (m / 2) ((m - 1) % 256 + 1))

-- and so many frames
abbrev pub chunks : ℕ → ℕ
chunks m = (m + 255) / 256
