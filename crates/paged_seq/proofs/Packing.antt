-- The rule on neighbouring frames.
use Rattle.std.proofs.Common.{◌≡◌, ℕ, zero, suc, ◌+◌, ◌<◌, ◌≤◌, List, [], ◌∷◌, ◌++◌, length, get_or, take, drop, refl, sym, ap, ◌∙◌, subst, arith}
use Rattle.paged_seq.specs.Sizes.{ArePacked, last_or, AreSizes}

pub packed_take : (l : ℕ) (xs : List ℕ) (k : ℕ) → ArePacked l xs → ArePacked l (take k xs)
packed_take l [] zero p = tt
packed_take l [] (suc k) p = tt
packed_take l (x ∷ xs) zero p = tt
packed_take l (x ∷ xs) (suc k) p = (p.0, packed_take x xs k p.1)

pub packed_drop : (l : ℕ) (xs : List ℕ) (k : ℕ) → ArePacked l xs → ArePacked (last_or l (take k xs)) (drop k xs)
packed_drop l [] zero p = tt
packed_drop l [] (suc k) p = tt
packed_drop l (x ∷ xs) zero p = p
packed_drop l (x ∷ xs) (suc k) p = packed_drop x xs k p.1

pub packed_join : (l : ℕ) (xs ys : List ℕ) → ArePacked l xs → ArePacked (last_or l xs) ys → ArePacked l (xs ++ ys)
packed_join l [] ys p q = q
packed_join l (x ∷ xs) ys p q = (p.0, packed_join x xs ys p.1 q)

pub last_append : (l : ℕ) (xs ys : List ℕ) → last_or l (xs ++ ys) ≡ last_or (last_or l xs) ys
last_append l [] ys = refl
last_append l (x ∷ xs) ys = last_append x xs ys

-- more stands before
pub packed_more : (l m : ℕ) (xs : List ℕ) → l ≤ m → ArePacked l xs → ArePacked m xs
packed_more l m [] le p = tt
packed_more l m (x ∷ xs) le p = let lt = p.0 in (omega (arith, lt), p.1)

-- another stands before, which goes with the first
pub packed_head : (l m : ℕ) (xs : List ℕ) (k : ℕ) → ArePacked l (drop k xs) → 256 < m + get_or xs k 256 → ArePacked m (drop k xs)
packed_head l m [] zero p lt = tt
packed_head l m [] (suc k) p lt = tt
packed_head l m (x ∷ xs) zero p lt = (lt, p.1)
packed_head l m (x ∷ xs) (suc k) p lt = packed_head l m xs k p lt

-- what stands first, and what follows it
pub packed_first : (l : ℕ) (xs : List ℕ) (k d : ℕ) → k < length xs → ArePacked l (drop k xs) → 256 < l + get_or xs k d
packed_first l [] k d lt p = absurd (omega arith)
packed_first l (x ∷ xs) zero d lt p = p.0
packed_first l (x ∷ xs) (suc k) d lt p = packed_first l xs k d (omega arith) p

pub packed_next : (l : ℕ) (xs : List ℕ) (k d : ℕ) → k < length xs → ArePacked l (drop k xs) → ArePacked (get_or xs k d) (drop (k + 1) xs)
packed_next l [] k d lt p = absurd (omega arith)
packed_next l (x ∷ xs) zero d lt p = p.1
packed_next l (x ∷ xs) (suc k) d lt p = let e : suc k + 1 ≡ suc (k + 1) = omega arith in subst (λ m. ArePacked (get_or xs k d) (drop m (x ∷ xs))) (sym e) (packed_next l xs k d (omega arith) p)

pub last_take : (l : ℕ) (xs : List ℕ) (k d : ℕ) → k < length xs → last_or l (take (k + 1) xs) ≡ get_or xs k d
last_take l [] k d lt = absurd (omega arith)
last_take l (x ∷ xs) zero d lt = refl
last_take l (x ∷ xs) (suc k) d lt = let e : suc k + 1 ≡ suc (k + 1) = omega arith in ap (λ m. last_or l (take m (x ∷ xs))) e ∙ last_take x xs k d (omega arith)

pub last_le : (l : ℕ) (xs : List ℕ) (k : ℕ) → l ≤ 256 → AreSizes xs → last_or l (take k xs) ≤ 256
last_le l [] zero le p = le
last_le l [] (suc k) le p = le
last_le l (x ∷ xs) zero le p = le
last_le l (x ∷ xs) (suc k) le p = last_le x xs k p.1 p.2

pub size_some : (xs : List ℕ) (k : ℕ) → AreSizes xs → 0 < get_or xs k 256
size_some [] zero p = omega arith
size_some [] (suc k) p = omega arith
size_some (x ∷ xs) zero p = p.0
size_some (x ∷ xs) (suc k) p = size_some xs k p.2

pub size_few : (xs : List ℕ) (k : ℕ) → AreSizes xs → get_or xs k 256 ≤ 256
size_few [] zero p = omega arith
size_few [] (suc k) p = omega arith
size_few (x ∷ xs) zero p = p.1
size_few (x ∷ xs) (suc k) p = size_few xs k p.2
