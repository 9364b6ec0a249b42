-- Sizes, and the places that they say.
use Rattle.std.proofs.Common.{◌≡◌, ℕ, zero, suc, ◌+◌, ◌<◌, ◌≤◌, ◌⊎◌, inl, inr, List, [], ◌∷◌, ◌++◌, length, get_or, take, drop, refl, sym, ap, ◌∙◌, arith}
use Rattle.std.proofs.lemmas.Bool.{cases_lt}
use Rattle.std.proofs.lemmas.List.{get_or_past, take_all, take-append-drop}
use Rattle.paged_seq.specs.Sizes.{amount, starts}

pub amount_append : (xs ys : List ℕ) → amount (xs ++ ys) ≡ amount xs + amount ys
amount_append [] ys = omega arith
amount_append (x ∷ xs) ys = omega (arith, amount_append xs ys)

pub length_starts : (n : ℕ) (xs : List ℕ) → length (starts n xs) ≡ length xs
length_starts n [] = refl
length_starts n (x ∷ xs) = ap suc (length_starts (n + x) xs)

pub starts_append : (n : ℕ) (xs ys : List ℕ) → starts n (xs ++ ys) ≡ starts n xs ++ starts (n + amount xs) ys
starts_append n [] ys = ap (λ k. starts k ys) (omega arith)
starts_append n (x ∷ xs) ys = ap (λ l. n ∷ l) (starts_append (n + x) xs ys ∙ ap (λ k. starts (n + x) xs ++ starts k ys) (omega arith))

pub start_at : (n : ℕ) (xs : List ℕ) (k d : ℕ) → k < length xs → get_or (starts n xs) k d ≡ n + amount (take k xs)
start_at n [] k d lt = absurd (omega arith)
start_at n (x ∷ xs) zero d lt = omega arith
start_at n (x ∷ xs) (suc k) d lt = omega (arith, start_at (n + x) xs k d (omega arith))

pub place_is : (xs : List ℕ) (k : ℕ) → get_or (starts 0 xs) k (amount xs) ≡ amount (take k xs)
place_is xs k = by (cases_lt k (length xs))
  where
    by : (k < length xs) ⊎ (length xs ≤ k) → get_or (starts 0 xs) k (amount xs) ≡ amount (take k xs)
    by (inl lt) = omega (arith, start_at 0 xs k (amount xs) lt)
    by (inr le) = get_or_past (starts 0 xs) k (amount xs) (omega (arith, length_starts 0 xs)) ∙ ap amount (sym (take_all k xs le))

pub amount_more : (xs : List ℕ) (k d : ℕ) → k < length xs → amount (take (k + 1) xs) ≡ amount (take k xs) + get_or xs k d
amount_more [] k d lt = absurd (omega arith)
amount_more (x ∷ xs) zero d lt = let e : take (0 + 1) (x ∷ xs) ≡ x ∷ [] = refl in omega (arith, ap amount e)
amount_more (x ∷ xs) (suc k) d lt =
    let e : suc k + 1 ≡ suc (k + 1) = omega arith in
    ap (λ m. amount (take m (x ∷ xs))) e ∙ omega (arith, amount_more xs k d (omega arith))

pub amount_split : (xs : List ℕ) (k : ℕ) → amount (take k xs) + amount (drop k xs) ≡ amount xs
amount_split xs k = sym (amount_append (take k xs) (drop k xs)) ∙ ap amount (take-append-drop k xs)

-- places do not fall
pub amount_grows : (xs : List ℕ) (j k : ℕ) → j ≤ k → amount (take j xs) ≤ amount (take k xs)
amount_grows [] zero zero le = omega arith
amount_grows [] zero (suc k) le = omega arith
amount_grows [] (suc j) zero le = absurd (omega arith)
amount_grows [] (suc j) (suc k) le = omega arith
amount_grows (x ∷ xs) zero k le = omega arith
amount_grows (x ∷ xs) (suc j) zero le = absurd (omega arith)
amount_grows (x ∷ xs) (suc j) (suc k) le = omega (arith, amount_grows xs j k (omega arith))

pub amount_some : (xs : List ℕ) → 0 < amount xs → 0 < length xs
amount_some [] lt = absurd (omega arith)
amount_some (x ∷ xs) lt = omega arith
