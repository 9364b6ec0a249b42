-- A rising list of places is what a filter of all places by membership in it gives.
use Rattle.std.proofs.Common.{◌≡◌, ◌≢◌, ℕ, zero, suc, ◌+◌, ◌<◌, ◌≤◌, ◌⊎◌, Bool, true, false, cond, ◌||◌, List, [], ◌∷◌, length, get_or, refl, sym, ap, ◌∙◌, subst, arith, inl, inr}
use Rattle.std.specs.Prelude.{nat_eq, filter, eqb}
use Rattle.std.specs.List.{All, list_any, dedup, dedup_from, range_with_len}
use Rattle.std.specs.List.Sorted.{IsStrictlyIncreasing, IsSorted, IsPermutation}
use Rattle.std.specs.Ordering.{nat_cmp}
use Rattle.std.proofs.lemmas.Bool.{eqb-true}
use Rattle.std.proofs.lemmas.Bool.Decides.{eqb_tells}
use Rattle.std.proofs.lemmas.List.Sorted.{list_any-IsPermutation}
use Rattle.std.proofs.lemmas.Map.Keys.{IsStrictlyIncreasing-dedup}
use Rattle.tree_model.specs.Nodes.{is_place_among}

pub differs : (a b : ℕ) → a ≢ b → nat_eq a b ≡ false
differs a b apart = by (eqb_tells a b) where
  by : ((nat_eq a b ≡ true) × (a ≡ b)) ⊎ ((nat_eq a b ≡ false) × (a ≢ b)) → nat_eq a b ≡ false
  by (inl p) = absurd (apart p.1)
  by (inr p) = p.0

-- they rise, from n on
abbrev Rises : ℕ → List ℕ → Type 0
Rises n [] = Unit {0}
Rises n (p ∷ ps) = (n ≤ p) × Rises (p + 1) ps

rises_from : (n : ℕ) (xs : List ℕ) → IsStrictlyIncreasing xs → (0 < length xs → n ≤ get_or xs 0 0) → Rises n xs
rises_from n [] h first = tt
rises_from n (x ∷ []) h first = (first (omega arith), tt)
rises_from n (x ∷ y ∷ xs) h first =
    let step : x < y = h 0 (omega arith) in
    let tail : IsStrictlyIncreasing (y ∷ xs) = λ k within. let e : suc k + 1 ≡ suc (k + 1) = omega arith in subst (λ (n : ℕ). get_or (y ∷ xs) k 0 < get_or (x ∷ y ∷ xs) n 0) e (h (suc k) (omega arith)) in
    (first (omega arith), rises_from (x + 1) (y ∷ xs) tail (λ _. omega arith))

-- a place before all of them is none of them
absent : (n q : ℕ) (ps : List ℕ) → Rises n ps → q < n → is_place_among ps q ≡ false
absent n q [] h lt = refl
absent n q (p ∷ ps) h lt =
    let le : n ≤ p = h.0 in
    let no' : p ≢ q = λ e. omega arith in
    ap (λ b. b || is_place_among ps q) (differs p q no') ∙ absent (p + 1) q ps h.1 (omega arith)

abbrev Agrees : ℕ → (ℕ → Bool) → List ℕ → Type 0
Agrees n t ps = (q : ℕ) → n ≤ q → t q ≡ is_place_among ps q

kept : (n : ℕ) (t : ℕ → Bool) (xs : List ℕ) → t n ≡ true → filter t (n ∷ xs) ≡ n ∷ filter t xs
kept n t xs e = ap (λ b. cond b (n ∷ filter t xs) (filter t xs)) e

dropped : (n : ℕ) (t : ℕ → Bool) (xs : List ℕ) → t n ≡ false → filter t (n ∷ xs) ≡ filter t xs
dropped n t xs e = ap (λ b. cond b (n ∷ filter t xs) (filter t xs)) e

filtered_is : (len n : ℕ) (ps : List ℕ) (t : ℕ → Bool) → Rises n ps → All (λ p. p < n + len) ps → Agrees n t ps → filter t (range_with_len n len) ≡ ps
filtered_is zero n [] t h below agrees = refl
filtered_is zero n (p ∷ ps) t h below agrees = let le : n ≤ p = h.0 in let lt : p < n + 0 = below 0 0 (omega arith) in absurd (omega arith)
filtered_is (suc len) n [] t h below agrees =
    dropped n t (range_with_len (n + 1) len) (agrees n (omega arith)) ∙ filtered_is len (n + 1) [] t tt (λ k d within. absurd (omega arith)) (λ q le. agrees q (omega arith))
filtered_is (suc len) n (p ∷ ps) t h below agrees =
    elim (eqb_tells p n) [
      | inl is ↦
          let e : p ≡ n = is.1 in
          let rest : Rises (n + 1) ps = subst (λ (m : ℕ). Rises (m + 1) ps) e h.1 in
          let hit : t n ≡ true = agrees n (omega arith) ∙ ap (λ b. b || is_place_among ps n) is.0 in
          kept n t (range_with_len (n + 1) len) hit
          ∙ ap (λ xs. n ∷ xs) (filtered_is len (n + 1) ps t rest (λ k d within. let b : get_or ps k d < n + suc len = below (suc k) d (omega arith) in omega arith)
          (λ q le. let no' : p ≢ q = λ f. omega arith in agrees q (omega arith) ∙ ap (λ b. b || is_place_among ps q) (differs p q no')))
          ∙ ap (λ m. m ∷ ps) (sym e)
      | inr is ↦
          let le : n ≤ p = h.0 in
          let far : n + 1 ≤ p = let ne : p ≢ n = is.1 in omega arith in
          let all : Rises (n + 1) (p ∷ ps) = (far, h.1) in
          dropped n t (range_with_len (n + 1) len) (agrees n (omega arith) ∙ absent (n + 1) n (p ∷ ps) all (omega arith))
          ∙ filtered_is len (n + 1) (p ∷ ps) t all (λ k d within. let b : get_or (p ∷ ps) k d < n + suc len = below k d within in omega arith) (λ q le'. agrees q (omega arith))
    ]

-- ---- without repeats

or_same : (a b : Bool) → (a || (a || b)) ≡ (a || b)
or_same true b = refl
or_same false b = refl

dedup_step : (t : ℕ → Bool) (k x : ℕ) (xs : List ℕ) (b : Bool) → eqb x k ≡ b →
    list_any t (dedup_from eqb k xs) ≡ (t k || list_any t xs) → list_any t (dedup_from eqb x xs) ≡ (t x || list_any t xs) →
    list_any t (cond b (dedup_from eqb k xs) (k ∷ dedup_from eqb x xs)) ≡ (t k || (t x || list_any t xs))
dedup_step t k x xs true e at_k at_x = at_k ∙ sym (or_same (t k) (list_any t xs)) ∙ ap (λ y. t k || (t y || list_any t xs)) (sym (eqb-true x k e))
dedup_step t k x xs false e at_k at_x = ap (λ b. t k || b) at_x

any-dedup_from : (t : ℕ → Bool) (k : ℕ) (xs : List ℕ) → list_any t (dedup_from eqb k xs) ≡ (t k || list_any t xs)
any-dedup_from t k [] = refl
any-dedup_from t k (x ∷ xs) = dedup_step t k x xs (eqb x k) refl (any-dedup_from t k xs) (any-dedup_from t x xs)

any-dedup : (t : ℕ → Bool) (xs : List ℕ) → list_any t (dedup eqb xs) ≡ list_any t xs
any-dedup t [] = refl
any-dedup t (x ∷ xs) = any-dedup_from t x xs

-- ---- in document order

-- where the places rise already
pub in_order_already : (len : ℕ) (ps : List ℕ) → IsStrictlyIncreasing ps → All (λ p. p < len) ps → ps ≡ filter (is_place_among ps) (range_with_len 0 len)
in_order_already len ps rises below =
    sym (filtered_is len 0 ps (is_place_among ps) (rises_from 0 ps rises (λ _. omega arith)) (λ k d within. let b : get_or ps k d < len = below k d within in omega arith) (λ q le. refl))

-- where they were sorted and repeats dropped
pub in_order_sorted : (len : ℕ) (ps qs : List ℕ) → IsPermutation ps qs → IsSorted nat_cmp qs → All (λ p. p < len) (dedup eqb qs) →
    dedup eqb qs ≡ filter (is_place_among ps) (range_with_len 0 len)
in_order_sorted len ps qs moved sorted below =
    sym (filtered_is len 0 (dedup eqb qs) (is_place_among ps) (rises_from 0 (dedup eqb qs) (IsStrictlyIncreasing-dedup qs sorted) (λ _. omega arith))
    (λ k d within. let b : get_or (dedup eqb qs) k d < len = below k d within in omega arith)
    (λ q le. list_any-IsPermutation (λ p. nat_eq p q) ps qs moved ∙ sym (any-dedup (λ p. nat_eq p q) qs)))
