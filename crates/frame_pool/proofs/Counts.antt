-- How often a number stands in a list, and what lies at a number after a change.
use Rattle.std.proofs.Common.{◌≡◌, ℕ, zero, suc, ◌+◌, ◌-◌, ◌<◌, ◌≤◌, ◌⊎◌, inl, inr, List, [], ◌∷◌, ◌++◌, length, get_or, set, replicate, cond, refl, sym, ap, ◌∙◌, arith}
use Rattle.std.proofs.lemmas.Bool.{cases_eq, cases_lt, eq-eqb, ne_eqb}
use Rattle.std.proofs.lemmas.List.{get_or-set_same, get_or-set_other, get_or_past, get_or_append_left, get_or-append_right}
use Rattle.std.proofs.lemmas.List.Sums.{sum_by-append, sum_by_push, sum_by-set, sum_by-cons, get_or-le-sum_by}
use Rattle.std.proofs.lemmas.List.Folds.{sum_by-replicate}
use Rattle.frame_pool.specs.Frames.{Held, no_frame, held_at, items_at, count_at, SparesAreEmpty, here, times, vacancy, presence, spare_of, used_of, with_spare, numbers_from}

-- ---- how often

pub here_same : (f g : ℕ) → f ≡ g → here f g ≡ 1
here_same f g e = ap (λ b. cond b 1 0) (eq-eqb g f (sym e))

pub here_other : (f g : ℕ) → (f ≡ g → ⊥) → here f g ≡ 0
here_other f g ne = ap (λ b. cond b 1 0) (ne_eqb g f (λ e. ne (sym e)))

pub times_cons : (f g : ℕ) (frames : List ℕ) → times f (g ∷ frames) ≡ here f g + times f frames
times_cons f g frames = sum_by-cons (here f) g frames

pub times_append : (f : ℕ) (xs ys : List ℕ) → times f (xs ++ ys) ≡ times f xs + times f ys
times_append f xs ys = sum_by-append (here f) xs ys

pub times_push : (f g : ℕ) (xs : List ℕ) → times f (xs ++ g ∷ []) ≡ times f xs + here f g
times_push f g xs = sum_by_push (here f) xs g

pub times_below : (f m n : ℕ) → f < m → times f (numbers_from m n) ≡ 0
times_below f m zero lt = refl
times_below f m (suc n) lt = omega (arith, times_cons f m (numbers_from (suc m) n), here_other f m (λ e. omega arith), times_below f (suc m) n (omega arith))

pub times_within : (f m n : ℕ) → m ≤ f → f < m + n → times f (numbers_from m n) ≡ 1
times_within f m zero le lt = absurd (omega arith)
times_within f m (suc n) le lt = by (cases_eq f m) (times_within f (suc m) n)
  where
    by : (f ≡ m) ⊎ (f ≡ m → ⊥) → (suc m ≤ f → f < suc m + n → times f (numbers_from (suc m) n) ≡ 1) → times f (m ∷ numbers_from (suc m) n) ≡ 1
    by (inl e) more = omega (arith, times_cons f m (numbers_from (suc m) n), here_same f m e, times_below f (suc m) n (omega arith))
    by (inr ne) more = omega (arith, times_cons f m (numbers_from (suc m) n), here_other f m ne, more (omega arith) (omega arith))

pub times_above : (f m n : ℕ) → m + n ≤ f → times f (numbers_from m n) ≡ 0
times_above f m zero le = refl
times_above f m (suc n) le = omega (arith, times_cons f m (numbers_from (suc m) n), here_other f m (λ e. omega arith), times_above f (suc m) n (omega arith))

pub numbers_push : (m n : ℕ) → numbers_from m n ++ (m + n) ∷ [] ≡ numbers_from m (suc n)
numbers_push m zero = ap (λ k. k ∷ []) (omega arith)
numbers_push m (suc n) = ap (λ l. m ∷ l) (ap (λ k. numbers_from (suc m) n ++ k ∷ []) (omega arith) ∙ numbers_push (suc m) n)

pub length_numbers : (m n : ℕ) → length (numbers_from m n) ≡ n
length_numbers m zero = refl
length_numbers m (suc n) = ap suc (length_numbers (suc m) n)

-- ---- the map

-- what is counted has a place
pub count_within : {A : Type 0} (pool : List (Held A)) (f : ℕ) → 0 < count_at pool f → f < length pool
count_within {A} pool f some = by (cases_lt f (length pool))
  where
    by : (f < length pool) ⊎ (length pool ≤ f) → f < length pool
    by (inl lt) = lt
    by (inr le) =
        let e : count_at pool f ≡ 0 = ap (λ (h : Held A). h.count) (get_or_past pool f no_frame le) in
        absurd (omega arith)

pub held_same : {A : Type 0} (pool : List (Held A)) (f g : ℕ) (h : Held A) → f < length pool → g ≡ f → held_at (set pool f h) g ≡ h
held_same pool f g h lt e = ap (λ k. held_at (set pool f h) k) e ∙ get_or-set_same pool f h no_frame lt

pub held_other : {A : Type 0} (pool : List (Held A)) (f g : ℕ) (h : Held A) → (g ≡ f → ⊥) → held_at (set pool f h) g ≡ held_at pool g
held_other pool f g h ne = get_or-set_other pool f g h no_frame ne

-- spare frames change no frame
pub held_spare : {A : Type 0} (pool : List (Held A)) (n f : ℕ) → held_at (pool ++ replicate n no_frame) f ≡ held_at pool f
held_spare {A} pool n f = by (cases_lt f (length pool))
  where
    spare : (n k : ℕ) → ◌≡◌ {A = Held A} (get_or (replicate n no_frame) k no_frame) no_frame
    spare zero k = refl
    spare (suc n) zero = refl
    spare (suc n) (suc k) = spare n k

    by : (f < length pool) ⊎ (length pool ≤ f) → held_at (pool ++ replicate n no_frame) f ≡ held_at pool f
    by (inl lt) = get_or_append_left pool (replicate n no_frame) no_frame f lt
    by (inr le) = get_or-append_right pool (replicate n no_frame) (length pool) f no_frame refl le ∙ spare n (f - length pool) ∙ sym (get_or_past pool f no_frame le)

pub held_with_spare : {A : Type 0} (pool : List (Held A)) (n f : ℕ) → held_at (with_spare n pool) f ≡ held_at pool f
held_with_spare pool n f = held_spare pool (n - spare_of pool) f

-- spare frames have no items, also after a change
pub empty_set : {A : Type 0} (pool : List (Held A)) (f : ℕ) (h : Held A) → f < length pool → (h.count ≡ 0 → h.items ≡ []) → SparesAreEmpty pool → SparesAreEmpty (set pool f h)
empty_set {A} pool f h lt empty were g none = by (cases_eq g f)
  where
    by : (g ≡ f) ⊎ (g ≡ f → ⊥) → items_at (set pool f h) g ≡ []
    by (inl e) = let is = held_same pool f g h lt e in ap (λ (k : Held A). k.items) is ∙ empty (sym (ap (λ (k : Held A). k.count) is) ∙ none)
    by (inr ne) = let is = held_other pool f g h ne in ap (λ (k : Held A). k.items) is ∙ were g (sym (ap (λ (k : Held A). k.count) is) ∙ none)

pub empty_spare : {A : Type 0} (pool : List (Held A)) (n : ℕ) → SparesAreEmpty pool → SparesAreEmpty (pool ++ replicate n no_frame)
empty_spare {A} pool n were g none =
    let is = held_spare pool n g in ap (λ (k : Held A). k.items) is ∙ were g (sym (ap (λ (k : Held A). k.count) is) ∙ none)

-- ---- how many are spare

pub spare_append : {A : Type 0} (pool : List (Held A)) (n : ℕ) → spare_of (pool ++ replicate n no_frame) ≡ spare_of pool + n
spare_append {A} pool n =
    sum_by-append (λ (h : Held A). vacancy h.count) pool (replicate n no_frame)
    ∙ ap (λ k. spare_of pool + k) (sum_by-replicate (λ (h : Held A). vacancy h.count) n no_frame ∙ omega arith)

pub spare_enough : {A : Type 0} (pool : List (Held A)) (n : ℕ) → n ≤ spare_of (with_spare n pool)
spare_enough pool n = omega (arith, spare_append pool (n - spare_of pool))

pub spare_set : {A : Type 0} (pool : List (Held A)) (f : ℕ) (h : Held A) → f < length pool → spare_of (set pool f h) + vacancy (count_at pool f) ≡ spare_of pool + vacancy h.count
spare_set {A} pool f h lt = sum_by-set (λ (h : Held A). vacancy h.count) pool f h no_frame lt

pub used_set : {A : Type 0} (pool : List (Held A)) (f : ℕ) (h : Held A) → f < length pool → used_of (set pool f h) + presence (count_at pool f) ≡ used_of pool + presence h.count
used_set {A} pool f h lt = sum_by-set (λ (h : Held A). presence h.count) pool f h no_frame lt

one_of_both : (n : ℕ) → presence n + vacancy n ≡ 1
one_of_both zero = refl
one_of_both (suc n) = refl

-- used and spare are all
pub used_and_spare : {A : Type 0} (pool : List (Held A)) → used_of pool + spare_of pool ≡ length pool
used_and_spare [] = refl
used_and_spare {A} (h ∷ pool) =
    omega (arith, sum_by-cons (λ (h : Held A). presence h.count) h pool, sum_by-cons (λ (h : Held A). vacancy h.count) h pool, one_of_both h.count, used_and_spare pool)

pub vacancy_some : (n : ℕ) → 0 < n → vacancy n ≡ 0
vacancy_some zero lt = absurd (omega arith)
vacancy_some (suc n) lt = refl

pub vacancy_none : (n : ℕ) → n ≡ 0 → vacancy n ≡ 1
vacancy_none zero e = refl
vacancy_none (suc n) e = absurd (omega arith)

pub vacancy_is : (n : ℕ) → vacancy n ≡ 1 → n ≡ 0
vacancy_is zero e = refl
vacancy_is (suc n) e = absurd cc

pub vacancy_le : (n : ℕ) → vacancy n ≤ 1
vacancy_le zero = omega arith
vacancy_le (suc n) = omega arith

presence_some : (n : ℕ) → 0 < n → presence n ≡ 1
presence_some zero lt = absurd (omega arith)
presence_some (suc n) lt = refl

-- where a frame is used, not all are spare
pub spare_some : {A : Type 0} (pool : List (Held A)) (f : ℕ) → 0 < count_at pool f → spare_of pool < length pool
spare_some {A} pool f some =
    omega (arith, used_and_spare pool, get_or-le-sum_by (λ (h : Held A). presence h.count) pool f no_frame (count_within pool f some), presence_some (count_at pool f) some)
