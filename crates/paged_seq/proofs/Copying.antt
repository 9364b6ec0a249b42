-- A part of a sequence, frame by frame.
use Rattle.std.proofs.Common.{◌≡◌, ℕ, zero, suc, ◌+◌, ◌-◌, ◌<◌, ◌≤◌, ◌⊎◌, inl, inr, min, List, [], ◌∷◌, ◌++◌, length, get_or, take, drop, refl, sym, ap, ap₂, ◌∙◌, subst, arith, append_assoc}
use Rattle.std.proofs.lemmas.Bool.{cases_lt}
use Rattle.std.proofs.lemmas.List.{length-drop, length-append, drop_more, drop_all, drop-append-le, take_all, append-nil, get_or_default}
use Rattle.frame_pool.specs.Frames.{Held, items_at}
use Rattle.paged_seq.specs.Sequences.{items_of}

pub take_append : {X : Type 0} (n : ℕ) (xs ys : List X) → take n (xs ++ ys) ≡ take n xs ++ take (n - length xs) ys
take_append zero [] ys = refl
take_append zero (x ∷ xs) ys = let e : 0 - suc (length xs) ≡ 0 = omega arith in ap (λ k. take k ys) (sym e)
take_append (suc n) [] ys = let e : suc n - 0 ≡ suc n = omega arith in ap (λ k. take k ys) (sym e)
take_append (suc n) (x ∷ xs) ys = ap (λ l. x ∷ l) (take_append n xs ys ∙ ap (λ k. take n xs ++ take k ys) (omega arith))

pub drop_append : {X : Type 0} (n : ℕ) (xs ys : List X) → drop n (xs ++ ys) ≡ drop n xs ++ drop (n - length xs) ys
drop_append zero [] ys = refl
drop_append zero (x ∷ xs) ys = let e : 0 - suc (length xs) ≡ 0 = omega arith in ap (λ k. (x ∷ xs) ++ drop k ys) (sym e)
drop_append (suc n) [] ys = let e : suc n - 0 ≡ suc n = omega arith in ap (λ k. drop k ys) (sym e)
drop_append (suc n) (x ∷ xs) ys = drop_append n xs ys ∙ ap (λ k. drop n xs ++ drop k ys) (omega arith)

-- the first piece, and what follows
pub piece : {X : Type 0} (skip count n : ℕ) (xs ys : List X) → skip ≤ length xs → n ≡ min count (length xs - skip) → take count (drop skip (xs ++ ys)) ≡ take n (drop skip xs) ++ take (count - n) ys
piece {X} skip count n xs ys le is =
    ap (take count) (drop-append-le skip xs ys le) ∙ take_append count (drop skip xs) ys ∙ by (cases_lt count (length xs - skip))
  where
    by : (count < length xs - skip) ⊎ (length xs - skip ≤ count) → take count (drop skip xs) ++ take (count - length (drop skip xs)) ys ≡ take n (drop skip xs) ++ take (count - n) ys
    by (inl lt) =
        let e : count ≡ n = omega (arith, is) in
        let f : count - length (drop skip xs) ≡ count - n = omega (arith, is, length-drop skip xs) in
        ap₂ (λ j k. take j (drop skip xs) ++ take k ys) e f
    by (inr more) =
        let e : length (drop skip xs) ≤ count = omega (arith, length-drop skip xs) in
        let h : length (drop skip xs) ≤ n = omega (arith, is, length-drop skip xs) in
        let f : count - length (drop skip xs) ≡ count - n = omega (arith, is, length-drop skip xs) in
        ap₂ (λ l k. l ++ take k ys) (take_all count (drop skip xs) e ∙ sym (take_all n (drop skip xs) h)) f

-- a frame and those behind it
pub frame_first : {A : Type 0} (pool : List (Held A)) (frames : List ℕ) (k f : ℕ) → k < length frames → f ≡ get_or frames k f → items_of pool (drop k frames) ≡ items_at pool f ++ items_of pool (drop (k + 1) frames)
frame_first pool frames k f lt is = ap (items_of pool) (drop_more frames k f lt ∙ ap (λ g. g ∷ drop (k + 1) frames) (sym is))

pub frame_there : {A : Type 0} (pool : List (Held A)) (frames : List ℕ) (k n : ℕ) → 0 < n → n ≤ length (items_of pool (drop k frames)) → k < length frames
frame_there {A} pool frames k n some le = by (cases_lt k (length frames))
  where
    by : (k < length frames) ⊎ (length frames ≤ k) → k < length frames
    by (inl lt) = lt
    by (inr past) = let e : length (items_of pool (drop k frames)) ≡ 0 = ap (λ l. length (items_of pool l)) (drop_all k frames past) in absurd (omega (arith, e))

pub record Copied (A : Type 0) (pool : List (Held A)) (frames : List ℕ) (k skip count : ℕ) (out all : List A) : Type 0 where
  pub fits : skip + count ≤ length (items_of pool (drop k frames))
  pub skips : k < length frames → skip ≤ length (items_at pool (get_or frames k 0))
  pub todo : out ++ take count (drop skip (items_of pool (drop k frames))) ≡ all

pub copy_step : {A : Type 0} (pool : List (Held A)) (frames : List ℕ) (k skip count n f : ℕ) (out all : List A) → Copied A pool frames k skip count out all → k < length frames → f ≡ get_or frames k f
    → skip ≤ length (items_at pool f) → n ≡ min count (length (items_at pool f) - skip) → Copied A pool frames (k + 1) 0 (count - n) (out ++ take n (drop skip (items_at pool f))) all
copy_step {A} pool frames k skip count n f out all c lt is le many =
    let whole = frame_first pool frames k f lt is in
    let long : length (items_of pool (drop k frames)) ≡ length (items_at pool f) + length (items_of pool (drop (k + 1) frames)) = ap (λ (l : List A). length l) whole ∙ length-append (items_at pool f) (items_of pool (drop (k + 1) frames)) in
    record {
      fits = omega (arith, c.fits, long, many, le);
      skips = λ _. omega arith;
      todo = append_assoc out (take n (drop skip (items_at pool f))) (take (count - n) (items_of pool (drop (k + 1) frames)))
          ∙ ap (λ l. out ++ l) (sym (piece skip count n (items_at pool f) (items_of pool (drop (k + 1) frames)) le many))
          ∙ ap (λ l. out ++ take count (drop skip l)) (sym whole) ∙ c.todo;
    }

pub copy_done : {A : Type 0} (pool : List (Held A)) (frames : List ℕ) (k skip count : ℕ) (out all : List A) → Copied A pool frames k skip count out all → count ≡ 0 → out ≡ all
copy_done {A} pool frames k skip count out all c none =
    sym (ap (λ n. out ++ take n (drop skip (items_of pool (drop k frames)))) none ∙ append-nil out) ∙ c.todo

-- the same, as the code says it
pub copy_more : {A : Type 0} (pool : List (Held A)) (frames : List ℕ) (k skip count n : ℕ) (items out longer all : List A) → Copied A pool frames k skip count out all → 0 < count → items ≡ items_at pool (get_or frames k 0)
    → n ≡ min count (length items - skip) → longer ≡ out ++ take (skip + n - skip) (drop skip items) → Copied A pool frames (k + 1) 0 (count - n) longer all
copy_more {A} pool frames k skip count n items out longer all c some are many more =
    let lt = frame_there pool frames k (skip + count) (omega arith) c.fits in
    let is : get_or frames k 0 ≡ get_or frames k (get_or frames k 0) = get_or_default frames k 0 (get_or frames k 0) lt in
    let long : n ≡ min count (length (items_at pool (get_or frames k 0)) - skip) = many ∙ ap (λ (l : List A). min count (length l - skip)) are in
    let width : skip + n - skip ≡ n = omega arith in
    let whole : out ++ take n (drop skip (items_at pool (get_or frames k 0))) ≡ longer = ap₂ (λ j l. out ++ take j (drop skip l)) (sym width) (sym are) ∙ sym more in
    subst (λ l. Copied A pool frames (k + 1) 0 (count - n) l all) whole
    (copy_step pool frames k skip count n (get_or frames k 0) out all c lt is (c.skips lt) long)
