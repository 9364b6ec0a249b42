-- The item at a place of a sequence.
use Rattle.std.proofs.Common.{◌≡◌, ℕ, ◌+◌, ◌-◌, ◌<◌, ◌≤◌, ◌⊎◌, inl, inr, List, [], ◌∷◌, length, get_or, take, refl, sym, ap, ◌∙◌, subst, arith}
use Rattle.std.specs.List.{flat_map}
use Rattle.std.proofs.lemmas.Bool.{cases_lt}
use Rattle.std.proofs.lemmas.List.{get_or-map, take-map, length-map, length-append, take_all}
use Rattle.std.proofs.lemmas.List.Concat.{get_or-flat_map}
use Rattle.std.proofs.lemmas.List.Sums.{get_or-le-sum_by}
use Rattle.frame_pool.specs.Frames.{Held, items_at, times, here}
use Rattle.frame_pool.proofs.Counts.{here_same}
use Rattle.paged_seq.specs.Sizes.{amount}
use Rattle.paged_seq.specs.Sequences.{Paged, items_of, sizes_of, paged_items, IsFrame, IsPaged, LieFrom}
use Rattle.paged_seq.proofs.Amounts.{length_starts, start_at, amount_more, amount_some}

pub length_items : {A : Type 0} (pool : List (Held A)) (frames : List ℕ) → length (items_of pool frames) ≡ amount (sizes_of pool frames)
length_items pool [] = refl
length_items pool (f ∷ frames) = length-append (items_at pool f) (items_of pool frames) ∙ ap (λ n. length (items_at pool f) + n) (length_items pool frames)

pub times_at : (frames : List ℕ) (k f : ℕ) → k < length frames → f ≡ get_or frames k f → 0 < times f frames
times_at frames k f lt is = omega (arith, get_or-le-sum_by (here f) frames k f lt, here_same f (get_or frames k f) is)

pub size_at : {A : Type 0} (pool : List (Held A)) (frames : List ℕ) (k f d : ℕ) → k < length frames → f ≡ get_or frames k f → get_or (sizes_of pool frames) k d ≡ length (items_at pool f)
size_at pool frames k f d lt is = get_or-map (λ g. length (items_at pool g)) frames k f d lt ∙ ap (λ g. length (items_at pool g)) (sym is)

pub many_sizes : {A : Type 0} (pool : List (Held A)) (frames : List ℕ) → length (sizes_of pool frames) ≡ length frames
many_sizes pool frames = length-map frames (λ f. length (items_at pool f))

pub many_firsts : {A : Type 0} (pool : List (Held A)) (s : Paged) → IsPaged A pool s → length s.firsts ≡ length s.frames
many_firsts pool s paged = ap (λ (l : List ℕ). length l) paged.firsts ∙ length_starts 0 (sizes_of pool s.frames) ∙ many_sizes pool s.frames

-- the frame that a search finds
pub record Found (A : Type 0) (pool : List (Held A)) (s : Paged) (i k f first : ℕ) : Type 0 where
  pub within : k < length s.frames
  pub frame : IsFrame A pool f
  pub from : first ≤ i
  pub first_is : first ≡ amount (take k (sizes_of pool s.frames))
  pub before : i - first < length (items_at pool f)
  pub item : (d : A) → get_or (paged_items pool s) i d ≡ get_or (items_at pool f) (i - first) d

-- the items of a frame lie in the one list from the frame's place on
pub frame_lies : {A : Type 0} (pool : List (Held A)) (frames : List ℕ) (k f first : ℕ) → k < length frames → f ≡ get_or frames k f → first ≡ amount (take k (sizes_of pool frames)) → LieFrom (items_of pool frames) first (items_at pool f)
frame_lies {A} pool frames k f first inside is place i d le lt =
    let front : length (flat_map (items_at pool) (take k frames)) ≡ first =
    length_items pool (take k frames) ∙ ap amount (sym (take-map (λ g. length (items_at pool g)) k frames)) ∙ sym place in
    let j : length (flat_map (items_at pool) (take k frames)) + (i - first) ≡ i = omega (arith, front, le) in
    let less : i - first < length (items_at pool f) = omega (arith, lt, le) in
    ap (λ n. get_or (items_of pool frames) n d) (sym j)
    ∙ get_or-flat_map (items_at pool) frames k (i - first) f d inside (subst (λ g. i - first < length (items_at pool g)) is less)
    ∙ ap (λ g. get_or (items_at pool g) (i - first) d) (sym is)

next_place : {A : Type 0} (pool : List (Held A)) (s : Paged) (i k : ℕ) → IsPaged A pool s → i < s.total → k < length s.firsts → ((d : ℕ) → k + 1 < length s.firsts → i < get_or s.firsts (k + 1) d)
    → i < amount (take (k + 1) (sizes_of pool s.frames))
next_place pool s i k paged lt within before = by (cases_lt (k + 1) (length s.firsts))
  where
    by : (k + 1 < length s.firsts) ⊎ (length s.firsts ≤ k + 1) → i < amount (take (k + 1) (sizes_of pool s.frames))
    by (inl less) =
        let e : get_or s.firsts (k + 1) 0 ≡ amount (take (k + 1) (sizes_of pool s.frames)) =
        ap (λ l. get_or l (k + 1) 0) paged.firsts ∙ start_at 0 (sizes_of pool s.frames) (k + 1) 0 (omega (arith, many_sizes pool s.frames, many_firsts pool s paged)) ∙ omega arith in
        omega (arith, e, before 0 less)
    by (inr le) =
        let e : amount (take (k + 1) (sizes_of pool s.frames)) ≡ amount (sizes_of pool s.frames) =
        ap amount (take_all (k + 1) (sizes_of pool s.frames) (omega (arith, many_sizes pool s.frames, many_firsts pool s paged))) in
        omega (arith, e, paged.total, lt)

pub found : {A : Type 0} (pool : List (Held A)) (s : Paged) (i k f first : ℕ) → IsPaged A pool s → i < s.total → k < length s.firsts → ((d : ℕ) → get_or s.firsts k d ≤ i)
    → ((d : ℕ) → k + 1 < length s.firsts → i < get_or s.firsts (k + 1) d) → f ≡ get_or s.frames k f → first ≡ get_or s.firsts k first → Found A pool s i k f first
found {A} pool s i k f first paged lt within from before is start =
    let many = many_sizes pool s.frames in
    let all = many_firsts pool s paged in
    let inside : k < length s.frames = omega (arith, all) in
    let size : get_or (sizes_of pool s.frames) k 0 ≡ length (items_at pool f) = size_at pool s.frames k f 0 inside is in
    let more : amount (take (k + 1) (sizes_of pool s.frames)) ≡ amount (take k (sizes_of pool s.frames)) + length (items_at pool f) =
    amount_more (sizes_of pool s.frames) k 0 (omega (arith, many)) ∙ ap (λ n. amount (take k (sizes_of pool s.frames)) + n) size in
    let place : first ≡ amount (take k (sizes_of pool s.frames)) =
    start ∙ ap (λ l. get_or l k first) paged.firsts ∙ start_at 0 (sizes_of pool s.frames) k first (omega (arith, many)) ∙ omega arith in
    let le : first ≤ i = omega (arith, start, from first) in
    let here_it_is : i - first < length (items_at pool f) = omega (arith, next_place pool s i k paged lt within before, more, place, le) in
    record {
      within = inside;
      frame = paged.held f (times_at s.frames k f inside is);
      from = le;
      first_is = place;
      before = here_it_is;
      item = λ d. frame_lies pool s.frames k f first inside is place i d le (omega (arith, here_it_is, le));
    }

pub some_firsts : {A : Type 0} (pool : List (Held A)) (s : Paged) (i : ℕ) → IsPaged A pool s → i < s.total → 0 < length s.firsts
some_firsts pool s i paged lt =
    omega (arith, many_sizes pool s.frames, many_firsts pool s paged, amount_some (sizes_of pool s.frames) (omega (arith, paged.total, lt)))

pub zero_first : {A : Type 0} (pool : List (Held A)) (s : Paged) (d : ℕ) → IsPaged A pool s → 0 < length s.firsts → get_or s.firsts 0 d ≡ 0
zero_first pool s d paged some =
    ap (λ l. get_or l 0 d) paged.firsts ∙ start_at 0 (sizes_of pool s.frames) 0 d (omega (arith, many_sizes pool s.frames, many_firsts pool s paged)) ∙ refl

-- the same, where the search was over a list that equals the places
pub found_in : {A : Type 0} (pool : List (Held A)) (s : Paged) (i k f first : ℕ) (firsts : List ℕ) → IsPaged A pool s → i < s.total → firsts ≡ s.firsts → k < length firsts → ((d : ℕ) → get_or firsts k d ≤ i)
    → ((d : ℕ) → k + 1 < length firsts → i < get_or firsts (k + 1) d) → f ≡ get_or s.frames k f → first ≡ get_or s.firsts k first → Found A pool s i k f first
found_in {A} pool s i k f first firsts paged lt same within from before is start =
    found pool s i k f first paged lt (subst (λ l. k < length l) same within) (λ d. subst (λ l. get_or l k d ≤ i) same (from d))
    (λ d. subst (λ l. k + 1 < length l → i < get_or l (k + 1) d) same (before d)) is start
