-- What happens to counts and items as directories name frames, no longer or anew.
use Rattle.std.proofs.Common.{◌≡◌, ℕ, zero, suc, ◌+◌, ◌-◌, ◌<◌, ◌≤◌, ◌⊎◌, inl, inr, List, [], ◌∷◌, ◌++◌, length, get_or, take, refl, sym, ap, ap₂, ◌∙◌, subst, arith}
use Rattle.std.proofs.lemmas.Bool.{cases_lt, cases_eq}
use Rattle.std.proofs.lemmas.List.{take_more, get_or_default}
use Rattle.std.proofs.lemmas.List.Sums.{sum_by-take-le}
use Rattle.frame_pool.specs.Frames.{Held, items_at, count_at, times, here, with_frame, shared, released, with_count, spare_of, SparesAreEmpty}
use Rattle.frame_pool.proofs.Counts.{here_same, here_other, times_push, times_append, count_within, held_same, held_other, spare_set, vacancy_some, empty_set}
use Rattle.paged_seq.specs.Sequences.{HasMoved, HasSameFrames, IsFrame, IsPaged, Paged, Stays, items_of, sizes_of, IsAccounted}
use Rattle.paged_seq.specs.Sizes.{starts, amount, ArePacked}

pub times_none : (f : ℕ) → times f [] ≡ 0
times_none f = refl

pub times_take_more : (f : ℕ) (frames : List ℕ) (k g : ℕ) → k < length frames → g ≡ get_or frames k g → times f (take (k + 1) frames) ≡ times f (take k frames) + here f g
times_take_more f frames k g lt is = ap (times f) (take_more frames k g lt ∙ ap (λ x. take k frames ++ x ∷ []) (sym is)) ∙ times_push f g (take k frames)

pub times_take : (f : ℕ) (frames : List ℕ) (k : ℕ) → times f (take k frames) ≤ times f frames
times_take f frames k = sum_by-take-le (here f) frames k

-- ---- nothing moved

pub unmoved : {A : Type 0} (pool : List (Held A)) → HasMoved A pool pool [] []
unmoved pool = record { counts = λ f. refl; kept = λ f lt. refl; empty = λ were. were }

-- ---- one step

pub moved_share : {A : Type 0} (old mid : List (Held A)) (b a : List ℕ) (f : ℕ) → HasMoved A old mid b a → 0 < count_at mid f → HasMoved A old (shared mid f) b (a ++ f ∷ [])
moved_share {A} old mid b a f moved some = record {
  counts = λ g. counts g (cases_eq g f);
  kept = λ g lt. kept g (cases_eq g f) ∙ moved.kept g lt;
  empty = λ were. empty_set mid f (record { items = items_at mid f; count = count_at mid f + 1 }) (count_within mid f some) (λ none. absurd (omega (arith, none))) (moved.empty were);
}
  where
    counts : (g : ℕ) → (g ≡ f) ⊎ (g ≡ f → ⊥) → count_at (shared mid f) g + times g b ≡ count_at old g + times g (a ++ f ∷ [])
    counts g (inl e) =
        let h = ap (λ (h : Held A). h.count) (held_same mid f g (record { items = items_at mid f; count = count_at mid f + 1 }) (count_within mid f some) e) in
        let same : count_at mid g ≡ count_at mid f = ap (count_at mid) e in
        omega (arith, h, same, moved.counts g, times_push g f a, here_same g f e)
    counts g (inr ne) =
        let h = ap (λ (h : Held A). h.count) (held_other mid f g (record { items = items_at mid f; count = count_at mid f + 1 }) ne) in
        omega (arith, h, moved.counts g, times_push g f a, here_other g f ne)

    kept : (g : ℕ) → (g ≡ f) ⊎ (g ≡ f → ⊥) → items_at (shared mid f) g ≡ items_at mid g
    kept g (inl e) = ap (λ (h : Held A). h.items) (held_same mid f g (record { items = items_at mid f; count = count_at mid f + 1 }) (count_within mid f some) e) ∙ ap (items_at mid) (sym e)
    kept g (inr ne) = ap (λ (h : Held A). h.items) (held_other mid f g (record { items = items_at mid f; count = count_at mid f + 1 }) ne)

with_count_is : {A : Type 0} (items : List A) (n : ℕ) → (with_count items n).count ≡ n
with_count_is items zero = refl
with_count_is items (suc n) = refl

with_count_keeps : {A : Type 0} (items : List A) (n : ℕ) → 0 < n → (with_count items n).items ≡ items
with_count_keeps items zero lt = absurd (omega arith)
with_count_keeps items (suc n) lt = refl

with_count_empty : {A : Type 0} (items : List A) (n : ℕ) → (with_count items n).count ≡ 0 → (with_count items n).items ≡ []
with_count_empty items zero none = refl
with_count_empty items (suc n) none = absurd (omega (arith, none))

pub moved_release : {A : Type 0} (old mid : List (Held A)) (b a : List ℕ) (f : ℕ) → HasMoved A old mid b a → 0 < count_at mid f → times f a ≡ 0 → HasMoved A old (released mid f) (b ++ f ∷ []) a
moved_release {A} old mid b a f moved some unnamed = record {
  counts = λ g. counts g (cases_eq g f);
  kept = λ g lt. kept g lt (cases_eq g f);
  empty = λ were. empty_set mid f (with_count (items_at mid f) (count_at mid f - 1)) (count_within mid f some) (with_count_empty (items_at mid f) (count_at mid f - 1)) (moved.empty were);
}
  where
    counts : (g : ℕ) → (g ≡ f) ⊎ (g ≡ f → ⊥) → count_at (released mid f) g + times g (b ++ f ∷ []) ≡ count_at old g + times g a
    counts g (inl e) =
        let h = ap (λ (h : Held A). h.count) (held_same mid f g (with_count (items_at mid f) (count_at mid f - 1)) (count_within mid f some) e) in
        let same : count_at mid g ≡ count_at mid f = ap (count_at mid) e in
        omega (arith, h, with_count_is (items_at mid f) (count_at mid f - 1), same, moved.counts g, times_push g f b, here_same g f e)
    counts g (inr ne) =
        let h = ap (λ (h : Held A). h.count) (held_other mid f g (with_count (items_at mid f) (count_at mid f - 1)) ne) in
        omega (arith, h, moved.counts g, times_push g f b, here_other g f ne)

    kept : (g : ℕ) → times g (b ++ f ∷ []) < count_at old g → (g ≡ f) ⊎ (g ≡ f → ⊥) → items_at (released mid f) g ≡ items_at old g
    kept g lt (inl e) =
        let same : count_at mid g ≡ count_at mid f = ap (count_at mid) e in
        let none : times g a ≡ 0 = ap (λ k. times k a) e ∙ unnamed in
        let many : 0 < count_at mid f - 1 = omega (arith, same, none, moved.counts g, times_push g f b, here_same g f e) in
        ap (λ (h : Held A). h.items) (held_same mid f g (with_count (items_at mid f) (count_at mid f - 1)) (count_within mid f some) e)
        ∙ with_count_keeps (items_at mid f) (count_at mid f - 1) many ∙ ap (items_at mid) (sym e)
        ∙ moved.kept g (omega (arith, lt, times_push g f b))
    kept g lt (inr ne) =
        ap (λ (h : Held A). h.items) (held_other mid f g (with_count (items_at mid f) (count_at mid f - 1)) ne) ∙ moved.kept g (omega (arith, lt, times_push g f b))

pub spare_release : {A : Type 0} (pool : List (Held A)) (f : ℕ) → 0 < count_at pool f → spare_of pool ≤ spare_of (released pool f)
spare_release {A} pool f some =
    omega (arith, spare_set pool f (with_count (items_at pool f) (count_at pool f - 1)) (count_within pool f some), vacancy_some (count_at pool f) some)

pub moved_take : {A : Type 0} (old mid : List (Held A)) (b a : List ℕ) (f : ℕ) (items : List A) → HasMoved A old mid b a → count_at mid f ≡ 0 → f < length mid → HasMoved A old (with_frame mid f items 1) b (a ++ f ∷ [])
moved_take {A} old mid b a f items moved none within = record {
  counts = λ g. counts g (cases_eq g f);
  kept = λ g lt. kept g lt (cases_eq g f);
  empty = λ were. empty_set mid f (record { items = items; count = 1 }) within (λ gone. absurd (omega (arith, gone))) (moved.empty were);
}
  where
    counts : (g : ℕ) → (g ≡ f) ⊎ (g ≡ f → ⊥) → count_at (with_frame mid f items 1) g + times g b ≡ count_at old g + times g (a ++ f ∷ [])
    counts g (inl e) =
        let h = ap (λ (h : Held A). h.count) (held_same mid f g (record { items = items; count = 1 }) within e) in
        let same : count_at mid g ≡ count_at mid f = ap (count_at mid) e in
        omega (arith, h, same, none, moved.counts g, times_push g f a, here_same g f e)
    counts g (inr ne) =
        let h = ap (λ (h : Held A). h.count) (held_other mid f g (record { items = items; count = 1 }) ne) in
        omega (arith, h, moved.counts g, times_push g f a, here_other g f ne)

    kept : (g : ℕ) → times g b < count_at old g → (g ≡ f) ⊎ (g ≡ f → ⊥) → items_at (with_frame mid f items 1) g ≡ items_at old g
    kept g lt (inl e) =
        let same : count_at mid g ≡ count_at mid f = ap (count_at mid) e in
        absurd (omega (arith, lt, same, none, moved.counts g))
    kept g lt (inr ne) = ap (λ (h : Held A). h.items) (held_other mid f g (record { items = items; count = 1 }) ne) ∙ moved.kept g lt

-- one frame more of those that are released, each of which has a count for each time that it is named
pub some_left : {A : Type 0} (old mid : List (Held A)) (frames : List ℕ) (k : ℕ) → ((g : ℕ) → times g frames ≤ count_at old g) → k < length frames → HasMoved A old mid (take k frames) [] → 0 < count_at mid (get_or frames k 0)
some_left old mid frames k held lt moved =
    let f : ℕ = get_or frames k 0 in
    omega (arith, times_take_more f frames k f lt (get_or_default frames k 0 f lt), times_take f frames (k + 1), held f, moved.counts f, here_same f f refl, times_none f)

pub release_more : {A : Type 0} (old mid : List (Held A)) (frames : List ℕ) (k : ℕ) → ((g : ℕ) → times g frames ≤ count_at old g) → k < length frames → HasMoved A old mid (take k frames) []
    → HasMoved A old (released mid (get_or frames k 0)) (take (k + 1) frames) []
release_more {A} old mid frames k held lt moved =
    subst (λ l. HasMoved A old (released mid (get_or frames k 0)) l []) (sym (take_more frames k 0 lt))
    (moved_release old mid (take k frames) [] (get_or frames k 0) moved (some_left old mid frames k held lt moved) refl)

-- ---- several

-- one change after another
pub moved_then : {A : Type 0} (old mid new : List (Held A)) (b m a : List ℕ) → HasMoved A old mid b m → HasMoved A mid new m a → HasMoved A old new b a
moved_then {A} old mid new b m a first second = record {
  counts = λ f. omega (arith, first.counts f, second.counts f);
  kept = λ f lt. second.kept f (omega (arith, lt, first.counts f)) ∙ first.kept f lt;
  empty = λ were. second.empty (first.empty were);
}

-- the same directories, with what they name besides
pub moved_within : {A : Type 0} (old new : List (Held A)) (pre b a post : List ℕ) → HasMoved A old new b a → HasMoved A old new (pre ++ (b ++ post)) (pre ++ (a ++ post))
moved_within {A} old new pre b a post moved = record {
  counts = λ f. omega (arith, moved.counts f, times_append f pre (b ++ post), times_append f b post, times_append f pre (a ++ post), times_append f a post);
  kept = λ f lt. moved.kept f (omega (arith, lt, times_append f pre (b ++ post), times_append f b post));
  empty = moved.empty;
}

-- where as much is named no longer as anew, the map is as before
pub frames_restored : {A : Type 0} (old new : List (Held A)) → SparesAreEmpty old → HasMoved A old new [] [] → HasSameFrames old new
frames_restored {A} old new were moved f = λ i. record { items = items (cases_lt 0 (count_at old f)) i; count = same i }
  where
    same : count_at new f ≡ count_at old f
    same = let e = moved.counts f in omega (arith, e, times_none f)

    items : (0 < count_at old f) ⊎ (count_at old f ≤ 0) → items_at new f ≡ items_at old f
    items (inl some) = moved.kept f (omega (arith, some, times_none f))
    items (inr none) = moved.empty were f (omega (arith, same, none)) ∙ sym (were f (omega (arith, none)))

-- accounts go on
pub accounts_go_on : {A : Type 0} (old new : List (Held A)) (b a others : List ℕ) → IsAccounted old (b ++ others) → HasMoved A old new b a → IsAccounted new (a ++ others)
accounts_go_on {A} old new b a others accounted moved = λ f. omega (arith, accounted f, moved.counts f, times_append f b others, times_append f a others)

-- ---- a sequence that something else changes beside

pub same_sizes : {A : Type 0} (old new : List (Held A)) (frames : List ℕ) → ((f : ℕ) → 0 < times f frames → items_at new f ≡ items_at old f) → sizes_of new frames ≡ sizes_of old frames
same_sizes old new [] same = refl
same_sizes {A} old new (f ∷ frames) same =
    ap₂ (λ n l. n ∷ l) (ap (λ (l : List A). length l) (same f (omega (arith, times_append f (f ∷ []) frames, times_push f f [], here_same f f refl))))
    (same_sizes old new frames (λ g lt. same g (omega (arith, lt, times_append g (f ∷ []) frames))))

pub same_items : {A : Type 0} (old new : List (Held A)) (frames : List ℕ) → ((f : ℕ) → 0 < times f frames → items_at new f ≡ items_at old f) → items_of new frames ≡ items_of old frames
same_items old new [] same = refl
same_items old new (f ∷ frames) same =
    ap₂ (λ x l. x ++ l) (same f (omega (arith, times_append f (f ∷ []) frames, times_push f f [], here_same f f refl)))
    (same_items old new frames (λ g lt. same g (omega (arith, lt, times_append g (f ∷ []) frames))))

-- each of its frames has a count above what the change takes away
pub others_stay : {A : Type 0} (old new : List (Held A)) (b a : List ℕ) (s : Paged) → HasMoved A old new b a → IsPaged A old s → ((f : ℕ) → 0 < times f s.frames → times f b < count_at old f) → Stays A old new s
others_stay {A} old new b a s moved paged named =
    let same : (f : ℕ) → 0 < times f s.frames → items_at new f ≡ items_at old f = λ f lt. moved.kept f (named f lt) in
    let sizes = same_sizes old new s.frames same in
    record {
      paged = record {
        held = λ f lt. still f (paged.held f lt) (same f lt) (named f lt);
        once = paged.once;
        firsts = paged.firsts ∙ ap (starts 0) (sym sizes);
        total = paged.total ∙ ap amount (sym sizes);
        packed = subst (ArePacked 256) (sym sizes) paged.packed;
      };
      items = same_items old new s.frames same;
    }
  where
    still : (f : ℕ) → IsFrame A old f → items_at new f ≡ items_at old f → times f b < count_at old f → IsFrame A new f
    still f frame same lt =
        let n = ap (λ (l : List A). length l) same in
        record { held = omega (arith, moved.counts f, lt); some = omega (arith, n, frame.some); few = omega (arith, n, frame.few) }

-- where the accounts name what changes, the sequence beside it, and others
pub accounted_stays : {A : Type 0} (old new : List (Held A)) (b a : List ℕ) (s : Paged) (others : List ℕ) → IsAccounted old (b ++ (s.frames ++ others)) → HasMoved A old new b a → IsPaged A old s → Stays A old new s
accounted_stays old new b a s others accounted moved paged =
    others_stay old new b a s moved paged (λ f lt. omega (arith, lt, accounted f, times_append f b (s.frames ++ others), times_append f s.frames others))
