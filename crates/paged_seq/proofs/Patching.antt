-- One item of a sequence with another in its place.
use Rattle.std.proofs.Common.{◌≡◌, ℕ, suc, ◌+◌, ◌-◌, ◌<◌, ◌≤◌, ◌⊎◌, inl, inr, List, [], ◌∷◌, ◌++◌, length, get_or, set, take, drop, refl, sym, ap, ap₂, ◌∙◌, subst, arith}
use Rattle.std.proofs.lemmas.Bool.{cases_lt, cases_eq}
use Rattle.std.proofs.lemmas.List.{length-set, set-append_left, set-append_right, take-append-drop, drop_more, set_split, take-map}
use Rattle.frame_pool.specs.Frames.{Held, items_at, count_at, held_at, times, here, with_frame, released, with_spare}
use Rattle.frame_pool.proofs.Counts.{here_same, here_other, times_append, times_cons, count_within, held_same, held_other, held_with_spare, empty_set}
use Rattle.paged_seq.specs.Sizes.{amount, starts, ArePacked}
use Rattle.paged_seq.specs.Sequences.{Paged, HasMoved, IsFrame, IsPaged, IsChanged, items_of, sizes_of, paged_items}
use Rattle.paged_seq.proofs.Items.{Found, length_items, times_at}
use Rattle.paged_seq.proofs.Names.{same_items, same_sizes, moved_within, moved_release, moved_take}
use Rattle.paged_seq.proofs.Taking.{items_append, sizes_append}
use Rattle.paged_seq.proofs.Splicing.{spared}

pub same_at : (frames : List ℕ) (k f : ℕ) → k < length frames → f ≡ get_or frames k f → frames ≡ take k frames ++ (f ∷ drop (k + 1) frames)
same_at frames k f lt is = sym (take-append-drop k frames) ∙ ap (λ l. take k frames ++ l) (drop_more frames k f lt ∙ ap (λ g. g ∷ drop (k + 1) frames) (sym is))

set_in : {A : Type 0} (pre x post : List A) (j n : ℕ) (item : A) → n ≡ length pre + j → j < length x → set (pre ++ (x ++ post)) n item ≡ pre ++ (set x j item ++ post)
set_in pre x post j n item e lt =
    let back : n - length pre ≡ j = omega (arith, e) in
    set-append_right pre (x ++ post) (length pre) n item refl (omega (arith, e)) ∙ ap (λ m. pre ++ set (x ++ post) m item) back ∙ ap (λ l. pre ++ l) (set-append_left x post j item lt)

abbrev count_of : {A : Type 0} → ℕ → List (Held A) → ℕ
count_of f pool = count_at pool f

abbrev held_of_place : {A : Type 0} → ℕ → List (Held A) → Held A
held_of_place f pool = held_at pool f

here_le : (f g : ℕ) → here f g ≤ 1
here_le f g = by (cases_eq f g)
  where
    by : (f ≡ g) ⊎ (f ≡ g → ⊥) → here f g ≤ 1
    by (inl e) = omega (arith, here_same f g e)
    by (inr ne) = omega (arith, here_other f g ne)

-- the other frames
others : (frames : List ℕ) (k f : ℕ) → k < length frames → f ≡ get_or frames k f → times f frames ≤ 1 → (g : ℕ) → 0 < times g (take k frames) + times g (drop (k + 1) frames) → g ≡ f → ⊥
others frames k f lt is once g some e =
    let split = ap (times f) (same_at frames k f lt is) in
    let same : times g (take k frames) + times g (drop (k + 1) frames) ≡ times f (take k frames) + times f (drop (k + 1) frames) = ap (λ h. times h (take k frames) + times h (drop (k + 1) frames)) e in
    omega (arith, split, times_append f (take k frames) (f ∷ drop (k + 1) frames), times_cons f f (drop (k + 1) frames), here_same f f refl, once, some, same)

sizes_by : {A : Type 0} (old new : List (Held A)) (frames : List ℕ) → ((g : ℕ) → length (items_at new g) ≡ length (items_at old g)) → sizes_of new frames ≡ sizes_of old frames
sizes_by old new [] same = refl
sizes_by old new (f ∷ frames) same = ap₂ (λ n l. n ∷ l) (same f) (sizes_by old new frames same)

-- the one list around a frame
around : {A : Type 0} (old new : List (Held A)) (frames : List ℕ) (k f j i : ℕ) (item : A) → k < length frames → f ≡ get_or frames k f → times f frames ≤ 1 → ((g : ℕ) → 0 < times g (take k frames) + times g (drop (k + 1) frames) → items_at new g ≡ items_at old g)
    → i ≡ amount (take k (sizes_of old frames)) + j → j < length (items_at old f)
    → items_of new (take k frames) ++ (set (items_at old f) j item ++ items_of new (drop (k + 1) frames)) ≡ set (items_of old frames) i item
around {A} old new frames k f j i item lt is once same at less =
    let front = same_items old new (take k frames) (λ g some. same g (omega (arith, some))) in
    let back = same_items old new (drop (k + 1) frames) (λ g some. same g (omega (arith, some))) in
    let whole : items_of old frames ≡ items_of old (take k frames) ++ (items_at old f ++ items_of old (drop (k + 1) frames)) = ap (items_of old) (same_at frames k f lt is) ∙ items_append old (take k frames) (f ∷ drop (k + 1) frames) in
    let long : length (items_of old (take k frames)) ≡ amount (take k (sizes_of old frames)) = length_items old (take k frames) ∙ ap amount (sym (take-map (λ g. length (items_at old g)) k frames)) in
    ap₂ (λ x y. x ++ (set (items_at old f) j item ++ y)) front back
    ∙ sym (ap (λ l. set l i item) whole ∙ set_in (items_of old (take k frames)) (items_at old f) (items_of old (drop (k + 1) frames)) j i item (omega (arith, at, long)) less)

pub patch_in_place : {A : Type 0} (old new : List (Held A)) (s : Paged) (i k f first : ℕ) (item : A) → IsPaged A old s → Found A old s i k f first → f ≡ get_or s.frames k f → count_at old f ≡ 1
    → new ≡ with_frame old f (set (items_at old f) (i - first) item) 1 → IsChanged A old new s s (set (paged_items old s) i item)
patch_in_place {A} old new s i k f first item paged at is one now =
    subst (λ pool. IsChanged A old pool s s (set (paged_items old s) i item)) (sym now)
    (record {
      paged = record {
        held = λ g some. frame g (paged.held g some) (cases_eq g f);
        once = paged.once;
        firsts = paged.firsts ∙ ap (starts 0) (sym sizes);
        total = paged.total ∙ ap amount (sym sizes);
        packed = subst (ArePacked 256) (sym sizes) paged.packed;
      };
      items_are = ap (items_of (with_frame old f (set (items_at old f) (i - first) item) 1)) (same_at s.frames k f at.within is)
          ∙ items_append (with_frame old f (set (items_at old f) (i - first) item) 1) (take k s.frames) (f ∷ drop (k + 1) s.frames)
          ∙ ap (λ x. items_of (with_frame old f (set (items_at old f) (i - first) item) 1) (take k s.frames) ++ (x ++ items_of (with_frame old f (set (items_at old f) (i - first) item) 1) (drop (k + 1) s.frames))) mine
          ∙ around old (with_frame old f (set (items_at old f) (i - first) item) 1) s.frames k f (i - first) i item at.within is (paged.once f) (λ g some. ap (λ (h : Held A). h.items) (held_other old f g (record { items = set (items_at old f) (i - first) item; count = 1 }) (others s.frames k f at.within is (paged.once f) g some)))
          (omega (arith, at.first_is, at.from)) at.before;
      moved = record {
        counts = λ g. ap (λ n. n + times g s.frames) (count g (cases_eq g f));
        kept = λ g lt. kept g lt (cases_eq g f);
        empty = empty_set old f (record { items = set (items_at old f) (i - first) item; count = 1 }) within (λ none. absurd (omega (arith, none)));
      };
    })
  where
    within : f < length old
    within = count_within old f (omega (arith, one))

    whole : held_at (with_frame old f (set (items_at old f) (i - first) item) 1) f ≡ record { items = set (items_at old f) (i - first) item; count = 1 }
    whole = held_same old f f (record { items = set (items_at old f) (i - first) item; count = 1 }) (count_within old f (omega (arith, one))) refl

    mine : items_at (with_frame old f (set (items_at old f) (i - first) item) 1) f ≡ set (items_at old f) (i - first) item
    mine = ap (λ (h : Held A). h.items) whole

    long : (g : ℕ) → (g ≡ f) ⊎ (g ≡ f → ⊥) → length (items_at (with_frame old f (set (items_at old f) (i - first) item) 1) g) ≡ length (items_at old g)
    long g (inl e) =
        ap (λ h. length (items_at (with_frame old f (set (items_at old f) (i - first) item) 1) h)) e ∙ ap (λ (l : List A). length l) mine ∙ length-set (items_at old f) (i - first) item ∙ ap (λ h. length (items_at old h)) (sym e)
    long g (inr ne) = ap (λ (h : Held A). length h.items) (held_other old f g (record { items = set (items_at old f) (i - first) item; count = 1 }) ne)

    sizes : sizes_of (with_frame old f (set (items_at old f) (i - first) item) 1) s.frames ≡ sizes_of old s.frames
    sizes = sizes_by old (with_frame old f (set (items_at old f) (i - first) item) 1) s.frames (λ g. long g (cases_eq g f))

    count : (g : ℕ) → (g ≡ f) ⊎ (g ≡ f → ⊥) → count_at (with_frame old f (set (items_at old f) (i - first) item) 1) g ≡ count_at old g
    count g (inl e) = ap (count_at (with_frame old f (set (items_at old f) (i - first) item) 1)) e ∙ ap (λ (h : Held A). h.count) whole ∙ sym one ∙ ap (count_at old) (sym e)
    count g (inr ne) = ap (λ (h : Held A). h.count) (held_other old f g (record { items = set (items_at old f) (i - first) item; count = 1 }) ne)

    frame : (g : ℕ) → IsFrame A old g → (g ≡ f) ⊎ (g ≡ f → ⊥) → IsFrame A (with_frame old f (set (items_at old f) (i - first) item) 1) g
    frame g was c = let n = long g c in let m = count g c in record { held = omega (arith, m, was.held); some = omega (arith, n, was.some); few = omega (arith, n, was.few) }

    kept : (g : ℕ) → times g s.frames < count_at old g → (g ≡ f) ⊎ (g ≡ f → ⊥) → items_at (with_frame old f (set (items_at old f) (i - first) item) 1) g ≡ items_at old g
    kept g lt (inl e) =
        let m : count_at old g ≡ 1 = ap (count_at old) e ∙ one in
        let t : times g s.frames ≡ times f s.frames = ap (λ h. times h s.frames) e in
        let some = times_at s.frames k f at.within is in
        absurd (omega (arith, lt, m, t, some))
    kept g lt (inr ne) = ap (λ (h : Held A). h.items) (held_other old f g (record { items = set (items_at old f) (i - first) item; count = 1 }) ne)

-- ---- in another frame

-- a frame that is neither
record Beside (A : Type 0) (old new : List (Held A)) (f new_f g : ℕ) : Type 0 where
  frame : IsFrame A new g
  same : items_at new g ≡ items_at old g
  apart : times g (new_f ∷ []) ≡ 0

beside : {A : Type 0} (old mid new : List (Held A)) (frames : List ℕ) (k f new_f : ℕ) → k < length frames → f ≡ get_or frames k f → times f frames ≤ 1 → ((g : ℕ) → 0 < times g frames → IsFrame A old g)
    → HasMoved A old mid (f ∷ []) [] → count_at mid new_f ≡ 0 → HasMoved A old new (f ∷ []) (new_f ∷ []) → (g : ℕ) → 0 < times g (take k frames) + times g (drop (k + 1) frames) → Beside A old new f new_f g
beside {A} old mid new frames k f new_f lt is once held first none second g some =
    let split = ap (times g) (same_at frames k f lt is) in
    let named : 0 < times g frames = omega (arith, split, times_append g (take k frames) (f ∷ drop (k + 1) frames), times_cons g f (drop (k + 1) frames), some) in
    let was = held g named in
    let unlike : times g (f ∷ []) ≡ 0 = times_cons g f [] ∙ ap (λ n. n + 0) (here_other g f (others frames k f lt is once g some)) in
    let middle : 0 < count_at mid g = omega (arith, first.counts g, unlike, was.held) in
    let differs : g ≡ new_f → ⊥ = λ e. absurd (omega (arith, middle, ap (count_at mid) e, none)) in
    let apart : times g (new_f ∷ []) ≡ 0 = times_cons g new_f [] ∙ ap (λ n. n + 0) (here_other g new_f differs) in
    let same = second.kept g (omega (arith, unlike, was.held)) in
    let n = ap (λ (l : List A). length l) same in
    record { frame = record { held = omega (arith, second.counts g, unlike, was.held); some = omega (arith, n, was.some); few = omega (arith, n, was.few) }; same = same; apart = apart }

sizes_apart : {A : Type 0} (old new : List (Held A)) (frames : List ℕ) (k f new_f : ℕ) → k < length frames → f ≡ get_or frames k f → ((g : ℕ) → 0 < times g (take k frames) + times g (drop (k + 1) frames) → items_at new g ≡ items_at old g)
    → length (items_at new new_f) ≡ length (items_at old f) → sizes_of new (take k frames ++ (new_f ∷ drop (k + 1) frames)) ≡ sizes_of old frames
sizes_apart {A} old new frames k f new_f lt is same size =
    sizes_append new (take k frames) (new_f ∷ drop (k + 1) frames)
    ∙ ap₂ (λ x y. x ++ y) (same_sizes old new (take k frames) (λ g some. same g (omega (arith, some)))) (ap₂ (λ n l. n ∷ l) size (same_sizes old new (drop (k + 1) frames) (λ g some. same g (omega (arith, some)))))
    ∙ sym (sizes_append old (take k frames) (f ∷ drop (k + 1) frames)) ∙ ap (sizes_of old) (sym (same_at frames k f lt is))

pub patch_elsewhere : {A : Type 0} (old mid new : List (Held A)) (s : Paged) (i k f first new_f : ℕ) (item : A) → IsPaged A old s → Found A old s i k f first → f ≡ get_or s.frames k f
    → HasMoved A old mid (f ∷ []) [] → count_at mid new_f ≡ 0 → HasMoved A old new (f ∷ []) (new_f ∷ []) → held_at new new_f ≡ record { items = set (items_at old f) (i - first) item; count = 1 }
    → IsChanged A old new s (record { frames = take k s.frames ++ (new_f ∷ drop (k + 1) s.frames); firsts = s.firsts; total = s.total }) (set (paged_items old s) i item)
patch_elsewhere {A} old mid new s i k f first new_f item paged at is one none both whole =
    let aside = beside old mid new s.frames k f new_f at.within is (paged.once f) paged.held one none both in
    let mine : items_at new new_f ≡ set (items_at old f) (i - first) item = ap (λ (h : Held A). h.items) whole in
    let count : count_at new new_f ≡ 1 = ap (λ (h : Held A). h.count) whole in
    let long : length (items_at new new_f) ≡ length (items_at old f) = ap (λ (l : List A). length l) mine ∙ length-set (items_at old f) (i - first) item in
    let sizes = sizes_apart old new s.frames k f new_f at.within is (λ g some. (aside g some).same) long in
    let fresh : IsFrame A new new_f = record { held = omega (arith, count); some = omega (arith, long, at.frame.some); few = omega (arith, long, at.frame.few) } in
    record {
      paged = record {
        held = λ g some. held g (omega (arith, some, times_append g (take k s.frames) (new_f ∷ drop (k + 1) s.frames), times_cons g new_f (drop (k + 1) s.frames))) fresh aside (cases_eq g new_f);
        once = λ g. once g aside (cases_lt 0 (times g (take k s.frames) + times g (drop (k + 1) s.frames)));
        firsts = paged.firsts ∙ ap (starts 0) (sym sizes);
        total = paged.total ∙ ap amount (sym sizes);
        packed = subst (ArePacked 256) (sym sizes) paged.packed;
      };
      items_are = items_append new (take k s.frames) (new_f ∷ drop (k + 1) s.frames) ∙ ap (λ x. items_of new (take k s.frames) ++ (x ++ items_of new (drop (k + 1) s.frames))) mine
          ∙ around old new s.frames k f (i - first) i item at.within is (paged.once f) (λ g some. (aside g some).same) (omega (arith, at.first_is, at.from)) at.before;
      moved = subst (λ l. HasMoved A old new l (take k s.frames ++ (new_f ∷ drop (k + 1) s.frames))) (sym (same_at s.frames k f at.within is))
          (moved_within old new (take k s.frames) (f ∷ []) (new_f ∷ []) (drop (k + 1) s.frames) both);
    }
  where
    held : (g : ℕ) → 0 < times g (take k s.frames) + (here g new_f + times g (drop (k + 1) s.frames)) → IsFrame A new new_f → ((g : ℕ) → 0 < times g (take k s.frames) + times g (drop (k + 1) s.frames) → Beside A old new f new_f g)
        → (g ≡ new_f) ⊎ (g ≡ new_f → ⊥) → IsFrame A new g
    held g some fresh aside (inl e) = subst (IsFrame A new) (sym e) fresh
    held g some fresh aside (inr ne) = (aside g (omega (arith, some, here_other g new_f ne))).frame

    once : (g : ℕ) → ((g : ℕ) → 0 < times g (take k s.frames) + times g (drop (k + 1) s.frames) → Beside A old new f new_f g) → (0 < times g (take k s.frames) + times g (drop (k + 1) s.frames)) ⊎ (times g (take k s.frames) + times g (drop (k + 1) s.frames) ≤ 0)
        → times g (take k s.frames ++ (new_f ∷ drop (k + 1) s.frames)) ≤ 1
    once g aside (inl some) =
        let split = ap (times g) (same_at s.frames k f at.within is) in
        omega (
          arith,
          split,
          times_append g (take k s.frames) (f ∷ drop (k + 1) s.frames),
          times_cons g f (drop (k + 1) s.frames),
          paged.once g,
          (aside g some).apart,
          times_cons g new_f [],
          times_append g (take k s.frames) (new_f ∷ drop (k + 1) s.frames),
          times_cons g new_f (drop (k + 1) s.frames),
        )
    once g aside (inr le) = omega (arith, le, here_le g new_f, times_append g (take k s.frames) (new_f ∷ drop (k + 1) s.frames), times_cons g new_f (drop (k + 1) s.frames))

-- as the code says it
pub patch_moved : {A : Type 0} (old late mid new : List (Held A)) (s : Paged) (i k f first new_f : ℕ) (item : A) (middle slice : List A) → IsPaged A old s → Found A old s i k f first → f ≡ get_or s.frames k f
    → late ≡ with_spare 1 old → mid ≡ released late f → count_at mid new_f ≡ 0 → new_f < length mid → new ≡ with_frame mid new_f slice 1 → slice ≡ middle → middle ≡ set (items_at old f) (i - first) item
    → IsChanged A old new s (record { frames = set s.frames k new_f; firsts = s.firsts; total = s.total }) (set (paged_items old s) i item)
patch_moved {A} old late mid new s i k f first new_f item middle slice paged at is e1 e2 none within e3 e4 e5 =
    let counts : count_at late f ≡ count_at old f = ap (count_of f) e1 ∙ ap (λ (h : Held A). h.count) (held_with_spare old 1 f) in
    let start : HasMoved A old late [] [] = subst (λ p. HasMoved A old p [] []) (sym e1) (spared old 1 s paged).moved in
    let one : HasMoved A old mid (f ∷ []) [] = subst (λ p. HasMoved A old p (f ∷ []) []) (sym e2) (moved_release old late [] [] f start (omega (arith, counts, at.frame.held)) refl) in
    let both : HasMoved A old new (f ∷ []) (new_f ∷ []) = subst (λ p. HasMoved A old p (f ∷ []) (new_f ∷ [])) (sym e3) (moved_take old mid (f ∷ []) [] new_f slice one none within) in
    let whole : held_at new new_f ≡ record { items = set (items_at old f) (i - first) item; count = 1 } =
    ap (held_of_place new_f) e3 ∙ held_same mid new_f new_f (record { items = slice; count = 1 }) within refl ∙ (λ j. record { items = (e4 ∙ e5) j; count = 1 }) in
    let e : suc k ≡ k + 1 = omega arith in
    let frames : take k s.frames ++ (new_f ∷ drop (k + 1) s.frames) ≡ set s.frames k new_f = ap (λ n. take k s.frames ++ (new_f ∷ drop n s.frames)) (sym e) ∙ sym (set_split s.frames k new_f at.within) in
    subst (λ l. IsChanged A old new s (record { frames = l; firsts = s.firsts; total = s.total }) (set (paged_items old s) i item)) frames
    (patch_elsewhere old mid new s i k f first new_f item paged at is one none both whole)

pub held_late : {A : Type 0} (old late : List (Held A)) (n f : ℕ) → late ≡ with_spare n old → 0 < count_at old f → 0 < count_at late f
held_late {A} old late n f e some =
    let counts : count_at late f ≡ count_at old f = ap (count_of f) e ∙ ap (λ (h : Held A). h.count) (held_with_spare old n f) in omega (arith, counts)
