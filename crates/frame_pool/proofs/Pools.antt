-- What the fields of a pool keep through its calls.
use Rattle.std.proofs.Common.{◌≡◌, ℕ, zero, suc, ◌+◌, ◌-◌, ◌<◌, ◌≤◌, ◌⊎◌, inl, inr, List, [], ◌∷◌, ◌++◌, length, map, get_or, set, replicate, refl, sym, ap, ap₂, ◌∙◌, subst, arith, vec_capacity}
use Rattle.std.specs.List.{All}
use Rattle.std.proofs.lemmas.Bool.{cases_eq, cases_lt}
use Rattle.std.proofs.lemmas.List.{map-set, length-set, get_or-set_same, get_or-set_other, get_or_past, get_or_append_left, get_or-append_right, get_or-replicate, get_or-map, get_or_default, length-map, length-append, length-replicate, length_push, map-append}
use Rattle.std.proofs.lemmas.List.Elements.{All-set, All-append}
use Rattle.frame_pool.specs.Frames.{Held, no_frame, held_at, items_at, count_at, with_frame, shared, released, with_count, here, times, vacancy, spare_of, used_of, SparesAreEmpty, numbers_from}
use Rattle.frame_pool.specs.Inner.{held_of, vacant, IsPool}
use Rattle.frame_pool.specs.declared.frame.Frame.{Frame}
use Rattle.frame_pool.proofs.Counts.{here_same, here_other, times_push, times_append, times_below, times_within, times_above, length_numbers, count_within, spare_set, spare_append, vacancy_some, vacancy_none, vacancy_is, vacancy_le, spare_some, used_and_spare, empty_set, empty_spare}

-- ---- one frame

pub frame_within : {A : Type 0} (frames : List (Frame A)) (f : ℕ) → 0 < count_at (map held_of frames) f → f < length frames
frame_within frames f some = omega (arith, count_within (map held_of frames) f some, length-map frames held_of)

pub held_read : {A : Type 0} (frames : List (Frame A)) (f : ℕ) (x : Frame A) → f < length frames → x ≡ get_or frames f x → held_at (map held_of frames) f ≡ held_of x
held_read frames f x lt is = get_or-map held_of frames f x no_frame lt ∙ ap held_of (sym is)

pub view_set : {A : Type 0} (frames : List (Frame A)) (f : ℕ) (y : Frame A) (h : Held A) → held_of y ≡ h → map held_of (set frames f y) ≡ set (map held_of frames) f h
view_set frames f y h e = map-set held_of frames f y ∙ ap (λ k. set (map held_of frames) f k) e

vacant_same : {A : Type 0} (frames : List (Frame A)) (f : ℕ) (y : Frame A) → f < length frames → vacant (map held_of (set frames f y)) f ≡ vacancy y.count
vacant_same {A} frames f y lt =
    ap (λ (pool : List (Held A)). vacant pool f) (map-set held_of frames f y)
    ∙ ap (λ (h : Held A). vacancy h.count) (get_or-set_same (map held_of frames) f (held_of y) (record { items = []; count = 1 }) (omega (arith, length-map frames held_of)))

vacant_other : {A : Type 0} (frames : List (Frame A)) (f g : ℕ) (y : Frame A) → (g ≡ f → ⊥) → vacant (map held_of (set frames f y)) g ≡ vacant (map held_of frames) g
vacant_other {A} frames f g y ne =
    ap (λ (pool : List (Held A)). vacant pool g) (map-set held_of frames f y)
    ∙ ap (λ (h : Held A). vacancy h.count) (get_or-set_other (map held_of frames) f g (held_of y) (record { items = []; count = 1 }) ne)

vacant_read : {A : Type 0} (frames : List (Frame A)) (f : ℕ) (x : Frame A) → f < length frames → x ≡ get_or frames f x → vacant (map held_of frames) f ≡ vacancy x.count
vacant_read {A} frames f x lt is =
    ap (λ (h : Held A). vacancy h.count) (get_or-map held_of frames f x (record { items = []; count = 1 }) lt ∙ ap held_of (sym is))

spare_write : {A : Type 0} (frames : List (Frame A)) (f : ℕ) (x y : Frame A) → f < length frames → x ≡ get_or frames f x → spare_of (map held_of (set frames f y)) + vacancy x.count ≡ spare_of (map held_of frames) + vacancy y.count
spare_write {A} frames f x y lt is =
    let whole = spare_set (map held_of frames) f (held_of y) (omega (arith, length-map frames held_of)) in
    ap₂ (λ a b. a + b) (ap spare_of (map-set held_of frames f y)) (ap (λ (h : Held A). vacancy h.count) (sym (held_read frames f x lt is))) ∙ whole

empty_write : {A : Type 0} (frames : List (Frame A)) (f : ℕ) (y : Frame A) → f < length frames → (y.count ≡ 0 → y.items.items ≡ []) → SparesAreEmpty (map held_of frames) → SparesAreEmpty (map held_of (set frames f y))
empty_write {A} frames f y lt empty were =
    subst (λ (pool : List (Held A)). SparesAreEmpty pool) (sym (map-set held_of frames f y)) (empty_set (map held_of frames) f (held_of y) (omega (arith, length-map frames held_of)) empty were)

-- ---- a frame stays in the map

pub stays : {A : Type 0} (frames : List (Frame A)) (free : List ℕ) (room f : ℕ) (x y : Frame A) → IsPool A frames free room → f < length frames → x ≡ get_or frames f x
    → 0 < x.count → 0 < y.count → 256 ≤ vec_capacity y.items → IsPool A (set frames f y) free room
stays {A} frames free room f x y pool lt is was now big = record {
  free_once = λ g. pool.free_once g ∙ same g (cases_eq g f);
  free_many = omega (arith, spare_write frames f x y lt is, pool.free_many, vacancy_some x.count was, vacancy_some y.count now);
  free_empty = empty_write frames f y lt (λ none. absurd (omega arith)) pool.free_empty;
  free_room = omega (arith, length-set frames f y, pool.free_room);
  frame_room = All-set (λ (k : Frame A). 256 ≤ vec_capacity k.items) frames f y big pool.frame_room;
}
  where
    same : (g : ℕ) → (g ≡ f) ⊎ (g ≡ f → ⊥) → vacant (map held_of frames) g ≡ vacant (map held_of (set frames f y)) g
    same g (inl e) =
        ap (λ k. vacant (map held_of frames) k) e ∙ vacant_read frames f x lt is ∙ vacancy_some x.count was
        ∙ sym (ap (λ k. vacant (map held_of (set frames f y)) k) e ∙ vacant_same frames f y lt ∙ vacancy_some y.count now)
    same g (inr ne) = sym (vacant_other frames f g y ne)

-- ---- it leaves the map

pub leaves : {A : Type 0} (frames : List (Frame A)) (free : List ℕ) (room f : ℕ) (x y : Frame A) → IsPool A frames free room → f < length frames → x ≡ get_or frames f x
    → 0 < x.count → y.count ≡ 0 → y.items.items ≡ [] → 256 ≤ vec_capacity y.items → IsPool A (set frames f y) (free ++ f ∷ []) room
leaves {A} frames free room f x y pool lt is was now empty big = record {
  free_once = λ g. times_push g f free ∙ same g (cases_eq g f);
  free_many = omega (arith, length_push free f, spare_write frames f x y lt is, pool.free_many, vacancy_some x.count was, vacancy_none y.count now);
  free_empty = empty_write frames f y lt (λ none. empty) pool.free_empty;
  free_room = omega (arith, length-set frames f y, pool.free_room);
  frame_room = All-set (λ (k : Frame A). 256 ≤ vec_capacity k.items) frames f y big pool.frame_room;
}
  where
    same : (g : ℕ) → (g ≡ f) ⊎ (g ≡ f → ⊥) → times g free + here g f ≡ vacant (map held_of (set frames f y)) g
    same g (inl e) =
        let before : vacant (map held_of frames) g ≡ 0 = ap (λ k. vacant (map held_of frames) k) e ∙ vacant_read frames f x lt is ∙ vacancy_some x.count was in
        let after : vacant (map held_of (set frames f y)) g ≡ 1 = ap (λ k. vacant (map held_of (set frames f y)) k) e ∙ vacant_same frames f y lt ∙ vacancy_none y.count now in
        omega (arith, before, after, pool.free_once g, here_same g f e)
    same g (inr ne) = omega (arith, here_other g f ne, pool.free_once g, vacant_other frames f g y ne)

-- ---- it comes into the map

-- the last free number is that of a spare frame
pub record IsSpare (A : Type 0) (frames : List (Frame A)) (f : ℕ) : Type 0 where
  pub within : f < length frames
  pub vacant_is : vacant (map held_of frames) f ≡ 1

pub last_spare : {A : Type 0} (frames : List (Frame A)) (free : List ℕ) (room f : ℕ) → IsPool A frames (free ++ f ∷ []) room → IsSpare A frames f
last_spare {A} frames free room f pool = by (cases_lt f (length frames))
  where
    some : times f (free ++ f ∷ []) ≡ times f free + 1
    some = times_push f f free ∙ ap (λ k. times f free + k) (here_same f f refl)

    by : (f < length frames) ⊎ (length frames ≤ f) → IsSpare A frames f
    by (inl lt) =
        let e : vacant (map held_of frames) f ≡ times f free + 1 = sym (pool.free_once f) ∙ some in
        record { within = lt; vacant_is = omega (arith, e, vacancy_le (get_or (map held_of frames) f (record { items = []; count = 1 })).count) }
    by (inr le) =
        let past : vacant (map held_of frames) f ≡ 0 = ap (λ (h : Held A). vacancy h.count) (get_or_past (map held_of frames) f (record { items = []; count = 1 }) (omega (arith, length-map frames held_of))) in
        absurd (omega (arith, past, some, pool.free_once f))

pub spare_count : {A : Type 0} (frames : List (Frame A)) (f : ℕ) (x : Frame A) → IsSpare A frames f → x ≡ get_or frames f x → x.count ≡ 0
spare_count frames f x spare is = vacancy_is x.count (sym (vacant_read frames f x spare.within is) ∙ spare.vacant_is)

pub comes : {A : Type 0} (frames : List (Frame A)) (free : List ℕ) (room f : ℕ) (x y : Frame A) → IsPool A frames (free ++ f ∷ []) room → x ≡ get_or frames f x
    → 0 < y.count → 256 ≤ vec_capacity y.items → IsPool A (set frames f y) free room
comes {A} frames free room f x y pool is now big = record {
  free_once = λ g. same g (cases_eq g f);
  free_many = omega (arith, length_push free f, spare_write frames f x y spare.within is, pool.free_many, vacancy_none x.count none, vacancy_some y.count now);
  free_empty = empty_write frames f y spare.within (λ gone. absurd (omega arith)) pool.free_empty;
  free_room = omega (arith, length-set frames f y, pool.free_room);
  frame_room = All-set (λ (k : Frame A). 256 ≤ vec_capacity k.items) frames f y big pool.frame_room;
}
  where
    spare : IsSpare A frames f
    spare = last_spare frames free room f pool

    none : x.count ≡ 0
    none = spare_count frames f x spare is

    same : (g : ℕ) → (g ≡ f) ⊎ (g ≡ f → ⊥) → times g free ≡ vacant (map held_of (set frames f y)) g
    same g (inl e) =
        let before : vacant (map held_of frames) g ≡ 1 = ap (λ k. vacant (map held_of frames) k) e ∙ spare.vacant_is in
        let after : vacant (map held_of (set frames f y)) g ≡ 0 = ap (λ k. vacant (map held_of (set frames f y)) k) e ∙ vacant_same frames f y spare.within ∙ vacancy_some y.count now in
        omega (arith, before, after, pool.free_once g, times_push g f free, here_same g f e)
    same g (inr ne) = omega (arith, here_other g f ne, times_push g f free, pool.free_once g, vacant_other frames f g y ne)

-- ---- more spare frames

pub grown : {A : Type 0} (frames fresh : List (Frame A)) (free : List ℕ) (room more n : ℕ) → IsPool A frames free room → map held_of fresh ≡ replicate n (no_frame {A = A})
    → All (λ (k : Frame A). 256 ≤ vec_capacity k.items) fresh → length frames + n ≤ more → IsPool A (frames ++ fresh) (free ++ numbers_from (length frames) n) more
grown {A} frames fresh free room more n pool are big fits = record {
  free_once = λ g. times_append g free (numbers_from (length frames) n) ∙ once g (cases_lt g (length frames));
  free_many =
      omega (arith, length-append free (numbers_from (length frames) n), length_numbers (length frames) n, pool.free_many, spare_append (map held_of frames) n, ap spare_of view);
  free_empty = subst (λ (l : List (Held A)). SparesAreEmpty l) (sym view) (empty_spare (map held_of frames) n pool.free_empty);
  free_room = omega (arith, length-append frames fresh, many, fits);
  frame_room = All-append (λ (k : Frame A). 256 ≤ vec_capacity k.items) frames fresh pool.frame_room big;
}
  where
    full : Held A
    full = record { items = []; count = 1 }

    many : length fresh ≡ n
    many = sym (length-map fresh held_of) ∙ ap length are ∙ length-replicate n (no_frame {A = A})

    view : map held_of (frames ++ fresh) ≡ map held_of frames ++ replicate n (no_frame {A = A})
    view = map-append held_of frames fresh ∙ ap (λ l. map held_of frames ++ l) are

    far : (g : ℕ) → length frames ≤ g → vacant (map held_of (frames ++ fresh)) g ≡ vacancy (get_or (replicate n (no_frame {A = A})) (g - length frames) (record { items = []; count = 1 })).count
    far g le =
        ap (λ (h : Held A). vacancy h.count)
        (ap (λ l. get_or l g (record { items = []; count = 1 })) view
        ∙ get_or-append_right (map held_of frames) (replicate n (no_frame {A = A})) (length frames) g (record { items = []; count = 1 }) (length-map frames held_of) le)

    once : (g : ℕ) → (g < length frames) ⊎ (length frames ≤ g) → times g free + times g (numbers_from (length frames) n) ≡ vacant (map held_of (frames ++ fresh)) g
    once g (inl lt) =
        let near : vacant (map held_of (frames ++ fresh)) g ≡ vacant (map held_of frames) g =
        ap (λ (h : Held A). vacancy h.count)
        (ap (λ l. get_or l g (record { items = []; count = 1 })) view
        ∙ get_or_append_left (map held_of frames) (replicate n (no_frame {A = A})) (record { items = []; count = 1 }) g (omega (arith, length-map frames held_of))) in
        omega (arith, near, pool.free_once g, times_below g (length frames) n lt)
    once g (inr le) = further (cases_lt g (length frames + n))
      where
        past : vacant (map held_of frames) g ≡ 0
        past = ap (λ (h : Held A). vacancy h.count) (get_or_past (map held_of frames) g (record { items = []; count = 1 }) (omega (arith, length-map frames held_of)))

        further : (g < length frames + n) ⊎ (length frames + n ≤ g) → times g free + times g (numbers_from (length frames) n) ≡ vacant (map held_of (frames ++ fresh)) g
        further (inl lt) =
            let e : vacant (map held_of (frames ++ fresh)) g ≡ 1 =
            far g le ∙ ap (λ (h : Held A). vacancy h.count) (get_or-replicate n (g - length frames) no_frame (record { items = []; count = 1 }) (omega arith)) in
            omega (arith, e, past, pool.free_once g, times_within g (length frames) n le lt)
        further (inr more) =
            let e : vacant (map held_of (frames ++ fresh)) g ≡ 0 =
            far g le ∙ ap (λ (h : Held A). vacancy h.count) (get_or_past (replicate n (no_frame {A = A})) (g - length frames) (record { items = []; count = 1 }) (omega (arith, length-replicate n (no_frame {A = A})))) in
            omega (arith, e, past, pool.free_once g, times_above g (length frames) n more)

-- ---- the view through the calls

pub released_more : {A : Type 0} (items : List A) (n : ℕ) → 1 < n → with_count items (n - 1) ≡ record { items = items; count = n - 1 }
released_more items zero lt = absurd (omega arith)
released_more items (suc zero) lt = absurd (omega arith)
released_more {A} items (suc (suc n)) lt =
    let e : suc (suc n) - 1 ≡ suc n = omega arith in
    ap (with_count items) e ∙ (λ i. record { items = items; count = sym e i })

pub released_last : {A : Type 0} (items : List A) (n : ℕ) → n ≤ 1 → with_count items (n - 1) ≡ no_frame
released_last items n le = let e : n - 1 ≡ 0 = omega arith in ap (with_count items) e

pub read_count : {A : Type 0} (frames : List (Frame A)) (f : ℕ) (x : Frame A) → x ≡ get_or frames f x → 0 < count_at (map held_of frames) f → 0 < x.count
read_count {A} frames f x is some =
    let e : count_at (map held_of frames) f ≡ x.count = ap (λ (h : Held A). h.count) (held_read frames f x (frame_within frames f some) is) in omega arith

pub read_one : {A : Type 0} (frames : List (Frame A)) (f : ℕ) (x : Frame A) → x ≡ get_or frames f x → count_at (map held_of frames) f ≡ 1 → x.count ≡ 1
read_one {A} frames f x is one =
    sym (ap (λ (h : Held A). h.count) (held_read frames f x (frame_within frames f (omega arith)) is)) ∙ one

pub read_items : {A : Type 0} (frames : List (Frame A)) (f : ℕ) (x : Frame A) → x ≡ get_or frames f x → count_at (map held_of frames) f ≡ 1 → x.items.items ≡ items_at (map held_of frames) f
read_items {A} frames f x is one = sym (ap (λ (h : Held A). h.items) (held_read frames f x (frame_within frames f (omega arith)) is))

pub room_read : {A : Type 0} (frames : List (Frame A)) (free : List ℕ) (room f : ℕ) (x : Frame A) → IsPool A frames free room → f < length frames → x ≡ get_or frames f x → 256 ≤ vec_capacity x.items
room_read {A} frames free room f x pool lt is = subst (λ (k : Frame A). 256 ≤ vec_capacity k.items) (sym is) (pool.frame_room f x lt)

pub room_read_spare : {A : Type 0} (frames : List (Frame A)) (free : List ℕ) (room f : ℕ) (x : Frame A) → IsPool A frames (free ++ f ∷ []) room → x ≡ get_or frames f x → 256 ≤ vec_capacity x.items
room_read_spare {A} frames free room f x pool is = room_read frames (free ++ f ∷ []) room f x pool (last_spare frames free room f pool).within is

pub view_filled : {A : Type 0} (frames : List (Frame A)) (f : ℕ) (y : Frame A) (items : List A) → y.items.items ≡ items → y.count ≡ 1 → map held_of (set frames f y) ≡ with_frame (map held_of frames) f items 1
view_filled frames f y items same one = view_set frames f y (record { items = items; count = 1 }) (λ i. record { items = same i; count = one i })

pub view_shared : {A : Type 0} (frames : List (Frame A)) (f : ℕ) (x : Frame A) → 0 < count_at (map held_of frames) f → x ≡ get_or frames f x
    → map held_of (set frames f (record { items = x.items; count = x.count + 1 })) ≡ shared (map held_of frames) f
view_shared {A} frames f x some is =
    let e = held_read frames f x (frame_within frames f some) is in
    view_set frames f (record { items = x.items; count = x.count + 1 }) (record { items = items_at (map held_of frames) f; count = count_at (map held_of frames) f + 1 })
    (λ i. record { items = (sym e i).items; count = (sym e i).count + 1 })

pub view_released_more : {A : Type 0} (frames : List (Frame A)) (f : ℕ) (x : Frame A) → 0 < count_at (map held_of frames) f → x ≡ get_or frames f x → 1 < x.count
    → map held_of (set frames f (record { items = x.items; count = x.count - 1 })) ≡ released (map held_of frames) f
view_released_more {A} frames f x some is more =
    let e = held_read frames f x (frame_within frames f some) is in
    view_set frames f (record { items = x.items; count = x.count - 1 }) (with_count (items_at (map held_of frames) f) (count_at (map held_of frames) f - 1))
    (sym (released_more x.items.items x.count more) ∙ ap (λ (h : Held A). with_count h.items (h.count - 1)) (sym e))

pub view_released_last : {A : Type 0} (frames : List (Frame A)) (f : ℕ) (x y : Frame A) → 0 < count_at (map held_of frames) f → x ≡ get_or frames f x → x.count ≤ 1
    → y.items.items ≡ [] → y.count ≡ 0 → map held_of (set frames f y) ≡ released (map held_of frames) f
view_released_last {A} frames f x y some is last empty none =
    let e = held_read frames f x (frame_within frames f some) is in
    let wiped : ◌≡◌ {A = Held A} (held_of y) no_frame = λ i. record { items = empty i; count = none i } in
    view_set frames f y (with_count (items_at (map held_of frames) f) (count_at (map held_of frames) f - 1))
    (wiped ∙ sym (released_last x.items.items x.count last) ∙ ap (λ (h : Held A). with_count h.items (h.count - 1)) (sym e))

pub unused_is : {A : Type 0} (frames : List (Frame A)) (f : ℕ) → IsSpare A frames f → count_at (map held_of frames) f ≡ 0
unused_is {A} frames f spare =
    let lt : f < length (map held_of frames) = omega (arith, spare.within, length-map frames held_of) in
    ap (λ (h : Held A). h.count) (get_or_default (map held_of frames) f no_frame (record { items = []; count = 1 }) lt) ∙ vacancy_is _ spare.vacant_is

-- a frame of the map is not among the free ones
pub free_within : {A : Type 0} (frames : List (Frame A)) (free : List ℕ) (room f : ℕ) → IsPool A frames free room → 0 < count_at (map held_of frames) f → length free < room
free_within {A} frames free room f pool some =
    omega (arith, pool.free_many, pool.free_room, spare_some (map held_of frames) f some, length-map frames held_of)

pub free_as : {A : Type 0} (frames : List (Frame A)) (free : List ℕ) (room : ℕ) (rest : List ℕ) (f : ℕ) → IsPool A frames free room → free ≡ rest ++ f ∷ [] → IsPool A frames (rest ++ f ∷ []) room
free_as {A} frames free room rest f pool e = subst (λ l. IsPool A frames l room) e pool

pub spare_within : {A : Type 0} (frames : List (Frame A)) (f : ℕ) → IsSpare A frames f → f < length (map held_of frames)
spare_within frames f spare = omega (arith, spare.within, length-map frames held_of)

-- the free numbers are no more than all
pub free_le : {A : Type 0} (frames : List (Frame A)) (free : List ℕ) (room : ℕ) → IsPool A frames free room → length free ≤ length frames
free_le {A} frames free room pool = omega (arith, pool.free_many, used_and_spare (map held_of frames), length-map frames held_of)

pub used_is : {A : Type 0} (frames : List (Frame A)) (free : List ℕ) (room : ℕ) → IsPool A frames free room → length frames - length free ≡ used_of (map held_of frames)
used_is {A} frames free room pool = omega (arith, pool.free_many, used_and_spare (map held_of frames), length-map frames held_of)

pub made_is : {A : Type 0} (frames : List (Frame A)) → length frames ≡ used_of (map held_of frames) + spare_of (map held_of frames)
made_is {A} frames = omega (arith, used_and_spare (map held_of frames), length-map frames held_of)

pub grown_as : {A : Type 0} (frames fresh all : List (Frame A)) (free kept numbers : List ℕ) (room more made end n : ℕ) → IsPool A frames free room → map held_of fresh ≡ replicate n no_frame
    → All (λ (k : Frame A). 256 ≤ vec_capacity k.items) fresh → all ≡ frames ++ fresh → numbers ≡ kept ++ numbers_from made (end - made) → kept ≡ free → made ≡ length frames → end ≡ length all → made + n ≤ more
    → IsPool A all numbers more
grown_as {A} frames fresh all free kept numbers room more made end n pool are big whole added same from to fits =
    let many : length fresh ≡ n = sym (length-map fresh held_of) ∙ ap length are ∙ length-replicate n no_frame in
    let step : end - made ≡ n = omega (arith, many, from, to, ap length whole, length-append frames fresh) in
    let names : free ++ numbers_from (length frames) n ≡ numbers = ap₂ (λ k m. free ++ numbers_from k m) (sym from) (sym step) ∙ sym (added ∙ ap (λ l. l ++ numbers_from made (end - made)) same) in
    subst (λ l. IsPool A l numbers more) (sym whole) (subst (λ l. IsPool A (frames ++ fresh) l more) names (grown frames fresh free room more n pool are big (omega (arith, from, fits))))
