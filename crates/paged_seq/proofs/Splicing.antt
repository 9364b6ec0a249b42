-- A part of a sequence with other frames in its place.
use Rattle.std.proofs.Common.{◌≡◌, ℕ, zero, suc, ◌+◌, ◌-◌, ◌^◌, ◌<◌, ◌≤◌, ◌⊎◌, inl, inr, List, [], ◌∷◌, ◌++◌, length, get_or, take, drop, map, refl, sym, ap, ap₂, ◌∙◌, subst, arith, append_assoc}
use Rattle.std.specs.List.{All}
use Rattle.std.proofs.lemmas.Bool.{cases_lt}
use Rattle.std.proofs.lemmas.List.{length-drop, length-append, length-take, take-append-drop, drop-drop, drop_at, take_at, take-map, drop-map, get_or_default}
use Rattle.frame_pool.specs.Frames.{Held, items_at, count_at, times, with_spare, spare_of}
use Rattle.frame_pool.proofs.Counts.{times_append, times_cons, here_same, held_with_spare, empty_spare}
use Rattle.paged_seq.specs.Sizes.{amount, starts, ArePacked, AreSizes, last_or, first_chunk, last_chunk, chunks}
use Rattle.paged_seq.specs.Sequences.{Paged, HasMoved, Taken, IsFrame, IsPaged, IsChanged, items_of, sizes_of, paged_items, gathered, spliced}
use Rattle.paged_seq.specs.Directories.{IsDirectory, IsPart, IsChange, Holds, place_of}
use Rattle.paged_seq.specs.declared.part.Part.{Part}
use Rattle.paged_seq.proofs.Amounts.{amount_append, amount_split, length_starts, starts_append}
use Rattle.paged_seq.proofs.Items.{length_items, many_sizes, many_firsts, size_at}
use Rattle.paged_seq.proofs.Packing.{packed_take, packed_join}
use Rattle.paged_seq.proofs.Names.{moved_then, moved_within, same_sizes, same_items, others_stay}
use Rattle.paged_seq.proofs.Taking.{items_append, sizes_append}
use Rattle.paged_seq.proofs.Places.{place_amount, size_at_place}

-- ---- the directory of a sequence

pub fit_sizes : {A : Type 0} (pool : List (Held A)) (frames : List ℕ) → ((f : ℕ) → 0 < times f frames → IsFrame A pool f) → AreSizes (sizes_of pool frames)
fit_sizes pool [] held = tt
fit_sizes pool (f ∷ frames) held =
    let frame = held f (omega (arith, times_cons f f frames, here_same f f refl)) in
    (frame.some, frame.few, fit_sizes pool frames (λ g lt. held g (omega (arith, lt, times_cons g f frames))))

abbrev pub directory_of : {A : Type 0} (pool : List (Held A)) (s : Paged) → IsPaged A pool s → IsDirectory s.firsts s.total
directory_of pool s p = record { sizes = sizes_of pool s.frames; firsts_are = p.firsts; len_is = p.total; fit = fit_sizes pool s.frames p.held; packed = p.packed }

-- ---- parts of the one list

pub items_take : {A : Type 0} (pool : List (Held A)) (frames : List ℕ) (k : ℕ) → items_of pool (take k frames) ≡ take (amount (take k (sizes_of pool frames))) (items_of pool frames)
items_take {A} pool frames k =
    let whole : items_of pool frames ≡ items_of pool (take k frames) ++ items_of pool (drop k frames) = ap (items_of pool) (sym (take-append-drop k frames)) ∙ items_append pool (take k frames) (drop k frames) in
    let long : length (items_of pool (take k frames)) ≡ amount (take k (sizes_of pool frames)) = length_items pool (take k frames) ∙ ap amount (sym (take-map (λ f. length (items_at pool f)) k frames)) in
    sym (ap (take (amount (take k (sizes_of pool frames)))) whole ∙ take_at (items_of pool (take k frames)) (items_of pool (drop k frames)) (amount (take k (sizes_of pool frames))) long)

pub items_drop : {A : Type 0} (pool : List (Held A)) (frames : List ℕ) (k : ℕ) → items_of pool (drop k frames) ≡ drop (amount (take k (sizes_of pool frames))) (items_of pool frames)
items_drop {A} pool frames k =
    let whole : items_of pool frames ≡ items_of pool (take k frames) ++ items_of pool (drop k frames) = ap (items_of pool) (sym (take-append-drop k frames)) ∙ items_append pool (take k frames) (drop k frames) in
    let long : length (items_of pool (take k frames)) ≡ amount (take k (sizes_of pool frames)) = length_items pool (take k frames) ∙ ap amount (sym (take-map (λ f. length (items_at pool f)) k frames)) in
    sym (ap (drop (amount (take k (sizes_of pool frames)))) whole ∙ drop_at (items_of pool (take k frames)) (items_of pool (drop k frames)) (amount (take k (sizes_of pool frames))) long)

-- taking further, and dropping in two steps
take_nothing : {A : Type 0} (n b : ℕ) → ◌≡◌ {A = List A} (take n []) (take b [])
take_nothing zero zero = refl
take_nothing zero (suc b) = refl
take_nothing (suc n) zero = refl
take_nothing (suc n) (suc b) = refl

take_on : {A : Type 0} (all : List A) (a b : ℕ) → a ≤ b → take a all ++ take (b - a) (drop a all) ≡ take b all
take_on [] zero zero le = refl
take_on [] zero (suc b) le = take_nothing (suc b - 0) (suc b)
take_on [] (suc a) b le = take_nothing (b - suc a) b
take_on (x ∷ all) zero b le = ap (λ n. take n (x ∷ all)) (omega arith)
take_on (x ∷ all) (suc a) zero le = absurd (omega arith)
take_on (x ∷ all) (suc a) (suc b) le = ap (λ l. x ∷ l) (ap (λ n. take a all ++ take n (drop a all)) (omega arith) ∙ take_on all a b (omega arith))

rest_on : {A : Type 0} (all : List A) (a b : ℕ) → a ≤ b → take (b - a) (drop a all) ++ drop b all ≡ drop a all
rest_on all a b le =
    let e : a + (b - a) ≡ b = omega arith in
    ap (λ l. take (b - a) (drop a all) ++ l) (ap (λ n. drop n all) (sym e) ∙ sym (drop-drop (b - a) a all)) ∙ take-append-drop (b - a) (drop a all)

pub gather_is : {A : Type 0} (all items : List A) (from at end to : ℕ) → from ≤ at → at ≤ end → end ≤ to
    → take from all ++ (gathered all from at items end to ++ drop to all) ≡ take at all ++ (items ++ drop end all)
gather_is all items from at end to a b c =
    ap (λ l. take from all ++ l) (append_assoc (take (at - from) (drop from all)) (items ++ take (to - end) (drop end all)) (drop to all))
    ∙ sym (append_assoc (take from all) (take (at - from) (drop from all)) ((items ++ take (to - end) (drop end all)) ++ drop to all))
    ∙ ap₂ (λ x y. x ++ y) (take_on all from at a) (append_assoc items (take (to - end) (drop end all)) (drop to all) ∙ ap (λ l. items ++ l) (rest_on all end to c))

-- ---- places that move

pub starts_move : (n : ℕ) (xs : List ℕ) (less more : ℕ) → less ≤ n → map (λ x. x - less + more) (starts n xs) ≡ starts (n - less + more) xs
starts_move n [] less more le = refl
starts_move n (x ∷ xs) less more le = ap (λ l. (n - less + more) ∷ l) (starts_move (n + x) xs less more (omega arith) ∙ ap (λ k. starts k xs) (omega arith))

starts_take : (n : ℕ) (xs : List ℕ) (k : ℕ) → take k (starts n xs) ≡ starts n (take k xs)
starts_take n [] zero = refl
starts_take n [] (suc k) = refl
starts_take n (x ∷ xs) zero = refl
starts_take n (x ∷ xs) (suc k) = ap (λ l. n ∷ l) (starts_take (n + x) xs k)

starts_drop : (n : ℕ) (xs : List ℕ) (k : ℕ) → drop k (starts n xs) ≡ starts (n + amount (take k xs)) (drop k xs)
starts_drop n [] zero = refl
starts_drop n [] (suc k) = refl
starts_drop n (x ∷ xs) zero = ap (λ m. starts m (x ∷ xs)) (omega arith)
starts_drop n (x ∷ xs) (suc k) = starts_drop (n + x) xs k ∙ ap (λ m. starts m (drop k xs)) (omega arith)

pub starts_from : (n : ℕ) (xs : List ℕ) → All (λ x. n ≤ x) (starts n xs)
starts_from n [] k d lt = absurd (omega (arith, lt))
starts_from n (x ∷ xs) zero d lt = omega arith
starts_from n (x ∷ xs) (suc k) d lt = let h = starts_from (n + x) xs k d (omega (arith, lt)) in omega (arith, h)

pub starts_to : (n : ℕ) (xs : List ℕ) → All (λ x. x ≤ n + amount xs) (starts n xs)
starts_to n [] k d lt = absurd (omega (arith, lt))
starts_to n (x ∷ xs) zero d lt = omega arith
starts_to n (x ∷ xs) (suc k) d lt = let h = starts_to (n + x) xs k d (omega (arith, lt)) in omega (arith, h)

-- ---- what is copied

pub record Gathering (A : Type 0) (pool : List (Held A)) (s : Paged) (at end last : ℕ) (part : Part) : Type 0 where
  pub from_is : place_of s.firsts s.total part.from ≡ amount (take part.from (sizes_of pool s.frames))
  pub to_is : place_of s.firsts s.total part.to ≡ amount (take part.to (sizes_of pool s.frames))
  pub front_fits : 0 + (at - place_of s.firsts s.total part.from) ≤ length (items_of pool (drop part.from s.frames))
  pub back_fits : end - place_of s.firsts s.total last + (place_of s.firsts s.total part.to - end) ≤ length (items_of pool (drop last s.frames))
  pub back_skips : last < length s.frames → end - place_of s.firsts s.total last ≤ length (items_at pool (get_or s.frames last 0))
  pub front_is : items_of pool (drop part.from s.frames) ≡ drop (amount (take part.from (sizes_of pool s.frames))) (items_of pool s.frames)
  pub back_is : drop (end - place_of s.firsts s.total last) (items_of pool (drop last s.frames)) ≡ drop end (items_of pool s.frames)

pub gathering : {A : Type 0} (pool : List (Held A)) (s : Paged) (at end last added : ℕ) (part : Part) → IsPaged A pool s → at ≤ end → end ≤ s.total → IsPart (sizes_of pool s.frames) at end added part → Holds s.firsts s.total end last
    → Gathering A pool s at end last part
gathering {A} pool s at end last added part paged order within is holds =
    let w = directory_of pool s paged in
    let p = place_amount s.firsts s.total part.from w in
    let q = place_amount s.firsts s.total part.to w in
    let r = place_amount s.firsts s.total last w in
    let all = length_items pool s.frames in
    let front_is = items_drop pool s.frames part.from in
    let back_is = items_drop pool s.frames last in
    let front_long : length (items_of pool (drop part.from s.frames)) ≡ amount (sizes_of pool s.frames) - amount (take part.from (sizes_of pool s.frames)) =
    ap (λ (l : List A). length l) front_is ∙ length-drop (amount (take part.from (sizes_of pool s.frames))) (items_of pool s.frames) ∙ ap (λ n. n - amount (take part.from (sizes_of pool s.frames))) all in
    let back_long : length (items_of pool (drop last s.frames)) ≡ amount (sizes_of pool s.frames) - amount (take last (sizes_of pool s.frames)) =
    ap (λ (l : List A). length l) back_is ∙ length-drop (amount (take last (sizes_of pool s.frames))) (items_of pool s.frames) ∙ ap (λ n. n - amount (take last (sizes_of pool s.frames))) all in
    let step : place_of s.firsts s.total last + (end - place_of s.firsts s.total last) ≡ end = omega (arith, holds.from) in
    record {
      from_is = p;
      to_is = q;
      front_fits = omega (arith, p, front_long, is.from, order, within, paged.total);
      back_fits = omega (arith, q, r, back_long, holds.from, is.to, amount_split (sizes_of pool s.frames) part.to);
      back_skips = λ lt.
          let first : last < length s.firsts = omega (arith, many_firsts pool s paged, lt) in
          let size : get_or (sizes_of pool s.frames) last 256 ≡ length (items_at pool (get_or s.frames last 0)) = size_at pool s.frames last (get_or s.frames last 0) 256 lt (get_or_default s.frames last 0 (get_or s.frames last 0) lt) in
          omega (arith, holds.before first, size_at_place s.firsts s.total last w first, size);
      front_is = front_is;
      back_is = ap (drop (end - place_of s.firsts s.total last)) (back_is ∙ ap (λ n. drop n (items_of pool s.frames)) (sym r)) ∙ drop-drop (end - place_of s.firsts s.total last) (place_of s.firsts s.total last) (items_of pool s.frames)
          ∙ ap (λ n. drop n (items_of pool s.frames)) step;
    }

-- as the code says it
pub gathered_is : {A : Type 0} (pool : List (Held A)) (s : Paged) (at end last : ℕ) (part : Part) (items none one two three : List A) (first skip behind : ℕ) → Gathering A pool s at end last part
    → first ≡ place_of s.firsts s.total part.from → skip ≡ end - place_of s.firsts s.total last → behind ≡ place_of s.firsts s.total part.to - end → none ≡ []
    → one ≡ none ++ take (at - first) (drop 0 (items_of pool (drop part.from s.frames))) → two ≡ one ++ items → three ≡ two ++ take behind (drop skip (items_of pool (drop last s.frames)))
    → three ≡ gathered (items_of pool s.frames) (amount (take part.from (sizes_of pool s.frames))) at items end (amount (take part.to (sizes_of pool s.frames)))
gathered_is {A} pool s at end last part items none one two three first skip behind g e1 e2 e3 empty a b c =
    let front : one ≡ take (at - amount (take part.from (sizes_of pool s.frames))) (drop (amount (take part.from (sizes_of pool s.frames))) (items_of pool s.frames)) =
    a ∙ ap₂ (λ x n. x ++ take (at - n) (drop 0 (items_of pool (drop part.from s.frames)))) empty (e1 ∙ g.from_is)
    ∙ ap (λ l. take (at - amount (take part.from (sizes_of pool s.frames))) l) g.front_is in
    let back : take behind (drop skip (items_of pool (drop last s.frames))) ≡ take (amount (take part.to (sizes_of pool s.frames)) - end) (drop end (items_of pool s.frames)) =
    ap₂ (λ n l. take n l) (e3 ∙ ap (λ n. n - end) g.to_is) (ap (λ n. drop n (items_of pool (drop last s.frames))) e2 ∙ g.back_is) in
    c ∙ ap₂ (λ x y. x ++ y) (b ∙ ap (λ x. x ++ items) front) back
    ∙ append_assoc (take (at - amount (take part.from (sizes_of pool s.frames))) (drop (amount (take part.from (sizes_of pool s.frames))) (items_of pool s.frames))) items
    (take (amount (take part.to (sizes_of pool s.frames)) - end) (drop end (items_of pool s.frames)))

-- ---- the change

pub part_items : (frames : List ℕ) (from to : ℕ) → from ≤ to → frames ≡ take from frames ++ (take (to - from) (drop from frames) ++ drop to frames)
part_items frames from to le = sym (ap (λ l. take from frames ++ l) (rest_on frames from to le) ∙ take-append-drop from frames)

-- what the code has before it, and what it leaves
pub record Splice (A : Type 0) (old mid new : List (Held A)) (s : Paged) (at removed : ℕ) (items middle : List A) (part : Part) (fresh places : List ℕ) : Type 0 where
  pub paged : IsPaged A old s
  pub within : at + removed ≤ s.total
  pub change : IsChange (sizes_of old s.frames) at (at + removed) (length items) part
  pub released : HasMoved A old mid (take (part.to - part.from) (drop part.from s.frames)) []
  pub middle_is : middle ≡ gathered (paged_items old s) (amount (take part.from (sizes_of old s.frames))) at items (at + removed) (amount (take part.to (sizes_of old s.frames)))
  pub taken : Taken A mid new (amount (take part.from (sizes_of old s.frames))) middle fresh places

abbrev pub after : (s : Paged) (removed added : ℕ) (part : Part) (fresh places : List ℕ) → Paged
after s removed added part fresh places = record {
  frames = take part.from s.frames ++ (fresh ++ drop part.to s.frames);
  firsts = take part.from s.firsts ++ (places ++ map (λ x. x - removed + added) (drop part.to s.firsts));
  total = s.total - removed + added;
}

length_middle : {A : Type 0} (all items : List A) (from at end to : ℕ) → from ≤ at → at ≤ end → end ≤ to → to ≤ length all → length (gathered all from at items end to) ≡ (at - from) + length items + (to - end)
length_middle all items from at end to a b c d =
    omega (
      arith,
      length-append (take (at - from) (drop from all)) (items ++ take (to - end) (drop end all)),
      length-append items (take (to - end) (drop end all)),
      length-take (at - from) (drop from all),
      length-drop from all,
      length-take (to - end) (drop end all),
      length-drop end all,
    )

pub middle_size : {A : Type 0} (pool : List (Held A)) (frames : List ℕ) (at end : ℕ) (items middle : List A) (part : Part) → IsPart (sizes_of pool frames) at end (length items) part → at ≤ end
    → middle ≡ gathered (items_of pool frames) (amount (take part.from (sizes_of pool frames))) at items end (amount (take part.to (sizes_of pool frames))) → length middle ≡ part.size
middle_size {A} pool frames at end items middle part is order e =
    ap (λ (l : List A). length l) e
    ∙ length_middle (items_of pool frames) items (amount (take part.from (sizes_of pool frames))) at end (amount (take part.to (sizes_of pool frames))) is.from order is.to
    (omega (arith, length_items pool frames, amount_split (sizes_of pool frames) part.to))
    ∙ sym is.size

-- frames that are not in the part stay
record Aside (A : Type 0) (old mid new : List (Held A)) (fresh : List ℕ) (f : ℕ) : Type 0 where
  frame : IsFrame A new f
  same : items_at new f ≡ items_at old f
  apart : times f fresh ≡ 0

aside : {A : Type 0} (old mid new : List (Held A)) (s : Paged) (at removed : ℕ) (items middle : List A) (part : Part) (fresh places : List ℕ) → Splice A old mid new s at removed items middle part fresh places
    → (f : ℕ) → 0 < times f (take part.from s.frames) + times f (drop part.to s.frames) → Aside A old mid new fresh f
aside {A} old mid new s at removed items middle part fresh places w f some =
    let split = ap (times f) (part_items s.frames part.from part.to w.change.is.order) in
    let sum = times_append f (take part.from s.frames) (take (part.to - part.from) (drop part.from s.frames) ++ drop part.to s.frames) in
    let sum2 = times_append f (take (part.to - part.from) (drop part.from s.frames)) (drop part.to s.frames) in
    let named : times f (take part.from s.frames) + (times f (take (part.to - part.from) (drop part.from s.frames)) + times f (drop part.to s.frames)) ≡ times f s.frames = omega (arith, split, sum, sum2) in
    let frame = w.paged.held f (omega (arith, named, some)) in
    let none : times f (take (part.to - part.from) (drop part.from s.frames)) ≡ 0 = omega (arith, named, some, w.paged.once f) in
    let count : count_at mid f ≡ count_at old f = omega (arith, w.released.counts f, none) in
    let first = w.released.kept f (omega (arith, none, frame.held)) in
    let second = w.taken.moved.kept f (omega (arith, count, frame.held)) in
    let same : items_at new f ≡ items_at old f = second ∙ first in
    let n = ap (λ (l : List A). length l) same in
    record {
      frame = record { held = omega (arith, w.taken.moved.counts f, count, frame.held); some = omega (arith, n, frame.some); few = omega (arith, n, frame.few) };
      same = same;
      apart = clean (cases_lt 0 (times f fresh)) (omega (arith, count, frame.held));
    }
  where
    clean : (0 < times f fresh) ⊎ (times f fresh ≤ 0) → 0 < count_at mid f → times f fresh ≡ 0
    clean (inr le) held = omega arith
    clean (inl lt) held = absurd (omega (arith, w.taken.unused f lt, held))

-- ---- what it leaves

none_there : (fresh : List ℕ) → length fresh ≡ 0 → fresh ≡ []
none_there [] e = refl
none_there (f ∷ fresh) e = absurd (omega (arith, e))

-- the sizes after the change
new_sizes : {A : Type 0} (old mid new : List (Held A)) (s : Paged) (at removed : ℕ) (items middle : List A) (part : Part) (fresh places : List ℕ) → Splice A old mid new s at removed items middle part fresh places
    → sizes_of new (take part.from s.frames ++ (fresh ++ drop part.to s.frames)) ≡ take part.from (sizes_of old s.frames) ++ (sizes_of new fresh ++ drop part.to (sizes_of old s.frames))
new_sizes {A} old mid new s at removed items middle part fresh places w =
    let front : sizes_of new (take part.from s.frames) ≡ take part.from (sizes_of old s.frames) =
    same_sizes old new (take part.from s.frames) (λ f lt. (aside old mid new s at removed items middle part fresh places w f (omega (arith, lt))).same)
    ∙ sym (take-map (λ f. length (items_at old f)) part.from s.frames) in
    let back : sizes_of new (drop part.to s.frames) ≡ drop part.to (sizes_of old s.frames) =
    same_sizes old new (drop part.to s.frames) (λ f lt. (aside old mid new s at removed items middle part fresh places w f (omega (arith, lt))).same)
    ∙ sym (drop-map (λ f. length (items_at old f)) part.to s.frames) in
    sizes_append new (take part.from s.frames) (fresh ++ drop part.to s.frames) ∙ ap₂ (λ x y. x ++ y) front (sizes_append new fresh (drop part.to s.frames) ∙ ap (λ y. sizes_of new fresh ++ y) back)

new_items : {A : Type 0} (old mid new : List (Held A)) (s : Paged) (at removed : ℕ) (items middle : List A) (part : Part) (fresh places : List ℕ) → Splice A old mid new s at removed items middle part fresh places
    → items_of new (take part.from s.frames ++ (fresh ++ drop part.to s.frames)) ≡ spliced at removed items (paged_items old s)
new_items {A} old mid new s at removed items middle part fresh places w =
    let front : items_of new (take part.from s.frames) ≡ take (amount (take part.from (sizes_of old s.frames))) (items_of old s.frames) =
    same_items old new (take part.from s.frames) (λ f lt. (aside old mid new s at removed items middle part fresh places w f (omega (arith, lt))).same) ∙ items_take old s.frames part.from in
    let back : items_of new (drop part.to s.frames) ≡ drop (amount (take part.to (sizes_of old s.frames))) (items_of old s.frames) =
    same_items old new (drop part.to s.frames) (λ f lt. (aside old mid new s at removed items middle part fresh places w f (omega (arith, lt))).same) ∙ items_drop old s.frames part.to in
    items_append new (take part.from s.frames) (fresh ++ drop part.to s.frames)
    ∙ ap₂ (λ x y. x ++ y) front (items_append new fresh (drop part.to s.frames) ∙ ap₂ (λ x y. x ++ y) (w.taken.items_are ∙ w.middle_is) back)
    ∙ gather_is (items_of old s.frames) items (amount (take part.from (sizes_of old s.frames))) at (at + removed) (amount (take part.to (sizes_of old s.frames))) w.change.is.from (omega arith) w.change.is.to

new_packed : {A : Type 0} (old mid new : List (Held A)) (s : Paged) (at removed : ℕ) (items middle : List A) (part : Part) (fresh places : List ℕ) → Splice A old mid new s at removed items middle part fresh places
    → length middle ≡ part.size → ArePacked 256 (take part.from (sizes_of old s.frames) ++ (sizes_of new fresh ++ drop part.to (sizes_of old s.frames)))
new_packed {A} old mid new s at removed items middle part fresh places w size =
    packed_join 256 (take part.from (sizes_of old s.frames)) (sizes_of new fresh ++ drop part.to (sizes_of old s.frames)) (packed_take 256 (sizes_of old s.frames) part.from w.paged.packed)
    (by (cases_lt 0 part.size))
  where
    by : (0 < part.size) ⊎ (part.size ≤ 0) → ArePacked (last_or 256 (take part.from (sizes_of old s.frames))) (sizes_of new fresh ++ drop part.to (sizes_of old s.frames))
    by (inl some) =
        packed_join (last_or 256 (take part.from (sizes_of old s.frames))) (sizes_of new fresh) (drop part.to (sizes_of old s.frames))
        (w.taken.packed (last_or 256 (take part.from (sizes_of old s.frames))) (omega (arith, w.change.joins.left some, ap first_chunk size)))
        (subst (λ n. ArePacked n (drop part.to (sizes_of old s.frames))) (sym (w.taken.last (last_or 256 (take part.from (sizes_of old s.frames))) (omega (arith, size, some)) ∙ ap last_chunk size)) (w.change.joins.right some))
    by (inr le) =
        let none : part.size ≡ 0 = omega arith in
        let e : fresh ≡ [] = none_there fresh (w.taken.many ∙ ap chunks (size ∙ none)) in
        subst (λ l. ArePacked (last_or 256 (take part.from (sizes_of old s.frames))) (sizes_of new l ++ drop part.to (sizes_of old s.frames))) (sym e) (w.change.joins.empty none)

new_firsts : {A : Type 0} (old mid new : List (Held A)) (s : Paged) (at removed : ℕ) (items middle : List A) (part : Part) (fresh places : List ℕ) → Splice A old mid new s at removed items middle part fresh places
    → length middle ≡ part.size
    → take part.from s.firsts ++ (places ++ map (λ x. x - removed + length items) (drop part.to s.firsts)) ≡ starts 0 (take part.from (sizes_of old s.frames) ++ (sizes_of new fresh ++ drop part.to (sizes_of old s.frames)))
new_firsts {A} old mid new s at removed items middle part fresh places w size =
    let amounts : amount (sizes_of new fresh) ≡ part.size = sym (length_items new fresh) ∙ ap (λ (l : List A). length l) w.taken.items_are ∙ size in
    let front : take part.from s.firsts ≡ starts 0 (take part.from (sizes_of old s.frames)) = ap (take part.from) w.paged.firsts ∙ starts_take 0 (sizes_of old s.frames) part.from in
    let back : drop part.to s.firsts ≡ starts (0 + amount (take part.to (sizes_of old s.frames))) (drop part.to (sizes_of old s.frames)) = ap (drop part.to) w.paged.firsts ∙ starts_drop 0 (sizes_of old s.frames) part.to in
    let end_le = w.change.is.to in
    let moved : map (λ x. x - removed + length items) (drop part.to s.firsts) ≡ starts (amount (take part.from (sizes_of old s.frames)) + amount (sizes_of new fresh)) (drop part.to (sizes_of old s.frames)) =
    ap (map (λ x. x - removed + length items)) back ∙ starts_move (0 + amount (take part.to (sizes_of old s.frames))) (drop part.to (sizes_of old s.frames)) removed (length items) (omega (arith, end_le))
    ∙ ap (λ n. starts n (drop part.to (sizes_of old s.frames))) (omega (arith, amounts, w.change.is.size, end_le, w.change.is.from)) in
    ap₂ (λ x y. x ++ y) front
    (ap₂ (λ x y. x ++ y) w.taken.firsts_are moved ∙ sym (starts_append (amount (take part.from (sizes_of old s.frames))) (sizes_of new fresh) (drop part.to (sizes_of old s.frames))))
    ∙ sym (starts_append 0 (take part.from (sizes_of old s.frames)) (sizes_of new fresh ++ drop part.to (sizes_of old s.frames))
    ∙ ap (λ n. starts 0 (take part.from (sizes_of old s.frames)) ++ starts n (sizes_of new fresh ++ drop part.to (sizes_of old s.frames))) (omega arith))

pub splice_is : {A : Type 0} (old mid new : List (Held A)) (s : Paged) (at removed : ℕ) (items middle : List A) (part : Part) (fresh places : List ℕ) → Splice A old mid new s at removed items middle part fresh places
    → IsChanged A old new s (after s removed (length items) part fresh places) (spliced at removed items (paged_items old s))
splice_is {A} old mid new s at removed items middle part fresh places w =
    let size = middle_size old s.frames at (at + removed) items middle part w.change.is (omega arith) w.middle_is in
    let sizes = new_sizes old mid new s at removed items middle part fresh places w in
    let amounts : amount (sizes_of new fresh) ≡ part.size = sym (length_items new fresh) ∙ ap (λ (l : List A). length l) w.taken.items_are ∙ size in
    record {
      paged = record {
        held = λ f some. held f (omega (arith, some, times_append f (take part.from s.frames) (fresh ++ drop part.to s.frames), times_append f fresh (drop part.to s.frames))) (cases_lt 0 (times f (take part.from s.frames) + times f (drop part.to s.frames)));
        once = λ f. once f (cases_lt 0 (times f (take part.from s.frames) + times f (drop part.to s.frames)));
        firsts = new_firsts old mid new s at removed items middle part fresh places w size ∙ ap (starts 0) (sym sizes);
        total = omega (
          arith,
          ap amount sizes,
          amount_append (take part.from (sizes_of old s.frames)) (sizes_of new fresh ++ drop part.to (sizes_of old s.frames)),
          amount_append (sizes_of new fresh) (drop part.to (sizes_of old s.frames)),
          amounts,
          w.change.is.size,
          w.change.is.from,
          w.change.is.to,
          w.paged.total,
          amount_split (sizes_of old s.frames) part.to,
        );
        packed = subst (ArePacked 256) (sym sizes) (new_packed old mid new s at removed items middle part fresh places w size);
      };
      items_are = new_items old mid new s at removed items middle part fresh places w;
      moved = subst (λ l. HasMoved A old new l (take part.from s.frames ++ (fresh ++ drop part.to s.frames))) (sym (part_items s.frames part.from part.to w.change.is.order))
          (moved_within old new (take part.from s.frames) (take (part.to - part.from) (drop part.from s.frames)) fresh (drop part.to s.frames)
          (moved_then old mid new (take (part.to - part.from) (drop part.from s.frames)) [] fresh w.released w.taken.moved));
    }
  where
    held : (f : ℕ) → 0 < times f (take part.from s.frames) + (times f fresh + times f (drop part.to s.frames)) → (0 < times f (take part.from s.frames) + times f (drop part.to s.frames)) ⊎ (times f (take part.from s.frames) + times f (drop part.to s.frames) ≤ 0)
        → IsFrame A new f
    held f some (inl lt) = (aside old mid new s at removed items middle part fresh places w f lt).frame
    held f some (inr le) = w.taken.held f (omega (arith, some, le))

    once : (f : ℕ) → (0 < times f (take part.from s.frames) + times f (drop part.to s.frames)) ⊎ (times f (take part.from s.frames) + times f (drop part.to s.frames) ≤ 0) → times f (take part.from s.frames ++ (fresh ++ drop part.to s.frames)) ≤ 1
    once f (inl lt) =
        let split = ap (times f) (part_items s.frames part.from part.to w.change.is.order) in
        omega (
          arith,
          split,
          times_append f (take part.from s.frames) (take (part.to - part.from) (drop part.from s.frames) ++ drop part.to s.frames),
          times_append f (take (part.to - part.from) (drop part.from s.frames)) (drop part.to s.frames),
          w.paged.once f,
          (aside old mid new s at removed items middle part fresh places w f lt).apart,
          times_append f (take part.from s.frames) (fresh ++ drop part.to s.frames),
          times_append f fresh (drop part.to s.frames),
        )
    once f (inr le) = omega (arith, le, w.taken.once f, times_append f (take part.from s.frames) (fresh ++ drop part.to s.frames), times_append f fresh (drop part.to s.frames))

-- ---- more spare frames change nothing

pub record Spared (A : Type 0) (old new : List (Held A)) (s : Paged) : Type 0 where
  pub paged : IsPaged A new s
  pub items : paged_items new s ≡ paged_items old s
  pub sizes : sizes_of new s.frames ≡ sizes_of old s.frames
  pub moved : HasMoved A old new [] []

pub spared : {A : Type 0} (pool : List (Held A)) (n : ℕ) (s : Paged) → IsPaged A pool s → Spared A pool (with_spare n pool) s
spared {A} pool n s paged =
    let same : (f : ℕ) → items_at (with_spare n pool) f ≡ items_at pool f = λ f. ap (λ (h : Held A). h.items) (held_with_spare pool n f) in
    let moved : HasMoved A pool (with_spare n pool) [] [] = record { counts = λ f. ap (λ (h : Held A). h.count + 0) (held_with_spare pool n f); kept = λ f _. same f; empty = empty_spare pool (n - spare_of pool) } in
    let stays = others_stay pool (with_spare n pool) [] [] s moved paged (λ f lt. omega (arith, (paged.held f lt).held)) in
    record { paged = stays.paged; items = stays.items; sizes = same_sizes pool (with_spare n pool) s.frames (λ f _. same f); moved = moved }

-- ---- as the code says it

abbrev pub directory_as : {A : Type 0} (pool : List (Held A)) (s : Paged) (firsts : List ℕ) → IsPaged A pool s → firsts ≡ s.firsts → IsDirectory firsts s.total
directory_as pool s firsts p e = record { sizes = sizes_of pool s.frames; firsts_are = e ∙ p.firsts; len_is = p.total; fit = fit_sizes pool s.frames p.held; packed = p.packed }

-- what is released has counts
pub held_part : {A : Type 0} (pool : List (Held A)) (s : Paged) (from to : ℕ) → IsPaged A pool s → from ≤ to → (f : ℕ) → times f (take (to - from) (drop from s.frames)) ≤ count_at pool f
held_part {A} pool s from to paged order f =
    let split = ap (times f) (part_items s.frames from to order) in
    let sum : times f s.frames ≡ times f (take from s.frames) + (times f (take (to - from) (drop from s.frames)) + times f (drop to s.frames)) =
    omega (arith, split, times_append f (take from s.frames) (take (to - from) (drop from s.frames) ++ drop to s.frames), times_append f (take (to - from) (drop from s.frames)) (drop to s.frames)) in
    by sum (cases_lt 0 (times f s.frames))
  where
    by : times f s.frames ≡ times f (take from s.frames) + (times f (take (to - from) (drop from s.frames)) + times f (drop to s.frames)) → (0 < times f s.frames) ⊎ (times f s.frames ≤ 0) → times f (take (to - from) (drop from s.frames)) ≤ count_at pool f
    by sum (inl some) = omega (arith, sum, paged.once f, (paged.held f some).held)
    by sum (inr none) = omega (arith, sum, none)

-- the frames of a part are there
pub part_within : {A : Type 0} (pool : List (Held A)) (s : Paged) (at end added : ℕ) (part : Part) → IsPaged A pool s → IsPart (sizes_of pool s.frames) at end added part → part.to ≤ length s.frames
part_within pool s at end added part paged is = omega (arith, is.within, many_sizes pool s.frames)

pub part_within_firsts : {A : Type 0} (pool : List (Held A)) (s : Paged) (at end added : ℕ) (part : Part) → IsPaged A pool s → IsPart (sizes_of pool s.frames) at end added part → part.to ≤ length s.firsts
part_within_firsts pool s at end added part paged is = omega (arith, is.within, many_sizes pool s.frames, many_firsts pool s paged)

-- what is gathered has its place
pub middle_fits : {A : Type 0} (pool : List (Held A)) (s : Paged) (at removed : ℕ) (items middle : List A) (part : Part) → IsPaged A pool s → at + removed ≤ s.total → IsPart (sizes_of pool s.frames) at (at + removed) (length items) part
    → middle ≡ gathered (items_of pool s.frames) (amount (take part.from (sizes_of pool s.frames))) at items (at + removed) (amount (take part.to (sizes_of pool s.frames))) → s.total - removed + length items < 2 ^ 64
    → amount (take part.from (sizes_of pool s.frames)) + length middle < 2 ^ 64
middle_fits {A} pool s at removed items middle part paged within is e fits =
    omega (arith, middle_size pool s.frames at (at + removed) items middle part is (omega arith) e, is.size, is.from, is.to, paged.total, amount_split (sizes_of pool s.frames) part.to, fits, within)

-- the places behind can move
pub places_over : {A : Type 0} (pool : List (Held A)) (s : Paged) (at removed added : ℕ) (part : Part) → IsPaged A pool s → IsPart (sizes_of pool s.frames) at (at + removed) added part → All (λ x. removed ≤ x) (drop part.to s.firsts)
places_over {A} pool s at removed added part paged is =
    let e : drop part.to s.firsts ≡ starts (0 + amount (take part.to (sizes_of pool s.frames))) (drop part.to (sizes_of pool s.frames)) = ap (drop part.to) paged.firsts ∙ starts_drop 0 (sizes_of pool s.frames) part.to in
    let le = is.to in
    subst (λ l. All (λ x. removed ≤ x) l) (sym e) (λ k d lt. let h = starts_from (0 + amount (take part.to (sizes_of pool s.frames))) (drop part.to (sizes_of pool s.frames)) k d lt in omega (arith, h, le))

pub places_fit : {A : Type 0} (pool : List (Held A)) (s : Paged) (at removed added : ℕ) (part : Part) → IsPaged A pool s → IsPart (sizes_of pool s.frames) at (at + removed) added part → s.total - removed + added < 2 ^ 64
    → All (λ x. x - removed + added < 2 ^ 64) (drop part.to s.firsts)
places_fit {A} pool s at removed added part paged is fits =
    let e : drop part.to s.firsts ≡ starts (0 + amount (take part.to (sizes_of pool s.frames))) (drop part.to (sizes_of pool s.frames)) = ap (drop part.to) paged.firsts ∙ starts_drop 0 (sizes_of pool s.frames) part.to in
    let le = is.to in
    let all = amount_split (sizes_of pool s.frames) part.to in
    subst (λ l. All (λ x. x - removed + added < 2 ^ 64) l) (sym e)
    (λ k d lt. let h = starts_to (0 + amount (take part.to (sizes_of pool s.frames))) (drop part.to (sizes_of pool s.frames)) k d lt in omega (arith, h, le, all, paged.total, fits))

pub first_place : {A : Type 0} (pool : List (Held A)) (s : Paged) (slice : List ℕ) (from first : ℕ) → IsPaged A pool s → slice ≡ s.firsts → first ≡ place_of slice s.total from → first ≡ amount (take from (sizes_of pool s.frames))
first_place pool s slice from first paged e is = is ∙ place_amount slice s.total from (directory_as pool s slice paged e)

pub rewritten : {A : Type 0} (old mid new : List (Held A)) (s : Paged) (at removed : ℕ) (items middle : List A) (part : Part) (slice fresh places fresh_slice place_slice frames firsts : List ℕ) (first : ℕ) → IsPaged A old s → at + removed ≤ s.total
    → IsChange (sizes_of old s.frames) at (at + removed) (length items) part
    → middle ≡ gathered (items_of old s.frames) (amount (take part.from (sizes_of old s.frames))) at items (at + removed) (amount (take part.to (sizes_of old s.frames)))
    → HasMoved A old mid (take (part.to - part.from) (drop part.from slice)) [] → slice ≡ s.frames → Taken A mid new first middle fresh places → first ≡ amount (take part.from (sizes_of old s.frames))
    → fresh_slice ≡ fresh → place_slice ≡ places
    → frames ≡ take part.from s.frames ++ (fresh_slice ++ drop part.to s.frames) → firsts ≡ take part.from s.firsts ++ (place_slice ++ map (λ x. x - removed + length items) (drop part.to s.firsts))
    → IsChanged A old new s (record { frames = frames; firsts = firsts; total = s.total - removed + length items }) (spliced at removed items (items_of old s.frames))
rewritten {A} old mid new s at removed items middle part slice fresh places fresh_slice place_slice frames firsts first paged within change e released same taken is e1 e2 a b =
    let w : Splice A old mid new s at removed items middle part fresh places = record {
      paged = paged;
      within = within;
      change = change;
      middle_is = e;
      released = subst (λ l. HasMoved A old mid (take (part.to - part.from) (drop part.from l)) []) same released;
      taken = subst (λ n. Taken A mid new n middle fresh places) is taken;
    } in
    let c = splice_is old mid new s at removed items middle part fresh places w in
    let a2 : take part.from s.frames ++ (fresh ++ drop part.to s.frames) ≡ frames = ap (λ l. take part.from s.frames ++ (l ++ drop part.to s.frames)) (sym e1) ∙ sym a in
    let b2 : take part.from s.firsts ++ (places ++ map (λ x. x - removed + length items) (drop part.to s.firsts)) ≡ firsts =
    ap (λ l. take part.from s.firsts ++ (l ++ map (λ x. x - removed + length items) (drop part.to s.firsts))) (sym e2) ∙ sym b in
    subst (λ l. IsChanged A old new s (record { frames = l; firsts = firsts; total = s.total - removed + length items }) (spliced at removed items (items_of old s.frames))) a2
    (subst (λ l. IsChanged A old new s (record { frames = take part.from s.frames ++ (fresh ++ drop part.to s.frames); firsts = l; total = s.total - removed + length items }) (spliced at removed items (items_of old s.frames))) b2 c)

pub as_many_places : {A : Type 0} (old new : List (Held A)) (first : ℕ) (items : List A) (frames firsts : List ℕ) → Taken A old new first items frames firsts → length firsts ≡ chunks (length items)
as_many_places old new first items frames firsts t = ap (λ (l : List ℕ). length l) t.firsts_are ∙ length_starts first (sizes_of new frames) ∙ many_sizes new frames ∙ t.many
