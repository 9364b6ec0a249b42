-- Items go into spare frames, one after the other.
use Rattle.std.proofs.Common.{◌≡◌, ℕ, zero, suc, ◌+◌, ◌-◌, ◌*◌, ◌/◌, ◌%◌, ◌<◌, ◌≤◌, ◌⊎◌, inl, inr, min, List, [], ◌∷◌, ◌++◌, length, take, drop, refl, sym, ap, ap₂, ◌∙◌, subst, arith, append_assoc}
use Rattle.std.proofs.lemmas.Bool.{cases_lt, cases_eq}
use Rattle.std.proofs.lemmas.List.{length-drop, length-take, length_push, take_all, append-nil}
use Rattle.frame_pool.specs.Frames.{Held, items_at, count_at, held_at, times, with_frame, spare_of}
use Rattle.frame_pool.proofs.Counts.{here_same, here_other, times_push, held_same, held_other, spare_set, vacancy_none}
use Rattle.paged_seq.specs.Sizes.{amount, starts, ArePacked, last_or, first_chunk, last_chunk, chunks}
use Rattle.paged_seq.specs.Sequences.{HasMoved, Taken, IsFrame, items_of, sizes_of}
use Rattle.paged_seq.proofs.Amounts.{starts_append, length_starts}
use Rattle.paged_seq.proofs.Items.{length_items, many_sizes}
use Rattle.paged_seq.proofs.Chunks.{Way, way, one, two, more}
use Rattle.paged_seq.proofs.Packing.{packed_join, last_append}
use Rattle.paged_seq.proofs.Names.{moved_take, same_sizes, same_items, unmoved}

-- ---- the numbers

pub record Progress (m done k : ℕ) : Type 0 where
  pub small : m ≤ 512 → done < m → ((done ≡ 0) × (k ≡ 0)) ⊎ ((done ≡ first_chunk m) × (k ≡ 1) × (256 < m))
  pub large : 512 < m → done < m → done ≡ 256 * k
  pub closed : done ≡ m → k ≡ chunks m

pub record Step (m done k end : ℕ) : Type 0 where
  pub next : Progress m end (k + 1)
  pub some : 0 < end - done
  pub few : end - done ≤ 256
  pub beside : 0 < k → 256 < first_chunk m + (end - done)
  pub opening : k ≡ 0 → end - done ≡ first_chunk m
  pub open_size : end < m → end - done ≡ first_chunk m
  pub closed : end ≡ m → end - done ≡ last_chunk m
  pub spare : k < chunks m

pub progress_start : (m : ℕ) → Progress m 0 0
progress_start m = record { small = λ _ _. inl (refl, refl); large = λ _ _. omega arith; closed = λ e. omega (arith, e) }

pub step : (m done k end : ℕ) → Progress m done k → done < m → end ≡ min m (done + first_chunk m) → Step m done k end
step m done k end p lt is = by (way m)
  where
    by_one : m ≤ 256 → first_chunk m ≡ m → last_chunk m ≡ m → ((done ≡ 0) × (k ≡ 0)) ⊎ ((done ≡ first_chunk m) × (k ≡ 1) × (256 < m)) → Step m done k end
    by_one le f l (inr q) = absurd (omega (arith, q.2))
    by_one le f l (inl q) =
        let a = q.0 in let b = q.1 in
        let e : end ≡ m = omega (arith, is, f, a) in
        record {
          next = record { small = λ _ less. absurd (omega (arith, less, e)); large = λ big _. absurd (omega (arith, big)); closed = λ _. omega (arith, a, b) };
          some = omega (arith, e, a);
          few = omega (arith, e, a);
          beside = λ pos. absurd (omega (arith, pos, b));
          opening = λ _. omega (arith, e, f, a);
          open_size = λ less. absurd (omega (arith, less, e));
          closed = λ _. omega (arith, e, l, a);
          spare = omega (arith, b);
        }

    by_two : 256 < m → m ≤ 512 → first_chunk m ≡ (m + 1) / 2 → last_chunk m ≡ m / 2 → ((done ≡ 0) × (k ≡ 0)) ⊎ ((done ≡ first_chunk m) × (k ≡ 1) × (256 < m)) → Step m done k end
    by_two gt le f l (inl q) =
        let a = q.0 in let b = q.1 in
        let e : end ≡ (m + 1) / 2 = omega (arith, is, f, a) in
        record {
          next = record { small = λ _ _. inr (omega (arith, e, f), omega (arith, b), gt); large = λ big _. absurd (omega (arith, big)); closed = λ same. absurd (omega (arith, same, e)) };
          some = omega (arith, e, a);
          few = omega (arith, e, a);
          beside = λ pos. absurd (omega (arith, pos, b));
          opening = λ _. omega (arith, e, f, a);
          open_size = λ _. omega (arith, e, f, a);
          closed = λ same. absurd (omega (arith, same, e));
          spare = omega (arith, b);
        }
    by_two gt le f l (inr q) =
        let a = q.0 in let b = q.1 in
        let e : end ≡ m = omega (arith, is, f, a) in
        record {
          next = record { small = λ _ less. absurd (omega (arith, less, e)); large = λ big _. absurd (omega (arith, big)); closed = λ _. omega (arith, b) };
          some = omega (arith, e, a, f);
          few = omega (arith, e, a, f);
          beside = λ _. omega (arith, e, a, f);
          opening = λ none. absurd (omega (arith, none, b));
          open_size = λ less. absurd (omega (arith, less, e));
          closed = λ _. omega (arith, e, a, f, l);
          spare = omega (arith, b);
        }

    by_more : 512 < m → first_chunk m ≡ 256 → last_chunk m ≡ (m - 1) % 256 + 1 → done ≡ 256 * k → Step m done k end
    by_more big f l d =
        record {
          next = record { small = λ le _. absurd (omega (arith, le)); large = λ _ less. omega (arith, less, is, f, d); closed = λ same. omega (arith, same, is, f, d) };
          some = omega (arith, is, f);
          few = omega (arith, is, f);
          beside = λ _. omega (arith, is, f);
          opening = λ none. omega (arith, none, is, f, d);
          open_size = λ less. omega (arith, less, is, f);
          closed = λ same. omega (arith, same, is, f, d, l);
          spare = omega (arith, d);
        }

    by : Way m → Step m done k end
    by (one le f l) = by_one le f l (p.small (omega arith) lt)
    by (two gt le f l) = by_two gt le f l (p.small le lt)
    by (more big f l) = by_more big f l (p.large big lt)

-- ---- the lists

pub items_append : {A : Type 0} (pool : List (Held A)) (xs ys : List ℕ) → items_of pool (xs ++ ys) ≡ items_of pool xs ++ items_of pool ys
items_append pool [] ys = refl
items_append pool (x ∷ xs) ys = ap (λ l. items_at pool x ++ l) (items_append pool xs ys) ∙ sym (append_assoc (items_at pool x) (items_of pool xs) (items_of pool ys))

pub sizes_append : {A : Type 0} (pool : List (Held A)) (xs ys : List ℕ) → sizes_of pool (xs ++ ys) ≡ sizes_of pool xs ++ sizes_of pool ys
sizes_append pool [] ys = refl
sizes_append {A} pool (x ∷ xs) ys = ap (λ l. length (items_at pool x) ∷ l) (sizes_append pool xs ys)

take_nil : {A : Type 0} (n : ℕ) → ◌≡◌ {A = List A} (take n []) []
take_nil zero = refl
take_nil (suc n) = refl

take_further : {A : Type 0} (items : List A) (a b : ℕ) → a ≤ b → take a items ++ take (b - a) (drop a items) ≡ take b items
take_further [] zero b le = take_nil (b - 0) ∙ sym (take_nil b)
take_further [] (suc a) b le = take_nil (b - suc a) ∙ sym (take_nil b)
take_further (x ∷ items) zero b le = ap (λ n. take n (x ∷ items)) (omega arith)
take_further (x ∷ items) (suc a) zero le = absurd (omega arith)
take_further (x ∷ items) (suc a) (suc b) le = ap (λ l. x ∷ l) (ap (λ n. take a items ++ take n (drop a items)) (omega arith) ∙ take_further items a b (omega arith))

pub record Taking (A : Type 0) (old pool : List (Held A)) (first at : ℕ) (items : List A) (done : ℕ) (frames firsts : List ℕ) : Type 0 where
  pub moved : HasMoved A old pool [] frames
  pub unused : (f : ℕ) → 0 < times f frames → count_at old f ≡ 0
  pub once : (f : ℕ) → times f frames ≤ 1
  pub held : (f : ℕ) → 0 < times f frames → IsFrame A pool f
  pub items_are : items_of pool frames ≡ take done items
  pub firsts_are : firsts ≡ starts first (sizes_of pool frames)
  pub at_is : at ≡ first + done
  pub packed : (l : ℕ) → 256 < l + first_chunk (length items) → ArePacked l (sizes_of pool frames)
  pub last_open : (l : ℕ) → done < length items → 0 < length frames → last_or l (sizes_of pool frames) ≡ first_chunk (length items)
  pub last_closed : (l : ℕ) → done ≡ length items → 0 < length items → last_or l (sizes_of pool frames) ≡ last_chunk (length items)
  pub within : done ≤ length items
  pub progress : Progress (length items) done (length frames)
  pub spare : spare_of old ≤ spare_of pool + length frames

pub taking_start : {A : Type 0} (pool : List (Held A)) (first : ℕ) (items : List A) → Taking A pool pool first first items 0 [] []
taking_start pool first items = record {
  moved = unmoved pool;
  unused = λ f lt. absurd (omega (arith, lt));
  once = λ f. omega arith;
  held = λ f lt. absurd (omega (arith, lt));
  items_are = refl;
  firsts_are = refl;
  at_is = omega arith;
  packed = λ l _. tt;
  last_open = λ l _ lt. absurd (omega (arith, lt));
  last_closed = λ l e lt. absurd (omega (arith, e, lt));
  within = omega arith;
  progress = progress_start (length items);
  spare = omega arith;
}

pub taking_done : {A : Type 0} (old pool : List (Held A)) (first at : ℕ) (items : List A) (done : ℕ) (frames firsts : List ℕ) → Taking A old pool first at items done frames firsts → length items ≤ done → Taken A old pool first items frames firsts
taking_done {A} old pool first at items done frames firsts t le =
    let all : done ≡ length items = omega (arith, t.within) in
    record {
      moved = t.moved;
      unused = t.unused;
      once = t.once;
      held = t.held;
      items_are = t.items_are ∙ take_all done items le;
      firsts_are = t.firsts_are;
      packed = t.packed;
      last = λ l some. t.last_closed l all some;
      many = t.progress.closed all;
    }

last_none : {A : Type 0} (pool : List (Held A)) (frames : List ℕ) (l : ℕ) → length frames ≡ 0 → last_or l (sizes_of pool frames) ≡ l
last_none pool [] l e = refl
last_none pool (f ∷ frames) l e = absurd (omega (arith, e))

pub taking_step : {A : Type 0} (old pool : List (Held A)) (first at : ℕ) (items : List A) (done : ℕ) (frames firsts : List ℕ) (end f : ℕ) → Taking A old pool first at items done frames firsts → done < length items
    → end ≡ min (length items) (done + first_chunk (length items)) → count_at pool f ≡ 0 → f < length pool
    → Taking A old (with_frame pool f (take (end - done) (drop done items)) 1) first (at + (end - done)) items end (frames ++ f ∷ []) (firsts ++ at ∷ [])
taking_step {A} old pool first at items done frames firsts end f t lt is none within =
    let s = step (length items) done (length frames) end t.progress lt is in
    let small : end - done ≤ length items - done = omega (arith, is) in
    let size : length (take (end - done) (drop done items)) ≡ end - done = length-take (end - done) (drop done items) ∙ omega (arith, length-drop done items, small) in
    let never = t.moved.counts f in
    let clean : times f frames ≡ 0 = omega (arith, never, none) in
    let old_none : count_at old f ≡ 0 = omega (arith, never, none) in
    let mine = held_same pool f f (record { items = take (end - done) (drop done items); count = 1 }) within refl in
    let here_items : items_at (with_frame pool f (take (end - done) (drop done items)) 1) f ≡ take (end - done) (drop done items) = ap (λ (h : Held A). h.items) mine in
    let others : (g : ℕ) → 0 < times g frames → items_at (with_frame pool f (take (end - done) (drop done items)) 1) g ≡ items_at pool g =
    λ g some. ap (λ (h : Held A). h.items) (held_other pool f g (record { items = take (end - done) (drop done items); count = 1 }) (λ e. absurd (omega (arith, some, clean, ap (λ k. times k frames) e)))) in
    let sizes : sizes_of (with_frame pool f (take (end - done) (drop done items)) 1) (frames ++ f ∷ []) ≡ sizes_of pool frames ++ (end - done) ∷ [] =
    sizes_append (with_frame pool f (take (end - done) (drop done items)) 1) frames (f ∷ [])
    ∙ ap₂ (λ l n. l ++ n ∷ []) (same_sizes pool (with_frame pool f (take (end - done) (drop done items)) 1) frames others) (ap (λ (l : List A). length l) here_items ∙ size) in
    let so_far : amount (sizes_of pool frames) ≡ done =
    sym (length_items pool frames) ∙ ap (λ (l : List A). length l) t.items_are ∙ length-take done items ∙ omega (arith, t.within) in
    let last_is : (l : ℕ) → last_or l (sizes_of (with_frame pool f (take (end - done) (drop done items)) 1) (frames ++ f ∷ [])) ≡ end - done =
    λ l. ap (last_or l) sizes ∙ last_append l (sizes_of pool frames) ((end - done) ∷ []) in
    record {
      moved = moved_take old pool [] frames f (take (end - done) (drop done items)) t.moved none within;
      unused = λ g some. unused g some clean old_none (cases_eq g f);
      once = λ g. once g clean (cases_eq g f);
      held = λ g some. held g some mine size s.some s.few (cases_eq g f);
      items_are = items_append (with_frame pool f (take (end - done) (drop done items)) 1) frames (f ∷ [])
          ∙ ap₂ (λ x y. x ++ y) (same_items pool (with_frame pool f (take (end - done) (drop done items)) 1) frames others ∙ t.items_are) (append-nil (items_at (with_frame pool f (take (end - done) (drop done items)) 1) f) ∙ here_items)
          ∙ take_further items done end (omega (arith, s.some));
      firsts_are = ap₂ (λ l n. l ++ n ∷ []) t.firsts_are (omega (arith, t.at_is, so_far)) ∙ sym (starts_append first (sizes_of pool frames) ((end - done) ∷ [])) ∙ ap (starts first) (sym sizes);
      at_is = omega (arith, t.at_is, s.some);
      packed = λ l fits. subst (ArePacked l) (sym sizes) (packed_join l (sizes_of pool frames) ((end - done) ∷ []) (t.packed l fits) (beside l fits s (cases_lt 0 (length frames)), tt));
      last_open = λ l less _. last_is l ∙ s.open_size less;
      last_closed = λ l same _. last_is l ∙ s.closed same;
      within = omega (arith, is);
      progress = subst (Progress (length items) end) (sym (length_push frames f)) s.next;
      spare = omega (arith, t.spare, length_push frames f, spare_set pool f (record { items = take (end - done) (drop done items); count = 1 }) within, vacancy_none (count_at pool f) none);
    }
  where
    unused : (g : ℕ) → 0 < times g (frames ++ f ∷ []) → times f frames ≡ 0 → count_at old f ≡ 0 → (g ≡ f) ⊎ (g ≡ f → ⊥) → count_at old g ≡ 0
    unused g some clean old_none (inl e) = ap (count_at old) e ∙ old_none
    unused g some clean old_none (inr ne) = t.unused g (omega (arith, some, times_push g f frames, here_other g f ne))

    once : (g : ℕ) → times f frames ≡ 0 → (g ≡ f) ⊎ (g ≡ f → ⊥) → times g (frames ++ f ∷ []) ≤ 1
    once g clean (inl e) = omega (arith, times_push g f frames, here_same g f e, clean, ap (λ k. times k frames) e)
    once g clean (inr ne) = omega (arith, times_push g f frames, here_other g f ne, t.once g)

    held : (g : ℕ) → 0 < times g (frames ++ f ∷ []) → held_at (with_frame pool f (take (end - done) (drop done items)) 1) f ≡ record { items = take (end - done) (drop done items); count = 1 }
        → length (take (end - done) (drop done items)) ≡ end - done → 0 < end - done → end - done ≤ 256 → (g ≡ f) ⊎ (g ≡ f → ⊥) → IsFrame A (with_frame pool f (take (end - done) (drop done items)) 1) g
    held g some mine size pos few (inl e) =
        let n = ap (λ (h : Held A). length h.items) mine in
        let k = ap (λ (h : Held A). h.count) mine in
        subst (IsFrame A (with_frame pool f (take (end - done) (drop done items)) 1)) (sym e)
        (record { held = omega (arith, k); some = omega (arith, n, size, pos); few = omega (arith, n, size, few) })
    held g some mine size pos few (inr ne) =
        let same = held_other pool f g (record { items = take (end - done) (drop done items); count = 1 }) ne in
        let n = ap (λ (h : Held A). length h.items) same in
        let k = ap (λ (h : Held A). h.count) same in
        let frame = t.held g (omega (arith, some, times_push g f frames, here_other g f ne)) in
        record { held = omega (arith, k, frame.held); some = omega (arith, n, frame.some); few = omega (arith, n, frame.few) }

    beside : (l : ℕ) → 256 < l + first_chunk (length items) → Step (length items) done (length frames) end → (0 < length frames) ⊎ (length frames ≤ 0) → 256 < last_or l (sizes_of pool frames) + (end - done)
    beside l fits s (inl some) = omega (arith, t.last_open l lt some, s.beside some)
    beside l fits s (inr le) = omega (arith, last_none pool frames l (omega arith), s.opening (omega arith), fits)

-- ---- as the code says it

pub taking_start_as : {A : Type 0} (pool : List (Held A)) (first : ℕ) (items : List A) (frames firsts : List ℕ) → frames ≡ [] → firsts ≡ [] → Taking A pool pool first first items 0 frames firsts
taking_start_as {A} pool first items frames firsts e f =
    subst (λ l. Taking A pool pool first first items 0 l firsts) (sym e) (subst (λ l. Taking A pool pool first first items 0 [] l) (sym f) (taking_start pool first items))

pub taking_more : {A : Type 0} (old pool new : List (Held A)) (first at : ℕ) (items : List A) (done size : ℕ) (frames firsts more_frames more_firsts : List ℕ) (end f : ℕ) → Taking A old pool first at items done frames firsts → done < length items
    → size ≡ first_chunk (length items) → end ≡ min (length items) (done + size) → count_at pool f ≡ 0 → f < length pool → new ≡ with_frame pool f (take (end - done) (drop done items)) 1
    → more_frames ≡ frames ++ f ∷ [] → more_firsts ≡ firsts ++ at ∷ [] → Taking A old new first (at + (end - done)) items end more_frames more_firsts
taking_more {A} old pool new first at items done size frames firsts more_frames more_firsts end f t lt chunk is none within now fs gs =
    let s = taking_step old pool first at items done frames firsts end f t lt (is ∙ ap (λ n. min (length items) (done + n)) chunk) none within in
    subst (λ l. Taking A old l first (at + (end - done)) items end more_frames more_firsts) (sym now)
    (subst (λ l. Taking A old (with_frame pool f (take (end - done) (drop done items)) 1) first (at + (end - done)) items end l more_firsts) (sym fs)
    (subst (λ l. Taking A old (with_frame pool f (take (end - done) (drop done items)) 1) first (at + (end - done)) items end (frames ++ f ∷ []) l) (sym gs) s))

-- there is room and a spare frame for one more
pub record HasRoom (k : ℕ) (spare : ℕ) (n : ℕ) : Type 0 where
  pub fewer : k < n
  pub some : 0 < spare

pub taking_room : {A : Type 0} (old pool : List (Held A)) (first at : ℕ) (items : List A) (done : ℕ) (frames firsts : List ℕ) → Taking A old pool first at items done frames firsts → done < length items → chunks (length items) ≤ spare_of old
    → HasRoom (length frames) (spare_of pool) (chunks (length items))
taking_room old pool first at items done frames firsts t lt enough =
    let s = step (length items) done (length frames) (min (length items) (done + first_chunk (length items))) t.progress lt refl in
    record { fewer = s.spare; some = omega (arith, s.spare, t.spare, enough) }

pub taking_size : {A : Type 0} (old pool : List (Held A)) (first at : ℕ) (items : List A) (done : ℕ) (frames firsts : List ℕ) (size end : ℕ) → Taking A old pool first at items done frames firsts → done < length items
    → size ≡ first_chunk (length items) → end ≡ min (length items) (done + size) → Step (length items) done (length frames) end
taking_size old pool first at items done frames firsts size end t lt chunk is = step (length items) done (length frames) end t.progress lt (is ∙ ap (λ n. min (length items) (done + n)) chunk)

pub as_many : {A : Type 0} (old pool : List (Held A)) (first at : ℕ) (items : List A) (done : ℕ) (frames firsts : List ℕ) → Taking A old pool first at items done frames firsts → length firsts ≡ length frames
as_many old pool first at items done frames firsts t = ap (λ (l : List ℕ). length l) t.firsts_are ∙ length_starts first (sizes_of pool frames) ∙ many_sizes pool frames
