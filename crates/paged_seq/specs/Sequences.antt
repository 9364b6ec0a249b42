-- A sequence and its pool, seen together as one list.
use Rattle.std.specs.Prelude.{◌≡◌, Bool, true, false, ℕ, ◌+◌, ◌-◌, ◌<◌, ◌≤◌, List, [], ◌++◌, length, map, take, drop}
use Rattle.std.proofs.Common.{get_or}
use Rattle.std.specs.List.{flat_map, AllWithin}
use Rattle.frame_pool.specs.Frames.{Held, held_at, items_at, count_at, times, SparesAreEmpty}
use Rattle.frame_pool.specs.declared.meter.Meter.{Meter}
use Rattle.paged_seq.specs.Sizes.{amount, starts, ArePacked, last_or, first_chunk, last_chunk, chunks}

-- what a sequence holds: the numbers of its frames, the place of the first item of each, and the number of all items
pub record Paged : Type 0 where
  pub frames : List ℕ
  pub firsts : List ℕ
  pub total : ℕ

abbrev pub items_of : {A : Type 0} → List (Held A) → List ℕ → List A
items_of pool frames = flat_map (items_at pool) frames

abbrev pub sizes_of : {A : Type 0} → List (Held A) → List ℕ → List ℕ
sizes_of pool frames = map (λ f. length (items_at pool f)) frames

-- the one list
abbrev pub paged_items : {A : Type 0} → List (Held A) → Paged → List A
paged_items pool s = items_of pool s.frames

-- items are those of a list from a place on
abbrev pub LieFrom : {A : Type 0} → List A → ℕ → List A → Type 0
LieFrom {A} all first items = (i : ℕ) (d : A) → first ≤ i → i < first + length items → get_or all i d ≡ get_or items (i - first) d

-- the frame is in the map, with 1 to 256 items
pub record IsFrame (A : Type 0) (pool : List (Held A)) (f : ℕ) : Type 0 where
  pub held : 0 < count_at pool f
  pub some : 0 < length (items_at pool f)
  pub few : length (items_at pool f) ≤ 256

-- the directory is one over this pool
pub record IsPaged (A : Type 0) (pool : List (Held A)) (s : Paged) : Type 0 where
  pub held : (f : ℕ) → 0 < times f s.frames → IsFrame A pool f
  pub once : (f : ℕ) → times f s.frames ≤ 1
  pub firsts : s.firsts ≡ starts 0 (sizes_of pool s.frames)
  pub total : s.total ≡ amount (sizes_of pool s.frames)
  pub packed : ArePacked 256 (sizes_of pool s.frames)

-- directories name some frames no longer and others anew: the counts say so, and what something else names too keeps its items
pub record HasMoved (A : Type 0) (old new : List (Held A)) (before after : List ℕ) : Type 0 where
  pub counts : (f : ℕ) → count_at new f + times f before ≡ count_at old f + times f after
  pub kept : (f : ℕ) → times f before < count_at old f → items_at new f ≡ items_at old f
  pub empty : SparesAreEmpty old → SparesAreEmpty new

-- the map is the same
abbrev pub HasSameFrames : {A : Type 0} → List (Held A) → List (Held A) → Type 0
HasSameFrames old new = (f : ℕ) → held_at new f ≡ held_at old f

-- a count of each frame is the number of times that directories name it
abbrev pub IsAccounted : {A : Type 0} → List (Held A) → List ℕ → Type 0
IsAccounted pool named = (f : ℕ) → count_at pool f ≡ times f named

-- at most so many frames were written, no row was read, and no count was lowered
pub record WritesAtMost (n : ℕ) (old new : Meter) : Type 0 where
  pub most : new.frames_written ≤ old.frames_written + n
  pub least : old.frames_written ≤ new.frames_written
  pub rows : new.rows_read ≡ old.rows_read

-- items were put into frames that were spare
pub record Taken (A : Type 0) (old new : List (Held A)) (first : ℕ) (items : List A) (frames firsts : List ℕ) : Type 0 where
  pub moved : HasMoved A old new [] frames
  pub unused : (f : ℕ) → 0 < times f frames → count_at old f ≡ 0
  pub once : (f : ℕ) → times f frames ≤ 1
  pub held : (f : ℕ) → 0 < times f frames → IsFrame A new f
  pub items_are : items_of new frames ≡ items
  pub firsts_are : firsts ≡ starts first (sizes_of new frames)
  pub packed : (l : ℕ) → 256 < l + first_chunk (length items) → ArePacked l (sizes_of new frames)
  pub last : (l : ℕ) → 0 < length items → last_or l (sizes_of new frames) ≡ last_chunk (length items)
  pub many : length frames ≡ chunks (length items)

-- the items from one place up to another, others, and those from a third place up to a fourth
abbrev pub gathered : {A : Type 0} → List A → ℕ → ℕ → List A → ℕ → ℕ → List A
gathered all from at items end to = take (at - from) (drop from all) ++ (items ++ take (to - end) (drop end all))

-- items in the place of others
abbrev pub spliced : {A : Type 0} → ℕ → ℕ → List A → List A → List A
spliced at removed items all = take at all ++ (items ++ drop (at + removed) all)

-- what a change of a sequence leaves
pub record IsChanged (A : Type 0) (old new : List (Held A)) (s t : Paged) (items : List A) : Type 0 where
  pub paged : IsPaged A new t
  pub items_are : paged_items new t ≡ items
  pub moved : HasMoved A old new s.frames t.frames

-- a sequence that something else changes beside is over the new pool what it was over the old one
pub record Stays (A : Type 0) (old new : List (Held A)) (s : Paged) : Type 0 where
  pub paged : IsPaged A new s
  pub items : paged_items new s ≡ paged_items old s

-- what a reader has of a sequence: the items of a frame and the place of the first of them, or no items
pub record IsReading (A : Type 0) (pool : List (Held A)) (s : Paged) (first : ℕ) (items : List A) : Type 0 where
  pub paged : IsPaged A pool s
  pub lie : LieFrom (paged_items pool s) first items

-- all items before one place pass a test, and none from another on
pub record IsBracket (A : Type 0) (p : A → Bool) (items : List A) (low high : ℕ) : Type 0 where
  pub pass : AllWithin (λ y. p y ≡ true) items 0 low
  pub fail : AllWithin (λ y. p y ≡ false) items high (length items)
