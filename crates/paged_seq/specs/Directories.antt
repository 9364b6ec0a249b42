-- Places in a directory.
use Rattle.std.specs.Prelude.{◌≡◌, ℕ, ◌+◌, ◌-◌, ◌/◌, ◌<◌, ◌≤◌, max, List, length}
use Rattle.std.proofs.Common.{get_or, take, drop}
use Rattle.paged_seq.specs.Sizes.{amount, starts, ArePacked, last_or, AreSizes, first_chunk, last_chunk, chunks}
use Rattle.paged_seq.specs.declared.part.Part.{Part}

-- the place of a frame's first item; behind the last frame it is the number of all items
abbrev pub place_of : List ℕ → ℕ → ℕ → ℕ
place_of firsts len k = get_or firsts k len

-- the sizes that the places say
pub record IsDirectory (firsts : List ℕ) (len : ℕ) : Type 0 where
  pub sizes : List ℕ
  pub firsts_are : firsts ≡ starts 0 sizes
  pub len_is : len ≡ amount sizes
  pub fit : AreSizes sizes
  pub packed : ArePacked 256 sizes

-- a frame that holds a place, or the end
pub record Holds (firsts : List ℕ) (len : ℕ) (at : ℕ) (k : ℕ) : Type 0 where
  pub within : k ≤ length firsts
  pub from : place_of firsts len k ≤ at
  pub before : k < length firsts → at < place_of firsts len (k + 1)

-- ---- what a change touches

-- frames from one to another make room; so many items then lie in their place, which are those before a place, the new ones,
-- and those behind another place
pub record IsPart (sizes : List ℕ) (at : ℕ) (end : ℕ) (added : ℕ) (part : Part) : Type 0 where
  pub order : part.from ≤ part.to
  pub within : part.to ≤ length sizes
  pub from : amount (take part.from sizes) ≤ at
  pub to : end ≤ amount (take part.to sizes)
  pub size : part.size ≡ (at - amount (take part.from sizes)) + added + (amount (take part.to sizes) - end)

-- one part is another with more frames
pub record IsWider (sizes : List ℕ) (part : Part) (wider : Part) : Type 0 where
  pub from : wider.from ≤ part.from
  pub to : part.to ≤ wider.to
  pub within : wider.to ≤ length sizes
  pub size : wider.size + amount (take wider.from sizes) + amount (take part.to sizes) ≡ part.size + amount (take part.from sizes) + amount (take wider.to sizes)

-- what is put there goes with the frame before
pub record JoinsLeft (sizes : List ℕ) (part : Part) : Type 0 where
  pub left : 0 < part.size → 256 < last_or 256 (take part.from sizes) + first_chunk part.size
  pub empty : part.size ≡ 0 → ArePacked (last_or 256 (take part.from sizes)) (drop part.to sizes)

-- and with those behind
pub record Joins (sizes : List ℕ) (part : Part) : Type 0 where
  pub left : 0 < part.size → 256 < last_or 256 (take part.from sizes) + first_chunk part.size
  pub empty : part.size ≡ 0 → ArePacked (last_or 256 (take part.from sizes)) (drop part.to sizes)
  pub right : 0 < part.size → ArePacked (last_chunk part.size) (drop part.to sizes)

pub record WidensLeft (sizes : List ℕ) (part : Part) (wider : Part) : Type 0 where
  pub is : IsWider sizes part wider
  pub joins : JoinsLeft sizes wider
  pub few : wider.size ≤ max part.size 512

pub record WidensRight (sizes : List ℕ) (part : Part) (wider : Part) : Type 0 where
  pub is : IsWider sizes part wider
  pub joins : Joins sizes wider
  pub few : chunks wider.size ≤ chunks part.size

pub record IsChange (sizes : List ℕ) (at : ℕ) (end : ℕ) (added : ℕ) (part : Part) : Type 0 where
  pub is : IsPart sizes at end added part
  pub joins : Joins sizes part
  pub few : chunks part.size ≤ added / 128 + 3

-- the first frame that doesn't begin before a place
pub record HoldsEnd (firsts : List ℕ) (len : ℕ) (end : ℕ) (k : ℕ) : Type 0 where
  pub within : k ≤ length firsts
  pub to : end ≤ place_of firsts len k
  pub near : place_of firsts len k ≤ end + 255

pub record IsFirstPart (sizes : List ℕ) (at : ℕ) (end : ℕ) (added : ℕ) (part : Part) : Type 0 where
  pub is : IsPart sizes at end added part
  pub small : part.size ≤ added + 510
