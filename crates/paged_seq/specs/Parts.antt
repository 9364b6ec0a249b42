-- A directory, and what a change of it needs.
use Rattle.std.specs.Prelude.{◌≡◌, ℕ, ◌+◌, ◌≤◌, List, [], length, take, vec_capacity}
use Rattle.frame_pool.specs.Frames.{Held}
use Rattle.paged_seq.specs.Sizes.{amount, chunks}
use Rattle.paged_seq.specs.Sequences.{Paged, items_of, sizes_of, gathered}
use Rattle.paged_seq.specs.declared.change.Ready.{Ready}
use Rattle.paged_seq.specs.declared.part.Directory.{Directory}
use Rattle.paged_seq.specs.declared.part.Part.{Part}

abbrev pub paged_of : Directory → Paged
paged_of d = record { frames = d.frames.items; firsts = d.firsts.items; total = d.len }

-- the items that lie in the place of a part after a change: those before it, the new ones, and those behind it
abbrev pub middle_of : {A : Type 0} → List (Held A) → List ℕ → Part → ℕ → ℕ → List A → List A
middle_of pool frames part at removed items = gathered (items_of pool frames) (amount (take part.from (sizes_of pool frames))) at items (at + removed) (amount (take part.to (sizes_of pool frames)))

-- these items are there, and there is room for the numbers and places of their frames
pub record IsReady (A : Type 0) (items : List A) (ready : Ready A) : Type 0 where
  pub items_are : ready.items.items ≡ items
  pub no_frames : ready.frames.items ≡ []
  pub no_places : ready.places.items ≡ []
  pub frame_room : chunks (length ready.items.items) ≤ vec_capacity ready.frames
  pub place_room : chunks (length ready.items.items) ≤ vec_capacity ready.places
