-- What the fields of a pool keep.
use Rattle.std.specs.Prelude.{◌≡◌, ℕ, ◌≤◌, List, [], length, map, vec_capacity}
use Rattle.std.proofs.Common.{get_or}
use Rattle.std.specs.List.{All}
use Rattle.frame_pool.specs.Frames.{Held, times, vacancy, spare_of, SparesAreEmpty}
use Rattle.frame_pool.specs.declared.frame.Frame.{Frame}

abbrev pub held_of : {A : Type 0} → Frame A → Held A
held_of frame = record { items = frame.items.items; count = frame.count }

-- 1 where the place has a spare frame
abbrev pub vacant : {A : Type 0} → List (Held A) → ℕ → ℕ
vacant pool f = vacancy (get_or pool f (record { items = []; count = 1 })).count

-- the free numbers are those of the spare frames, each once, and these have no items; there is room for all numbers, and in
-- each frame for 256 items
pub record IsPool (A : Type 0) (frames : List (Frame A)) (free : List ℕ) (room : ℕ) : Type 0 where
  pub free_once : (f : ℕ) → times f free ≡ vacant (map held_of frames) f
  pub free_many : length free ≡ spare_of (map held_of frames)
  pub free_empty : SparesAreEmpty (map held_of frames)
  pub free_room : length frames ≤ room
  pub frame_room : All (λ (f : Frame A). 256 ≤ vec_capacity f.items) frames
