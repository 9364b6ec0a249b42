use Rattle.std.proofs.Common.{◌≡◌, ℕ, ◌-◌, ◌<◌, ◌≤◌, false, length}
use Rattle.axis_cursor.specs.Walks.{IsBeside, is_node_beside}
use Rattle.frame_pool.specs.Meters.{HasRead}
use Rattle.axis_cursor.proofs.origin.Origin.next_after.Given as goal

abbrev pub invariant-loop-at : goal.invariant-loop-at
invariant-loop-at l = record {
  at : IsBeside l.fn.reader l.fn.self.context l.at;
  forth : l.fn.at ≤ l.at;
  passed : (k : ℕ) → l.fn.at ≤ k → k < l.at → is_node_beside l.fn.reader l.fn.self.context k ≡ false;
  rows : l.reader ≡ l.fn.reader;
  meter : HasRead l.fn.meter l.meter;
}

abbrev pub decreases-loop-at : goal.decreases-loop-at
decreases-loop-at l = length l.fn.reader - l.at
