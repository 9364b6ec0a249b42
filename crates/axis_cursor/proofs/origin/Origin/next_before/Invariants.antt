use Rattle.std.proofs.Common.{◌≡◌, ℕ, ◌<◌, ◌≤◌, false}
use Rattle.axis_cursor.specs.Walks.{IsAside, is_node_aside}
use Rattle.frame_pool.specs.Meters.{HasRead}
use Rattle.axis_cursor.proofs.origin.Origin.next_before.Given as goal

abbrev pub invariant-loop-at : goal.invariant-loop-at
invariant-loop-at l = record {
  at : IsAside l.fn.reader l.fn.self.context l.at l.above;
  back : l.at ≤ l.fn.at;
  passed : (k : ℕ) → l.at ≤ k → k < l.fn.at → is_node_aside l.fn.reader l.fn.self.context k ≡ false;
  rows : l.reader ≡ l.fn.reader;
  meter : HasRead l.fn.meter l.meter;
}

abbrev pub decreases-loop-at : goal.decreases-loop-at
decreases-loop-at l = l.at
