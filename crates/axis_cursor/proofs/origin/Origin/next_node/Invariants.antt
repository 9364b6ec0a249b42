use Rattle.std.proofs.Common.{◌≡◌, ℕ, ◌-◌, ◌<◌, ◌≤◌, false}
use Rattle.axis_cursor.specs.Walks.{IsAmong, is_node}
use Rattle.frame_pool.specs.Meters.{HasRead}
use Rattle.axis_cursor.proofs.origin.Origin.next_node.Given as goal

abbrev pub invariant-loop-at : goal.invariant-loop-at
invariant-loop-at l = record {
  at : IsAmong l.fn.reader l.at l.end;
  forth : l.fn.at ≤ l.at;
  passed : (k : ℕ) → l.fn.at ≤ k → k < l.at → is_node l.fn.reader k ≡ false;
  rows : l.reader ≡ l.fn.reader;
  meter : HasRead l.fn.meter l.meter;
}

abbrev pub decreases-loop-at : goal.decreases-loop-at
decreases-loop-at l = l.end - l.at
