use Rattle.std.proofs.Common.{◌≡◌, ◌<◌, ◌≤◌, ◌+◌, length}
use Rattle.node_table.specs.Laid.{row_at, size_at}
use Rattle.frame_pool.specs.Meters.{HasRead}
use Rattle.axis_steps.proofs.Standing.{Climbing}
use Rattle.axis_steps.proofs.climb.push_above.Given as goal

abbrev pub invariant-loop-row : goal.invariant-loop-row
invariant-loop-row l = record {
  within : l.at < length l.fn.reader;
  row : l.row ≡ row_at l.fn.reader l.at;
  before : l.at ≤ l.place;
  holds : l.place < l.at + size_at l.fn.reader l.at;
  found : Climbing l.names l.fn.reader l.step l.place l.last l.at l.fn.found.items l.found.items;
  rows : l.reader ≡ l.fn.reader;
  meter : HasRead l.fn.meter l.meter;
}

abbrev pub decreases-loop-row : goal.decreases-loop-row
decreases-loop-row l = l.at
