use Rattle.std.proofs.Common.{◌≡◌, ◌<◌, ◌≤◌, ◌+◌, length}
use Rattle.node_table.specs.Laid.{row_at, size_at}
use Rattle.frame_pool.specs.Meters.{HasRead}
use Rattle.axis_steps.proofs.keep.end_of_tree.Given as goal

abbrev pub invariant-loop-row : goal.invariant-loop-row
invariant-loop-row l = record {
  within : l.at < length l.fn.reader;
  row : l.row ≡ row_at l.fn.reader l.at;
  before : l.at ≤ l.place;
  holds : l.place < l.at + size_at l.fn.reader l.at;
  rows : l.reader ≡ l.fn.reader;
  meter : HasRead l.fn.meter l.meter;
}

abbrev pub decreases-loop-row : goal.decreases-loop-row
decreases-loop-row l = l.at
