use Rattle.std.proofs.Common.{◌≡◌, ◌+◌, ◌-◌, ◌*◌, ◌≤◌, ◌++◌, length}
use Rattle.axis_steps.proofs.TestRows.{pairs, flat_rows}
use Rattle.axis_steps.proofs.tests.side_by_side.Given as goal

abbrev pub invariant-loop-left : goal.invariant-loop-left
invariant-loop-left l = record {
  rows : l.rows.items ++ pairs (2 * (l.count - l.left) + 1) l.left ≡ flat_rows l.count;
  len : length l.rows.items + 2 * l.left ≡ 2 * l.count + 2;
  few : l.left ≤ l.count;
}

abbrev pub decreases-loop-left : goal.decreases-loop-left
decreases-loop-left l = l.left
