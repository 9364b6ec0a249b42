use Rattle.std.proofs.Common.{◌≡◌, ◌≤◌, ◌-◌}
use Rattle.frame_pool.specs.Meters.{HasRead}
use Rattle.axis_steps.specs.Steps.{HasRows}
use Rattle.axis_steps.proofs.below.push_rows.Given as goal

abbrev pub invariant-loop-at : goal.invariant-loop-at
invariant-loop-at l = record {
  from : l.from ≤ l.at;
  order : l.at ≤ l.end;
  pushed : HasRows l.names l.fn.reader l.step l.from l.at l.fn.found.items l.found.items;
  rows : l.reader ≡ l.fn.reader;
  meter : HasRead l.fn.meter l.meter;
}

abbrev pub decreases-loop-at : goal.decreases-loop-at
decreases-loop-at l = l.end - l.at
