use Rattle.std.proofs.Common.{◌≡◌, ◌++◌, length}
use Rattle.frame_pool.specs.Meters.{HasRead}
use Rattle.axis_steps.specs.Steps.{rows_of, axis_list}
use Rattle.axis_steps.proofs.walk.push_axis.Given as goal

abbrev pub invariant-loop-next : goal.invariant-loop-next
invariant-loop-next l = record {
  list : l.found.items ++ l.cursor ≡ l.fn.found.items ++ axis_list l.trees.names.now (rows_of l.trees) l.step l.place;
  meter : HasRead l.fn.meter l.meter;
}

abbrev pub decreases-loop-next : goal.decreases-loop-next
decreases-loop-next l = length l.cursor
