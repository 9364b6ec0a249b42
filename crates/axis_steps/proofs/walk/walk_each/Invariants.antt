use Rattle.std.proofs.Common.{◌≡◌, take}
use Rattle.std.specs.List.{flat_map}
use Rattle.frame_pool.specs.Meters.{HasRead}
use Rattle.axis_steps.specs.Steps.{rows_of, axis_list}
use Rattle.axis_steps.proofs.walk.walk_each.Given as goal

abbrev pub invariant-loop-place : goal.invariant-loop-place
invariant-loop-place l = record {
  list : l.found.items ≡ flat_map (axis_list l.trees.names.now (rows_of l.trees) l.step) (take l.place-index l.places);
  meter : HasRead l.fn.meter l.meter;
}
