use Rattle.std.proofs.Common.{◌≡◌, take}
use Rattle.frame_pool.specs.Meters.{HasRead}
use Rattle.axis_steps.specs.Steps.{HasReached}
use Rattle.axis_steps.proofs.below.below_each.Given as goal

abbrev pub invariant-loop-place : goal.invariant-loop-place
invariant-loop-place l = record {
  reached : HasReached l.names l.fn.reader l.step (take l.place-index l.places) l.found.items;
  rows : l.reader ≡ l.fn.reader;
  meter : HasRead l.fn.meter l.meter;
}
