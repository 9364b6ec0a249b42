use Rattle.std.proofs.Common.{◌≡◌, take}
use Rattle.frame_pool.specs.Meters.{HasRead}
use Rattle.axis_steps.specs.Steps.{HasAncestors}
use Rattle.axis_steps.proofs.Standing.{IsLast}
use Rattle.axis_steps.proofs.climb.climb_each.Given as goal

abbrev pub invariant-loop-place : goal.invariant-loop-place
invariant-loop-place l = record {
  found : HasAncestors l.names l.fn.reader l.step (take l.place-index l.places) l.found.items;
  last : IsLast l.names l.fn.reader l.step (take l.place-index l.places) l.last;
  rows : l.reader ≡ l.fn.reader;
  meter : HasRead l.fn.meter l.meter;
}
