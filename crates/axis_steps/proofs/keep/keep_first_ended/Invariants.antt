use Rattle.std.proofs.Common.{◌≡◌, take}
use Rattle.tree_model.specs.declared.axis.Axis.TheVariants.{Following}
use Rattle.frame_pool.specs.Meters.{HasRead}
use Rattle.axis_steps.specs.Keeping.{IsEnded, ended_places}
use Rattle.axis_steps.specs.Steps.{Keeps}
use Rattle.axis_steps.proofs.keep.keep_first_ended.Given as goal

abbrev pub invariant-loop-place : goal.invariant-loop-place
invariant-loop-place l = record {
  last : IsEnded l.fn.reader l.last;
  keeps : Keeps l.fn.reader Following (take l.place-index l.places) (ended_places l.last l.kept.items);
  rows : l.reader ≡ l.fn.reader;
  meter : HasRead l.fn.meter l.meter;
}
