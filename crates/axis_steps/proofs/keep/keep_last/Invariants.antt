use Rattle.std.proofs.Common.{◌≡◌, take}
use Rattle.tree_model.specs.declared.axis.Axis.TheVariants.{Preceding}
use Rattle.frame_pool.specs.Meters.{HasRead}
use Rattle.axis_steps.specs.Keeping.{IsLatest, latest_places}
use Rattle.axis_steps.specs.Steps.{Keeps}
use Rattle.axis_steps.proofs.keep.keep_last.Given as goal

abbrev pub invariant-loop-place : goal.invariant-loop-place
invariant-loop-place l = record {
  last : IsLatest l.fn.reader l.last;
  keeps : Keeps l.fn.reader Preceding (take l.place-index l.places) (latest_places l.last l.kept.items);
  rows : l.reader ≡ l.fn.reader;
  meter : HasRead l.fn.meter l.meter;
}
