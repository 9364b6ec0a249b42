use Rattle.std.proofs.Common.{◌≡◌, take}
use Rattle.std.specs.List.{All}
use Rattle.tree_model.specs.declared.axis.Axis.TheVariants.{FollowingSibling}
use Rattle.frame_pool.specs.Meters.{HasRead}
use Rattle.axis_steps.specs.Siblings.{IsKept}
use Rattle.axis_steps.specs.Steps.{Keeps}
use Rattle.axis_steps.proofs.siblings.keep_first_children.Given as goal

abbrev pub invariant-loop-place : goal.invariant-loop-place
invariant-loop-place l = record {
  keeps : Keeps l.fn.reader FollowingSibling (take l.place-index l.places) l.children.kept.items;
  last : All (IsKept l.fn.reader l.children.kept.items) l.children.last.items;
  rows : l.reader ≡ l.fn.reader;
  meter : HasRead l.fn.meter l.meter;
}
