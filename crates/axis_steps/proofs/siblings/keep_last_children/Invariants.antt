use Rattle.std.proofs.Common.{◌≡◌, ◌≤◌, drop, length}
use Rattle.std.specs.List.{All}
use Rattle.tree_model.specs.declared.axis.Axis.TheVariants.{PrecedingSibling}
use Rattle.frame_pool.specs.Meters.{HasRead}
use Rattle.axis_steps.specs.Siblings.{IsKept}
use Rattle.axis_steps.specs.Steps.{Keeps}
use Rattle.axis_steps.proofs.siblings.keep_last_children.Given as goal

abbrev pub invariant-loop-at : goal.invariant-loop-at
invariant-loop-at l = record {
  within : l.at ≤ length l.places;
  keeps : Keeps l.fn.reader PrecedingSibling (drop l.at l.places) l.children.kept.items;
  last : All (IsKept l.fn.reader l.children.kept.items) l.children.last.items;
  rows : l.reader ≡ l.fn.reader;
  meter : HasRead l.fn.meter l.meter;
}

abbrev pub decreases-loop-at : goal.decreases-loop-at
decreases-loop-at l = l.at
