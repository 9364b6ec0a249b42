use Rattle.std.proofs.Common.{◌≡◌, take}
use Rattle.tree_model.specs.declared.axis.Axis.TheVariants.{Descendant, DescendantOrSelf}
use Rattle.frame_pool.specs.Meters.{HasRead}
use Rattle.axis_steps.specs.Keeping.{IsOpen}
use Rattle.axis_steps.specs.Steps.{Keeps}
use Rattle.axis_steps.proofs.keep.keep_outermost.Given as goal

abbrev pub invariant-loop-place : goal.invariant-loop-place
invariant-loop-place l = record {
  below : Keeps l.fn.reader Descendant (take l.place-index l.places) l.nodes.kept.items;
  or_self : Keeps l.fn.reader DescendantOrSelf (take l.place-index l.places) l.nodes.kept.items;
  last : IsOpen l.fn.reader l.nodes.kept.items l.nodes.start l.nodes.end;
  rows : l.reader ≡ l.fn.reader;
  meter : HasRead l.fn.meter l.meter;
}
