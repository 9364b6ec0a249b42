use Rattle.std.proofs.Common.{◌∙◌}
use Rattle.node_table.specs.Views.{view_of, view_forest}
use Rattle.axis_cursor.proofs.Relations.{read_on}
use Rattle.axis_steps.specs.Steps.{rows_of}
use Rattle.axis_steps.proofs.Together.{path_step}
use Rattle.axis_steps.proofs.steps.path.Goals as goal

pub loop-first-preserved : goal.loop-first-preserved
loop-first-preserved c = record {
  within = c.in_ok-places.ensures.within;
  path = λ values trees.
      path_step (view_forest (view_of (rows_of c.args.trees.now) c.args.trees.now.names.now values)) trees.kinds c.loop-first.rest.now (c.in-Some.first, c.in-Some.more) c.loop-first.places.items c.in_ok-places.places.items
      (rw c.in-Some.is at c.first_step.ensures) (rw c.deref.ensures.value at (c.in_ok-places.ensures.step values trees))
      ∙ c.loop-first.invariant.path values trees;
  meter = read_on _ _ _ c.loop-first.invariant.meter c.in_ok-places.ensures.meter;
}
