use Rattle.std.proofs.Common.{◌≡◌, ◌<◌, ℕ, List, length}
use Rattle.std.specs.List.{All}
use Rattle.node_table.specs.Views.{view_of, KeepsTrees, view_forest}
use Rattle.frame_pool.specs.Meters.{HasRead}
use Rattle.axis_steps.specs.Steps.{rows_of, path_places}
use Rattle.axis_steps.proofs.steps.path.Given as goal

abbrev pub invariant-loop-first : goal.invariant-loop-first
invariant-loop-first l = record {
  within : All (λ p. p < length (rows_of l.trees)) l.places.items;
  path : (values : List ℕ) → KeepsTrees (view_of (rows_of l.trees) l.trees.names.now values)
      → path_places (view_forest (view_of (rows_of l.trees) l.trees.names.now values)) l.rest l.places.items ≡ path_places (view_forest (view_of (rows_of l.trees) l.trees.names.now values)) l.steps l.fn.places.items;
  meter : HasRead l.fn.meter l.meter;
}

abbrev pub decreases-loop-first : goal.decreases-loop-first
decreases-loop-first l = length l.rest
