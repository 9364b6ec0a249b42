-- What a path leads to from the documents of a database.
use Rattle.std.proofs.Common.{◌≡◌, refl, ℕ, ◌<◌, List, Vec, Global, Result, Ok, Err, sym, ap, ◌∙◌}
use Rattle.std.specs.Prelude.{IfOk}
use Rattle.std.specs.declared.alloc.AllocError.{AllocError}
use Rattle.std.specs.List.{All}
use Rattle.axis_steps.specs.Steps.{path_places}
use Rattle.doc_store.specs.Stored.{Stored, IsKept, stored_rows, base_of}
use Rattle.node_table.specs.Views.{view_of, view_forest, KeepsTrees, places_of}
use Rattle.tree_model.specs.Forest.{Forest, count}
use Rattle.tree_model.specs.Labels.{Label}
use Rattle.tree_model.specs.Axes.{path_value}
use Rattle.tree_model.specs.Nodes.{root_nodes}
use Rattle.tree_model.specs.declared.axis.AxisStep.{AxisStep}
use Rattle.kernel_session.proofs.PathPlaces.{value_nodes, places_within, path_places_of}

-- what the steps lead to is what the path leads to
pub path_found : (r : Result (Vec ℕ Global) AllocError) (d : Stored) (steps : List AxisStep) (places : List ℕ) → IsKept d → places ≡ places_of (root_nodes (base_of d).documents)
    → IfOk r (λ found. (values : List ℕ) → KeepsTrees (view_of (stored_rows d) d.names values) → found.items ≡ path_places (view_forest (view_of (stored_rows d) d.names values)) steps places)
    → IfOk r (λ found. found.items ≡ places_of (path_value (base_of d).documents steps))
path_found (Ok found) d steps places h e told = told d.values h.trees ∙ ap (path_places (base_of d).documents steps) e ∙ sym (path_places_of (base_of d).documents steps)
path_found (Err x) d steps places h e told = tt

pub found_within : (r : Result (Vec ℕ Global) AllocError) (f : Forest Label) (steps : List AxisStep) → IfOk r (λ found. found.items ≡ places_of (path_value f steps))
    → IfOk r (λ found. All (λ place. place < count f) found.items)
found_within (Ok found) f steps e =
    places_within f (path_value f steps) found.items (count f) (value_nodes f steps) e refl
found_within (Err x) f steps e = tt
