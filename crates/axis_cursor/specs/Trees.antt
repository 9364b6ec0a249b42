-- The nodes that steps lead to, by their places.
use Rattle.std.specs.Prelude.{ℕ, nat_eq, List, filter}
use Rattle.std.specs.List.{flat_map, range_with_len}
use Rattle.node_table.specs.Views.{places_of}
use Rattle.tree_model.specs.Axes.{axis_nodes}
use Rattle.tree_model.specs.Forest.{Forest, count}
use Rattle.tree_model.specs.Labels.{Label}
use Rattle.tree_model.specs.Nodes.{Node, nodes, is_place_among}
use Rattle.tree_model.specs.declared.axis.Axis.{Axis}
use Rattle.tree_model.specs.declared.axis.Test.{Test}

-- the node at a place, and none beyond the last
abbrev pub node_at : Forest Label → ℕ → List (Node Label)
node_at f place = filter (λ (node : Node Label). nat_eq node.place place) (nodes f)

-- the places of the nodes of its axis that pass, in the axis's own order
unfoldable pub axis_places : Forest Label → Axis → Test → ℕ → List ℕ
axis_places f axis test place = places_of (flat_map (axis_nodes f axis test) (node_at f place))

-- the places that a step leads to from others, in document order and each once
abbrev pub step_places : Forest Label → Axis → Test → List ℕ → List ℕ
step_places f axis test places = filter (is_place_among (flat_map (axis_places f axis test) places)) (range_with_len 0 (count f))
