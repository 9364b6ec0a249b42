-- Nodes by their ids.
use Rattle.std.specs.Prelude.{◌≡◌, ℕ, suc, ◌≤◌, nat_eq, List, [], ◌∷◌, map, filter, Option, Some, None, if◌then◌else◌}
use Rattle.tree_model.specs.Forest.{Forest, walk}
use Rattle.tree_model.specs.Labels.{Label}
use Rattle.tree_model.specs.Nodes.{Node, nodes}
use Rattle.tree_model.specs.Sound.{with_id_count}

-- the ids of all nodes in document order
abbrev pub ids_of : Forest Label → List ℕ
ids_of f = map (λ (label : Label). label.id) (walk f)

-- each of some with its place, the first at place n
abbrev pub pairs_from : ℕ → List ℕ → List (ℕ × ℕ)
pairs_from n [] = []
pairs_from n (id ∷ ids) = (id, n) ∷ pairs_from (suc n) ids

-- the id of each node with its place
abbrev pub id_pairs : Forest Label → List (ℕ × ℕ)
id_pairs f = pairs_from 0 (ids_of f)

-- what stands beside an id in the first pair that has it
abbrev pub place_in : ℕ → List (ℕ × ℕ) → Option ℕ
place_in id [] = None
place_in id (pair ∷ pairs) = if nat_eq pair.0 id then Some pair.1 else place_in id pairs

-- the node with an id, and none where no node has it
abbrev pub node_with_id : ℕ → Forest Label → List (Node Label)
node_with_id id f = filter (λ (node : Node Label). nat_eq node.label.id id) (nodes f)

-- with distinct ids the node of an id is the node at its place
abbrev pub IdsLeadToPlaces : Type 0
IdsLeadToPlaces = (f : Forest Label) (id place : ℕ) → ((other : ℕ) → with_id_count other (walk f) ≤ 1) → place_in id (id_pairs f) ≡ Some place
    → node_with_id id f ≡ filter (λ (node : Node Label). nat_eq node.place place) (nodes f)
