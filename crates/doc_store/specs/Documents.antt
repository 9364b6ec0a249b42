-- The documents of a database by their paths and places.
use Rattle.std.specs.Prelude.{◌≡◌, ℕ, List, Some}
use Rattle.std.specs.List.{Contains}
use Rattle.tree_model.specs.Forest.{Forest, none, tree}
use Rattle.tree_model.specs.Labels.{Label}
use Rattle.tree_model.specs.Nodes.{Node, root_nodes}
use Rattle.tree_model.specs.States.{document_under}

-- the document under a path stands at a place
pub record IsDocumentAt (path : List ℕ) (f : Forest Label) (place : ℕ) : Type 0 where
  pub node : Node Label
  pub among : Contains (root_nodes f) node
  pub at : node.place ≡ place
  pub is : document_under path f ≡ Some (tree node.label node.attrs node.kids none)
