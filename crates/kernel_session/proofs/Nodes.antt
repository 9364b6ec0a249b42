-- Nodes by their places, and the documents among them.
use Rattle.std.proofs.Common.{◌≡◌, ℕ, ◌+◌, ◌<◌, ◌∷◌, [], List, Option, Some, None, sym, ap, ◌∙◌, arith, append-nil}
use Rattle.std.specs.Prelude.{IfSome}
use Rattle.std.specs.List.{Contains, flat_map}
use Rattle.axis_cursor.specs.Trees.{node_at}
use Rattle.node_table.proofs.NodeRows.{one_there}
use Rattle.tree_model.specs.Forest.{Forest, none, tree, count}
use Rattle.tree_model.specs.Labels.{Label}
use Rattle.tree_model.specs.Nodes.{Node, nodes, root_nodes}
use Rattle.tree_model.specs.Printing.{node_text, documents_text, tree_text, trees_text, has_trees, scope_in}
use Rattle.tree_model.specs.States.{document_under}
use Rattle.tree_model.specs.XmlMeaning.{first_scope}
use Rattle.tree_model.proofs.Standing.{IsIn, in_from, node_places, roots_in, place_below}
use Rattle.doc_store.specs.Documents.{IsDocumentAt}
use Rattle.kernel_session.specs.Places.{text_at, IsDocumentPlace}

-- ---- the node at a place

pub node_at_is : (f : Forest Label) (node : Node Label) → IsIn (nodes f) node → node_at f node.place ≡ node ∷ []
node_at_is f node h = one_there 0 (count f) (nodes f) node (node_places 0 f) h

pub text_at_is : (f : Forest Label) (node : Node Label) → IsIn (nodes f) node → text_at f node.place ≡ node_text node
unfolding text_at
text_at_is f node h = ap (flat_map node_text) (node_at_is f node h) ∙ append-nil (node_text node)

-- the text of a document is that of the node at its place
pub document_text : (path : List ℕ) (f : Forest Label) (place : ℕ) → IsDocumentAt path f place → IsDocumentPlace path f place
document_text path f place h =
    let node : Node Label = h.node in
    let among : IsIn (nodes f) node = roots_in 0 f node (in_from (root_nodes f) node h.among) in
    record {
      document = tree node.label node.attrs node.kids none;
      is = h.is;
      text = ap (text_at f) (sym h.at) ∙ text_at_is f node among ∙ sym (append-nil (tree_text first_scope node.label node.attrs (has_trees node.kids) (trees_text (scope_in first_scope node.label node.attrs) node.kids)));
      within = omega (arith, h.at, place_below f node among);
    }

pub found_text : (r : Option ℕ) (path : List ℕ) (f : Forest Label) → IfSome r (IsDocumentAt path f) → IfSome r (IsDocumentPlace path f)
found_text None path f some = tt
found_text (Some place) path f some = document_text path f place some
