-- The document under a path, found from document to document.
use Rattle.std.proofs.Common.{◌≡◌, inl, inr, ℕ, ◌+◌, ◌<◌, ◌≤◌, true, false, cond, List, [], ◌∷◌, length, Option, Some, None, refl, sym, ap, ◌∙◌, subst, arith}
use Rattle.std.specs.Prelude.{IfSome, filter, nat_eq}
use Rattle.std.specs.Str.{bytes_eq}
use Rattle.tree_model.specs.Forest.{Forest, none, tree, count, Line}
use Rattle.tree_model.specs.Labels.{Label}
use Rattle.tree_model.specs.Nodes.{Node, nodes, root_nodes_from, root_nodes}
use Rattle.tree_model.specs.States.{document_under}
use Rattle.tree_model.proofs.Standing.{IsIn, in_from, in_contains}
use Rattle.node_table.specs.Laid.{dist_at}
use Rattle.doc_store.specs.Documents.{IsDocumentAt}
use Rattle.doc_store.specs.Places.{AreTreesBetween, trees_between, Turn}
use Rattle.doc_store.specs.Stored.{Stored, stored_rows, stored_lines, base_of, IsKept}
use Rattle.doc_store.proofs.DocumentPlaces.{Walks, all_left, document_there, document_within, document_root}
use Rattle.doc_store.proofs.Siblings.{none_between}

-- what is left are documents, and none before them has the path
pub record Left (path : List ℕ) (d : Stored) (at end : ℕ) : Type 0 where
  pub among : (node : Node Label) → IsIn (root_nodes_from at (trees_between (stored_lines d) at end)) node → IsIn (root_nodes (base_of d).documents) node
  pub todo : document_under path (base_of d).documents ≡ document_under path (trees_between (stored_lines d) at end)

pub all_to_find : (path : List ℕ) (d : Stored) (rows : List _) (end : ℕ) → Walks d rows 0 end → Left path d 0 end
all_to_find path d rows end w = record {
  among = λ node h. subst (λ f. IsIn (root_nodes f) node) (all_left d rows end w) h;
  todo = ap (document_under path) (sym (all_left d rows end w));
}

-- the next document has the path, or it is passed
pub record Looked (path : List ℕ) (d : Stored) (at end : ℕ) (line : Line Label) : Type 0 where
  pub found : bytes_eq line.label.value path ≡ true → IsDocumentAt path (base_of d).documents at
  pub next : bytes_eq line.label.value path ≡ false → Left path d (at + line.size) end

pub looked : (path : List ℕ) (d : Stored) (at end : ℕ) (line : Line Label) → Turn (stored_lines d) at end line → Left path d at end → Looked path d at end line
looked path d at end line t left = record {
  found = λ same.
      record {
        node = own;
        among = in_contains (root_nodes (base_of d).documents) own (left.among own (subst (λ f. IsIn (root_nodes_from at f) own) (sym t.trees) (inl refl)));
        at = refl;
        is = todo ∙ ap (λ b. cond b (Some document) (document_under path others)) same;
      };
  next = λ other.
      record {
        among = λ node h.
            left.among node (subst (λ f. IsIn (root_nodes_from at f) node) (sym t.trees) (inr (subst (λ n. IsIn (root_nodes_from (at + n) others) node) t.size h)));
        todo = todo ∙ ap (λ b. cond b (Some document) (document_under path others)) other;
      };
}
  where
    own : Node Label
    own = record { place = at; label = line.label; attrs = t.attrs; kids = t.kids }

    document : Forest Label
    document = tree line.label t.attrs t.kids none

    others : Forest Label
    others = trees_between (stored_lines d) (at + line.size) end

    todo : document_under path (base_of d).documents ≡ cond (bytes_eq line.label.value path) (Some document) (document_under path others)
    todo = left.todo ∙ ap (document_under path) t.trees

-- behind the last document
pub not_found : (path : List ℕ) (d : Stored) (at end : ℕ) → AreTreesBetween (stored_lines d) at end → end ≤ at → Left path d at end → document_under path (base_of d).documents ≡ None
not_found path d at end w le left = left.todo ∙ ap (document_under path) (none_between (stored_lines d) at end w le)

-- ---- where the document under a path stands

in_roots : (path : List ℕ) (f : Forest Label) (place : ℕ) → (h : IsDocumentAt path f place) → IsIn (root_nodes f) h.node
in_roots path f place h = in_from (root_nodes f) h.node h.among

pub found_within : (path : List ℕ) (d : Stored) (place : ℕ) → IsKept d → IsDocumentAt path (base_of d).documents place → place < length (stored_rows d)
found_within path d place kept h = omega (arith, document_within d h.node kept (in_roots path (base_of d).documents place h), h.at)

pub found_root : (path : List ℕ) (d : Stored) (place : ℕ) → IsKept d → IsDocumentAt path (base_of d).documents place → dist_at (stored_rows d) place ≡ 0
found_root path d place kept h = ap (dist_at (stored_rows d)) (sym h.at) ∙ document_root d h.node kept (in_roots path (base_of d).documents place h)

-- the node at that place is the document's
pub found_there : (path : List ℕ) (f : Forest Label) (place : ℕ) → (h : IsDocumentAt path f place) → filter (λ (other : Node Label). nat_eq other.place place) (nodes f) ≡ h.node ∷ []
found_there path f place h =
    ap (λ n. filter (λ (other : Node Label). nat_eq other.place n) (nodes f)) (sym h.at) ∙ document_there f h.node (in_roots path f place h)
