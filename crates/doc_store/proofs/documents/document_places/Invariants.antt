use Rattle.std.proofs.Common.{◌≡◌, ◌-◌, ◌++◌}
use Rattle.node_table.specs.Views.{places_of}
use Rattle.tree_model.specs.Nodes.{root_nodes}
use Rattle.doc_store.specs.Places.{roots_between}
use Rattle.doc_store.specs.Stored.{base_of, stored_lines}
use Rattle.doc_store.proofs.DocumentPlaces.{Walks}
use Rattle.doc_store.proofs.documents.document_places.Given as goal

abbrev pub invariant-loop-at : goal.invariant-loop-at
invariant-loop-at l = record {
  walks : Walks l.database l.reader l.at l.end;
  sofar : l.places.items ++ roots_between (stored_lines l.database) l.at l.end ≡ places_of (root_nodes (base_of l.database).documents);
}

abbrev pub decreases-loop-at : goal.decreases-loop-at
decreases-loop-at l = l.end - l.at
