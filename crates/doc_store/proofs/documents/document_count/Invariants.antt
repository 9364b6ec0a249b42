use Rattle.std.proofs.Common.{◌≡◌, ◌-◌, ◌+◌}
use Rattle.tree_model.specs.Forest.{top_count}
use Rattle.doc_store.specs.Places.{trees_between}
use Rattle.doc_store.specs.Stored.{base_of, stored_lines}
use Rattle.doc_store.proofs.DocumentPlaces.{Walks}
use Rattle.doc_store.proofs.documents.document_count.Given as goal

abbrev pub invariant-loop-at : goal.invariant-loop-at
invariant-loop-at l = record {
  walks : Walks l.database l.reader l.at l.end;
  sofar : l.count + top_count (trees_between (stored_lines l.database) l.at l.end) ≡ top_count (base_of l.database).documents;
}

abbrev pub decreases-loop-at : goal.decreases-loop-at
decreases-loop-at l = l.end - l.at
