use Rattle.std.proofs.Common.{◌-◌}
use Rattle.doc_store.proofs.DocumentPaths.{Left}
use Rattle.doc_store.proofs.DocumentPlaces.{Walks}
use Rattle.doc_store.proofs.documents.find_document.Given as goal

abbrev pub invariant-loop-at : goal.invariant-loop-at
invariant-loop-at l = record { walks : Walks l.database l.reader l.at l.end; left : Left l.path l.database l.at l.end }

abbrev pub decreases-loop-at : goal.decreases-loop-at
decreases-loop-at l = l.end - l.at
