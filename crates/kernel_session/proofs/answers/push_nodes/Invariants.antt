use Rattle.std.proofs.Common.{◌≡◌, ◌++◌, drop}
use Rattle.doc_store.specs.Stored.{base_of}
use Rattle.kernel_session.proofs.PathPlaces.{more_texts}
use Rattle.kernel_session.proofs.answers.push_nodes.Given as goal

abbrev pub invariant-loop-place : goal.invariant-loop-place
invariant-loop-place l = l.out.items ++ more_texts (base_of l.database).documents (drop l.place-index l.rest) ≡ l.initial.out.items ++ more_texts (base_of l.database).documents l.rest
