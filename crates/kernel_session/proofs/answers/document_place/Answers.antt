use Rattle.doc_store.specs.Stored.{base_of}
use Rattle.kernel_session.proofs.Nodes.{found_text}
use Rattle.kernel_session.proofs.answers.document_place.Goals as goal

pub returns-clause-some : goal.returns-clause-some
returns-clause-some c = found_text c.find_document.result c.args.path.now (base_of c.args.database.now).documents (rw c.as_bytes.ensures.value at c.find_document.ensures.some)
