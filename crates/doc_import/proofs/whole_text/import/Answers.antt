use Rattle.std.proofs.Common.{rules, sym}
use Rattle.doc_import.proofs.Answering.{encoding_answer, no_encoding}
use Rattle.doc_import.proofs.whole_text.import.Goals as goal

pub returns-in-Some : goal.returns-in-Some
returns-in-Some c = encoding_answer c.args.strip c.args.bytes.now _ (search rules) (sym c.in-Some.ensures)

pub document-requires-clause-encoding : goal.document-requires-clause-encoding
document-requires-clause-encoding c = no_encoding c.args.bytes.now (search rules)
