use Rattle.doc_import.proofs.Heading.{head_with, head_without}
use Rattle.doc_import.proofs.head.behind_head.Goals as goal

pub returns-in-Some : goal.returns-in-Some
returns-in-Some c = head_with c.args.bytes.now _ _ _ _ c.skip_mark.ensures c.in-Some.ensures

pub returns-in-None : goal.returns-in-None
returns-in-None c = head_without c.args.bytes.now _ _ c.skip_mark.ensures c.in-None.ensures
