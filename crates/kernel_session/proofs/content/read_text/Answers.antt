use Rattle.kernel_session.proofs.content.read_text.Goals as goal

pub returns-in-Err-clause-fault : goal.returns-in-Err-clause-fault
returns-in-Err-clause-fault c = c.refusal_of.ensures c.args.xml.now c.args.strip (rw c.in-Err.is at c.import.ensures)
