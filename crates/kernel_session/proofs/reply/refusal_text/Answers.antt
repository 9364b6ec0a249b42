use Rattle.kernel_session.proofs.Codes.{code_is_short}
use Rattle.kernel_session.proofs.reply.refusal_text.Goals as goal

pub returns-in-Code-clause-len : goal.returns-in-Code-clause-len
returns-in-Code-clause-len c = rw c.code_text.ensures (code_is_short c.in-Code.code)
