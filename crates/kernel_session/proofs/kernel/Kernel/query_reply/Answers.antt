use Rattle.std.proofs.Common.{rules}
use Rattle.doc_store.specs.Stored.{base_of}
use Rattle.kernel_session.specs.ReplyView.{answer_of}
use Rattle.kernel_session.specs.Workspaces.{state_of}
use Rattle.kernel_session.proofs.Queries.{query_step, query_refused}
use Rattle.kernel_session.proofs.kernel.Kernel.query_reply.Goals as goal

pub returns-in-Err : goal.returns-in-Err
returns-in-Err c = λ options files. query_refused options (state_of c.args.self.now) files c.args.meter.now c.args.words.now c.in-Err.fault c.in-Err.ensures

pub returns : goal.returns
returns c = λ options files.
    query_step options (state_of c.args.self.now) files c.args.meter.now c.push_answer-written.new.meter c.args.words.now c.in-Ok.steps.items (base_of c.in-Some.database.now) (answer_of c.text_reply.result)
    c.push_answer-written.result c.push_answer-written.new.out.items
    c.in-Ok.ensures (search rules) (rw (c.new-text.ensures.items, c.deref.ensures.value) at c.push_answer-written.ensures.text) c.push_answer-written.ensures.meter c.text_reply.ensures.ok c.text_reply.ensures.err
