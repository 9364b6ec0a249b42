use Rattle.commands.specs.CommandView.{input_of}
use Rattle.kernel_session.specs.ReplyView.{answer_of}
use Rattle.kernel_session.proofs.Reading.{table_step}
use Rattle.kernel_session.proofs.kernel.table_reply.Goals as goal

pub returns-in-Ok : goal.returns-in-Ok
returns-in-Ok g c state =
    rw c.rows_reply.ensures.meter (table_step (answer_of c.rows_reply.result) c.args.options state c.args.meter.now (input_of c.args.input.now)
    (g.F.Files.seen c.args.files.now) (g.F.Files.seen c.read_document.new.files) c.in-Ok.built c.in-Ok.ensures.document c.rows_reply.ensures.text)
