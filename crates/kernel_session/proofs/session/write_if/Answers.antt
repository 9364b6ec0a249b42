use Rattle.std.proofs.Common.{sym}
use Rattle.kernel_session.specs.ReplyView.{answer_of}
use Rattle.kernel_session.proofs.Serving.{meets_fault}
use Rattle.kernel_session.proofs.Written.{append_nil}
use Rattle.kernel_session.proofs.session.write_if.Goals as goal

pub returns-in-Some-clause-err : goal.returns-in-Some-clause-err
returns-in-Some-clause-err g c =
    rw c.in-Some.is (meets_fault (g.K.Sink.seen c.args.sink.now) (g.K.Sink.seen c.write_reply.new.sink) (answer_of c.in-Some.reply) c.write_reply.result c.write_reply.ensures)

pub returns-in-None-clause-ok : goal.returns-in-None-clause-ok
returns-in-None-clause-ok g c = rw c.in-None.is (sym (append_nil (g.K.Sink.seen c.args.sink.now).written))
