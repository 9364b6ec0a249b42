use Rattle.kernel_session.specs.Sessions.{no_options}
use Rattle.kernel_session.specs.Workspaces.{workspace, state_of}
use Rattle.kernel_session.proofs.Complete.{served_whole}
use Rattle.kernel_session.proofs.session.run.Goals as goal

pub returns-clause-complete : goal.returns-clause-complete
returns-clause-complete g c = λ none bytes is short no_read no_write.
    rw (c.number_of-2.ensures)
    (served_whole no_options (workspace (state_of c.args.kernel.now) (g.F.Files.seen c.args.files.now) c.args.meter.now)
    (workspace (state_of c.serve_lines.new.kernel) (g.F.Files.seen c.serve_lines.new.files) c.serve_lines.new.meter)
    (g.S.Source.seen c.args.source.now) (g.S.Source.seen c.serve_lines.new.script) (g.K.Sink.seen c.args.sink.now) (g.K.Sink.seen c.serve_lines.new.sink) bytes c.serve_lines.result
    c.serve_lines.ensures.ran c.serve_lines.ensures.words is short no_read no_write)
