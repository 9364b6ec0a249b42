use Rattle.kernel_session.specs.Lines.{behind, pending, stock}
use Rattle.kernel_session.specs.Serving.{IsServing}
use Rattle.kernel_session.specs.Workspaces.{workspace, state_of}
use Rattle.kernel_session.proofs.session.serve_lines.Given as goal

abbrev pub invariant-lines : goal.invariant-lines
invariant-lines g l =
    IsServing l.options (workspace (state_of l.fn.kernel) (g.F.Files.seen l.fn.files) l.fn.meter) (workspace (state_of l.kernel) (g.F.Files.seen l.files) l.meter)
    (g.S.Source.seen l.fn.script) (behind (pending l.reader) (g.S.Source.seen l.script)) (g.K.Sink.seen l.fn.sink) (g.K.Sink.seen l.sink) (stock l.reader) l.refused

abbrev pub decreases-lines : goal.decreases-lines
decreases-lines g l = stock l.reader
