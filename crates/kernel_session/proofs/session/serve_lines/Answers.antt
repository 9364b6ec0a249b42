use Rattle.std.proofs.Common.{◌^◌, ◌||◌, refl, sym, ap, ap₂}
use Rattle.kernel_session.specs.Serving.{ends_script}
use Rattle.kernel_session.specs.Workspaces.{workspace, state_of}
use Rattle.kernel_session.proofs.Sessions.{serving_none, goes_on, no_memory, no_reader, cut_short, write_fault, done, pending_few, used_up}
use Rattle.kernel_session.proofs.session.serve_lines.Goals as goal
use Rattle.kernel_session.proofs.session.serve_lines.Goals.{then-served-via-then-served, then-served-via-else-served+then-ends_script}

pub returns-in_default-clause-ran : goal.returns-in_default-clause-ran
returns-in_default-clause-ran g c =
    no_reader c.args.options (workspace (state_of c.args.kernel.now) (g.F.Files.seen c.args.files.now) c.args.meter.now) (g.S.Source.seen c.args.script.now) (g.K.Sink.seen c.args.sink.now)

pub lines-init : goal.lines-init
lines-init g c = rw (c.in-Ok.ensures.0, c.in-Ok.ensures.1, c.in-Ok.ensures.2)
    (serving_none c.args.options (workspace (state_of c.args.kernel.now) (g.F.Files.seen c.args.files.now) c.args.meter.now) (g.S.Source.seen c.args.script.now) (g.K.Sink.seen c.args.sink.now) (2 ^ 32) refl)

pub returns-in-Err-clause-ran : goal.returns-in-Err-clause-ran
returns-in-Err-clause-ran g c = no_memory _ _ _ _ _ _ _ _ _ _ _ _ c.lines.invariant c.in-Err.ensures.err (pending_few c.next.new.self)

pub returns-in-Some-clause-ran : goal.returns-in-Some-clause-ran
returns-in-Some-clause-ran g c =
    cut_short _ _ _ _ _ _ _ _ _ _ _ _ _ _ _ c.in-Some.status c.lines.invariant c.in-Ok-next.ensures.line c.in-Ok-next.ensures.used (pending_few c.next.new.self) c.in-Some.ensures.some

pub returns-in-Err-serve-clause-ran : goal.returns-in-Err-serve-clause-ran
returns-in-Err-serve-clause-ran g c =
    write_fault _ _ _ _ _ _ _ _ _ _ _ _ _ _ _ _ _ c.in-Err-serve._e c.lines.invariant c.in-Ok-next.ensures.line c.in-Ok-next.ensures.used (pending_few c.next.new.self) c.in_default-cut_short.ensures.none (rw c.in-Err-serve.is at c.serve.ensures)

pub returns-then-served-clause-ran : goal.returns-then-served-clause-ran
returns-then-served-clause-ran g c =
    done _ _ _ _ _ _ _ _ _ _ _ _ _ _ _ _ _ _ c.lines.invariant c.in-Ok-next.ensures.line c.in-Ok-next.ensures.used (pending_few c.next.new.self) c.in_default-cut_short.ensures.none (rw c.in-Ok-serve.is at c.serve.ensures)
    (elim c.then-served.branch [
      | then-served-via-then-served w ↦ ap (λ x. x || ends_script c.in-Ok-next.end) w.if-served.true
      | then-served-via-else-served+then-ends_script w ↦ ap₂ (λ x y. x || y) w.if-served.false (sym w.if-ends_script.ensures)
    ])

pub lines-preserved : goal.lines-preserved
lines-preserved g c =
    goes_on _ _ _ _ _ _ _ _ _ _ _ _ _ _ _ _ _ c.lines.invariant c.in-Ok-next.ensures.line c.in_default-cut_short.ensures.none (rw c.in-Ok-serve.is at c.serve.ensures) (ap₂ (λ x y. x || y) c.if-served.false (sym c.if-ends_script.ensures))

pub lines-smaller : goal.lines-smaller
lines-smaller g c = used_up _ _ _ _ _ _ _ c.in-Ok-next.ensures.line c.in_default-cut_short.ensures.none (sym c.if-ends_script.ensures)
