use Rattle.std.proofs.Common.{◌≡◌, sym, subst}
use Rattle.std.specs.Bool.{Decides}
use Rattle.commands.specs.Commands.{Form, exit}
use Rattle.kernel_session.specs.ReplyView.{answer_of}
use Rattle.kernel_session.specs.Steps.{Step}
use Rattle.kernel_session.specs.Workspaces.{workspace, state_of}
use Rattle.kernel_session.proofs.Serving.{form_read, not_read, not_read_goes_on}
use Rattle.kernel_session.proofs.session.reply_to.Goals as goal

pub returns-in-Ok-clause-answer : goal.returns-in-Ok-clause-answer
returns-in-Ok-clause-answer g c =
    subst (λ (f : Form). Step c.args.options (workspace (state_of c.args.kernel.now) (g.F.Files.seen c.args.files.now) c.args.meter.now) f (answer_of c.execute.result)
    (workspace (state_of c.execute.new.self) (g.F.Files.seen c.execute.new.files) c.execute.new.meter)) (sym (form_read c.args.line.now c.in-Ok.command c.in-Ok.ensures)) c.execute.ensures

pub returns-in-Ok-clause-exit : goal.returns-in-Ok-clause-exit
returns-in-Ok-clause-exit g c =
    subst (λ (f : Form). Decides c.is_exit-exits.result (f ≡ exit)) (sym (form_read c.args.line.now c.in-Ok.command c.in-Ok.ensures)) c.is_exit-exits.ensures

pub returns-in-Err-clause-answer : goal.returns-in-Err-clause-answer
returns-in-Err-clause-answer g c =
    not_read c.args.options (workspace (state_of c.args.kernel.now) (g.F.Files.seen c.args.files.now) c.args.meter.now) c.args.line.now c.in-Err.refusal c.requires c.in-Err.ensures

pub returns-in-Err-clause-exit : goal.returns-in-Err-clause-exit
returns-in-Err-clause-exit g c = not_read_goes_on c.args.line.now c.in-Err.refusal c.requires c.in-Err.ensures
