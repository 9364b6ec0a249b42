use Rattle.std.proofs.Common.{sym}
use Rattle.query_terms.specs.Static.{finding}
use Rattle.query_terms.proofs.Folds.{step_is}
use Rattle.static_rules.proofs.walk.Walk.step.Goals as goal

pub returns : goal.returns
returns g c = rw (step_is finding c.args.step.now, sym c.get.ensures) c.part.ensures
