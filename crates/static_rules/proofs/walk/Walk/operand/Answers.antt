use Rattle.std.proofs.Common.{sym}
use Rattle.query_terms.specs.Static.{finding}
use Rattle.query_terms.proofs.Folds.{operand_is}
use Rattle.static_rules.proofs.walk.Walk.operand.Goals as goal

pub returns : goal.returns
returns g c = rw (operand_is finding c.args.operand.now, sym c.get.ensures) c.part.ensures
