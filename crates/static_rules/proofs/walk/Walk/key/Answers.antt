use Rattle.std.proofs.Common.{sym}
use Rattle.query_terms.specs.Static.{finding}
use Rattle.query_terms.proofs.Folds.{key_is}
use Rattle.static_rules.proofs.walk.Walk.key.Goals as goal

pub returns : goal.returns
returns g c = rw (key_is finding c.args.key.now, sym c.get.ensures) c.part.ensures
