use Rattle.query_terms.specs.Static.{finding}
use Rattle.query_terms.proofs.Folds.{attribute_is}
use Rattle.static_rules.proofs.walk.Walk.attribute.Goals as goal

pub returns : goal.returns
returns g c = rw (attribute_is finding c.args.attribute.now) (rw c.as_slice.ensures at c.attribute_parts.ensures)
