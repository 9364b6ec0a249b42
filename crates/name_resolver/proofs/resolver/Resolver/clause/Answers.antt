use Rattle.std.proofs.Common.{rules}
use Rattle.query_terms.specs.Resolved.{resolving}
use Rattle.query_terms.proofs.Folds.{for_is, let_is}
use Rattle.name_resolver.proofs.resolver.Resolver.clause.Goals as goal

pub returns-in_ok-boxed-in-For : goal.returns-in_ok-boxed-in-For
returns-in_ok-boxed-in-For g c = rw (c.in-For.is, for_is resolving c.in-For.bound c.in-For.position c.in-For.source) (search rules)

pub returns-in_ok-boxed-in-Let : goal.returns-in_ok-boxed-in-Let
returns-in_ok-boxed-in-Let g c = rw (c.in-Let.is, let_is resolving c.in-Let.bound c.in-Let.value) (search rules)
