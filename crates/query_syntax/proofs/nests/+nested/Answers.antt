use Rattle.std.proofs.Common.{◌-◌, arith}
use Rattle.query_terms.specs.declared.stop.Nest.TheVariants as nests
use Rattle.query_terms.specs.Grammar.{rule_of}
use Rattle.query_syntax.proofs.Openings.{nest_refused, nest_opened}
use Rattle.query_syntax.proofs.nests.+nested.Goals as goal

pub returns-then-source-eq0 : goal.returns-then-source-eq0
returns-then-source-eq0 t c _ = nest_refused c.args.source c.args.nest c.args.rest.now (omega arith)

pub returns-in-Single : goal.returns-in-Single
unfolding rule_of
returns-in-Single t c = rw (c.in-Single.is, nest_opened c.args.source (c.args.source.room - 1) nests.Single c.args.rest.now (omega arith)) c.single_rule.ensures

pub returns-in-Elem : goal.returns-in-Elem
unfolding rule_of
returns-in-Elem t c = rw (c.in-Elem.is, nest_opened c.args.source (c.args.source.room - 1) nests.Elem c.args.rest.now (omega arith)) c.element.ensures
