use Rattle.std.proofs.Common.{ap, refl, rules}
use Rattle.query_terms.specs.Rule.{code}
use Rattle.query_terms.specs.Lexis.{run}
use Rattle.query_tokens.proofs.Loops.{begun, went_on, ended, ran_out, whatever, silent}
use Rattle.query_tokens.proofs.source.QuerySource.run.Goals as goal

pub loop-turn-init : goal.loop-turn-init
loop-turn-init c = (c.utf8.rest, begun whatever _ _ _ refl)

pub returns-in_default : goal.returns-in_default
unfolding run
returns-in_default c = ap silent (ended _ c.loop-turn.invariant.1 c.in_default.ensures).1

pub loop-turn-preserved : goal.loop-turn-preserved
loop-turn-preserved c = (search rules, went_on _ _ (code c.in-Some.field-0-0) _ _ c.loop-turn.invariant.1 c.loop-turn-test.true c.in-Some.ensures (λ v e. refl))

pub returns : goal.returns
unfolding run
returns c = ap silent (ran_out _ _ c.loop-turn.invariant.1 c.loop-turn-test.false).1
