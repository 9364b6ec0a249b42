use Rattle.std.proofs.Common.{refl, rules}
use Rattle.query_tokens.specs.Reads.{as_char}
use Rattle.query_tokens.proofs.Loops.{begun, went_on, ended, ran_out, whatever}
use Rattle.query_tokens.proofs.source.QuerySource.string_end.Goals as goal

pub loop-turn-init : goal.loop-turn-init
loop-turn-init c = (c.utf8.body, begun whatever _ _ _ refl)

pub returns-in_default : goal.returns-in_default
returns-in_default c = let whole = ended _ c.loop-turn.invariant.1 c.in_default.ensures in (whole.0, whole.1)

pub loop-turn-preserved : goal.loop-turn-preserved
loop-turn-preserved c = (search rules, went_on _ _ (as_char c.in-Some.field-0-0) _ _ c.loop-turn.invariant.1 c.loop-turn-test.true c.in-Some.ensures (λ v e. refl))

pub returns : goal.returns
returns c = let whole = ran_out _ _ c.loop-turn.invariant.1 c.loop-turn-test.false in (whole.0, whole.1)
