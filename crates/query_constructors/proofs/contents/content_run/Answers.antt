use Rattle.std.proofs.Common.{ap, sym, ◌∙◌, rules}
use Rattle.query_terms.specs.Markup.{Run, run_of, with_piece}
use Rattle.query_tokens.proofs.Loops.{begun, went_on, ended_by, failed_by, ran_out}
use Rattle.query_constructors.specs.Runs.{as_piece}
use Rattle.query_constructors.proofs.contents.content_run.Goals as goal

pub loop-turn-init : goal.loop-turn-init
loop-turn-init g c = (c.utf8.rest, begun run_of _ _ _ (sym c.new-run.ensures))

pub returns-in-Err-Refused : goal.returns-in-Err-Refused
returns-in-Err-Refused g c = ended_by _ _ c.loop-turn.invariant.1 c.in-Err-Refused.ensures c.in-Err-Refused.field-0-is

pub returns-in-Err-TooDeep : goal.returns-in-Err-TooDeep
returns-in-Err-TooDeep g c _ = failed_by _ _ _ c.loop-turn.invariant.1 c.loop-turn-test.true c.in-Err-TooDeep.ensures c.in-Err-TooDeep.field-0-is

pub loop-turn-preserved : goal.loop-turn-preserved
loop-turn-preserved g c = (
  search rules,
  went_on _ _ (as_piece c.in-Ok.piece) _ _ c.loop-turn.invariant.1 c.loop-turn-test.true c.in-Ok.ensures
      (λ v e. ap (λ (r : Run). with_piece r (as_piece c.in-Ok.piece)) e ∙ sym c.in_ok-add-in-Ok.ensures),
)

pub returns : goal.returns
returns g c = ran_out _ _ c.loop-turn.invariant.1 c.loop-turn-test.false
