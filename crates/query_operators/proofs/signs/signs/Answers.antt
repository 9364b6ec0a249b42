use Rattle.std.proofs.Common.{ap, sym, ◌∙◌, Bool, Option, Some, refl, rules}
use Rattle.query_terms.specs.Rule.{flag}
use Rattle.query_terms.specs.Grammar.{signs_in, turned}
use Rattle.query_tokens.proofs.Loops.{begun, went_on, ended, ran_out}
use Rattle.query_operators.proofs.signs.signs.Goals as goal

pub loop-turn-init : goal.loop-turn-init
loop-turn-init c = (c.utf8.rest, begun signs_in _ _ _ refl)

pub returns-in_default : goal.returns-in_default
returns-in_default c = ended _ c.loop-turn.invariant.1 c.in_default.ensures

pub loop-turn-preserved : goal.loop-turn-preserved
loop-turn-preserved c = (
  search rules,
  went_on _ _ (flag c.in-Some.is_minus) _ _ c.loop-turn.invariant.1 c.loop-turn-test.true c.in-Some.ensures
      (λ v e. ap (λ (x : Option Bool). Some (turned x c.in-Some.is_minus)) e ∙ ap (λ (b : Bool). Some b) (sym c.turned.ensures)),
)

pub returns : goal.returns
returns c = ran_out _ _ c.loop-turn.invariant.1 c.loop-turn-test.false
