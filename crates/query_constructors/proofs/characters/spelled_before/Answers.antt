use Rattle.std.proofs.Common.{ap, sym, ◌∙◌, ◌++◌, rules}
use Rattle.std.specs.Prelude.{ℕ}
use Rattle.std.specs.Char.{encode_utf8}
use Rattle.std.specs.String.{string_bytes}
use Rattle.query_terms.specs.Rule.{Text}
use Rattle.query_terms.specs.Lexis.{code_of, spelled}
use Rattle.query_tokens.specs.Reads.{as_char}
use Rattle.query_tokens.proofs.Loops.{begun, went_on, ended, ran_out}
use Rattle.query_constructors.proofs.characters.spelled_before.Goals as goal

pub loop-turn-init : goal.loop-turn-init
loop-turn-init g c = (c.utf8.rest, begun spelled _ _ _ (sym c.new-text.ensures.bytes))

pub returns-in_default : goal.returns-in_default
returns-in_default g c = ended _ c.loop-turn.invariant.1 c.in_default.ensures

pub loop-turn-preserved : goal.loop-turn-preserved
loop-turn-preserved g c = (
  search rules,
  went_on _ _ (as_char c.in-Some.found) _ _ c.loop-turn.invariant.1 c.loop-turn-test.true c.in-Some.ensures
      (λ v e. ap (λ (t : Text). t ++ encode_utf8 (code_of (as_char c.in-Some.found))) e
      ∙ ap (λ (x : ℕ). string_bytes c.loop-turn.text ++ encode_utf8 x) (sym c.character.ensures) ∙ sym c.in_ok-push.ensures.bytes),
)

pub returns : goal.returns
returns g c = ran_out _ _ c.loop-turn.invariant.1 c.loop-turn-test.false
