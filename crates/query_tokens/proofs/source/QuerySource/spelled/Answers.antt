use Rattle.std.proofs.Common.{◌≡◌, ap, sym, ◌∙◌, rules, ◌++◌, refl}
use Rattle.std.specs.Prelude.{ℕ, Option}
use Rattle.std.specs.Char.{encode_utf8}
use Rattle.std.specs.String.{string_bytes}
use Rattle.query_terms.specs.declared.parts.Literal.{Literal}
use Rattle.query_terms.specs.Rule.{Text}
use Rattle.query_terms.specs.Lexis.{code_of, first_of}
use Rattle.query_tokens.specs.Reads.{body_of, as_char, literal_in}
use Rattle.query_tokens.proofs.Loops.{begun, went_on, ended, ran_out}
use Rattle.query_tokens.proofs.source.QuerySource.spelled.Goals as goal

literal_is : (t u : Text) (p q : Option ℕ) → t ≡ u → p ≡ q → ◌≡◌ {A = Literal} (record { text = t; bad_reference = p }) (record { text = u; bad_reference = q })
literal_is t u p q a b = ap (λ (x : Text). record { text = x; bad_reference = p }) a ∙ ap (λ (x : Option ℕ). record { text = u; bad_reference = x }) b

pub loop-turn-init : goal.loop-turn-init
loop-turn-init c = (c.utf8.body, begun literal_in _ _ _ (literal_is _ _ _ _ (sym c.new-text.ensures.bytes) refl))

pub returns-in_default : goal.returns-in_default
returns-in_default c = let whole = ended _ c.loop-turn.invariant.1 c.in_default.ensures in sym (ap body_of whole.1 ∙ whole.2)

pub loop-turn-preserved : goal.loop-turn-preserved
loop-turn-preserved c = (
  search rules,
  went_on _ _ (as_char c.in-Some.found) _ _ c.loop-turn.invariant.1 c.loop-turn-test.true c.in-Some.ensures
      (λ v e. literal_is _ _ _ _
      (ap (λ (l : Literal). l.text ++ encode_utf8 (code_of (as_char c.in-Some.found))) e
      ∙ ap (λ (x : ℕ). string_bytes c.loop-turn.text ++ encode_utf8 x) (sym c.character.ensures) ∙ sym c.in_ok-push.ensures.bytes)
      (ap (λ (l : Literal). first_of l.bad_reference (as_char c.in-Some.found)) e ∙ sym c.first_bad-bad.ensures)),
)

pub returns : goal.returns
returns c = let whole = ran_out _ _ c.loop-turn.invariant.1 c.loop-turn-test.false in sym (ap body_of whole.1 ∙ whole.2)
