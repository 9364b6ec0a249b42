use Rattle.std.proofs.Common.{ap, sym, ◌∙◌, Ok}
use Rattle.query_terms.specs.declared.parts.Span.{Span}
use Rattle.query_terms.specs.declared.parts.ComputedKind.TheVariants as kinds
use Rattle.query_terms.specs.Rule.{Value}
use Rattle.query_terms.specs.Markup.{computed_as}
use Rattle.query_constructors.specs.Runs.{as_computed_name}
use Rattle.query_constructors.proofs.Instructions.{instruction_is}
use Rattle.query_constructors.proofs.computed_constructors.computed_instruction.Goals as goal

pub returns : goal.returns
returns g c =
    instruction_is c.args.descent.now.source c.args.rest.now _ _ _ _ c.in_ok-name.name c.in_ok-body.body c.in_ok-after.ensures c.in_ok-name.ensures c.blanks-after.ensures c.in_ok-body.ensures
    ∙ ap (λ (v : Value). Ok (v, c.in_ok-body.after.now))
    (ap (λ (s : Span). computed_as s kinds.Instruction (as_computed_name c.in_ok-name.name) c.in_ok-body.body) (sym c.span-span.ensures) ∙ sym c.in_ok-made.ensures)
