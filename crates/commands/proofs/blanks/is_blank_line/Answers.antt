use Rattle.std.proofs.Common.{◌∙◌, sym}
use Rattle.std.proofs.lemmas.Bool.{eqb-true, eq-eqb}
use Rattle.commands.proofs.BlankLines.{all_blank, none_left}
use Rattle.commands.proofs.blanks.is_blank_line.Goals as goal

pub returns : goal.returns
returns c =
    (λ all. all_blank c.args.line.now (sym c.blanks_at_front.ensures.value ∙ eqb-true _ _ all), λ none. eq-eqb _ _ (c.blanks_at_front.ensures.value ∙ none_left c.args.line.now none))
