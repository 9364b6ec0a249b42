use Rattle.std.proofs.Common.{List, ℕ, ◌∷◌, [], ◌+◌, drop, sym, ap, ◌∙◌}
use Rattle.std.proofs.lemmas.List.{drop-drop}
use Rattle.tree_model.specs.Declarations.{texts_from}
use Rattle.serializer.proofs.Reading.{text_cut, no_text}
use Rattle.serializer.proofs.declarations.split_at_zero.Goals as goal

pub returns-in_err-len-clause-text : goal.returns-in_err-len-clause-text
returns-in_err-len-clause-text c = rw c.from_residual.ensures (no_text c.args.bytes.now (sym c.first_zero.ensures ∙ c.in_err-len.was))

pub returns-clause-text : goal.returns-clause-text
returns-clause-text c =
    let rest = c.split_at-2.ensures.back ∙ ap (drop 1) c.split_at.ensures.back ∙ drop-drop 1 c.in_ok-len.len c.args.bytes.now in
    text_cut c.args.bytes.now c.in_ok-len.len (sym c.first_zero.ensures ∙ c.in_ok-len.was)
    ∙ ap (λ (text : List ℕ). text ∷ texts_from [] (drop (c.in_ok-len.len + 1) c.args.bytes.now)) (sym c.split_at.ensures.front)
    ∙ ap (λ (more : List ℕ). c.split_at.result.0.now ∷ texts_from [] more) (sym rest)
