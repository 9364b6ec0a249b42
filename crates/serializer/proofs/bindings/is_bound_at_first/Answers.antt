use Rattle.std.proofs.Common.{◌∙◌, ap, sym}
use Rattle.std.specs.Prelude.{if◌then◌else◌, false}
use Rattle.std.specs.Str.{bytes_eq}
use Rattle.tree_model.specs.Sound.{xml_uri}
use Rattle.serializer.proofs.FirstScope.{first_default, first_other}
use Rattle.serializer.proofs.bindings.is_bound_at_first.Goals as goal

pub returns-then-is_empty : goal.returns-then-is_empty
returns-then-is_empty c = first_default _ _ _ _ _ c.as_str-prefix.ensures c.as_str.ensures c.is_empty.ensures c.if-is_empty.true c.is_empty-then-is_empty.ensures

pub returns-then-eq : goal.returns-then-eq
returns-then-eq c =
    c.eq-then-eq.ensures ∙ ap (bytes_eq xml_uri) c.as_str-then-eq.ensures ∙ ap (λ b. if b then bytes_eq xml_uri c.args.name.now.uri else false) (sym c.if-eq.true)
    ∙ sym (first_other _ _ c.args.name.now.uri _ _ c.as_str-prefix.ensures c.is_empty.ensures c.if-is_empty.false c.eq.ensures)

pub returns-else-eq : goal.returns-else-eq
returns-else-eq c =
    c.if-eq.false ∙ ap (λ b. if b then bytes_eq xml_uri c.args.name.now.uri else false) (sym c.if-eq.false)
    ∙ sym (first_other _ _ c.args.name.now.uri _ _ c.as_str-prefix.ensures c.is_empty.ensures c.if-is_empty.false c.eq.ensures)
