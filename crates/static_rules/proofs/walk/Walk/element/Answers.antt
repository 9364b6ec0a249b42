use Rattle.std.proofs.Common.{ap, ◌∙◌}
use Rattle.query_terms.specs.Static.{least_of}
use Rattle.name_scopes.proofs.Bindings.{bindings_kept}
use Rattle.static_rules.proofs.Kept.{element_is}
use Rattle.static_rules.proofs.walk.Walk.element.Goals as goal

pub returns : goal.returns
returns g c = (
  c.in_ok-in_element.ensures.0 ∙ ap (least_of c.args.state.now.found) (element_is c.args.name.now c.args.attributes.now _ _ _ c.in_ok-declare_all.ensures),
  bindings_kept _ _ _ _ _ c.binding_count-count.ensures (c.in_ok-in_element.ensures.1 ∙ c.in_ok-declare_all.ensures) c.keep_bindings.ensures,
)
