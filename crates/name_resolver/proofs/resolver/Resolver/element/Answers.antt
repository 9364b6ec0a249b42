use Rattle.std.proofs.Common.{ap, ◌∙◌}
use Rattle.query_terms.specs.Static.{Environment}
use Rattle.name_scopes.proofs.Bindings.{bindings_kept}
use Rattle.name_resolver.specs.Gives.{element}
use Rattle.name_resolver.proofs.resolver.Resolver.element.Goals as goal

pub returns : goal.returns
returns g c = (
  c.in_ok-element.ensures.0 ∙ ap (λ (env : Environment). element c.args.span c.args.name.now c.args.attributes.now c.args.content.now env.bindings) c.in_ok-declare_all.ensures,
  bindings_kept _ _ _ _ _ c.binding_count-count.ensures (c.in_ok-element.ensures.1 ∙ c.in_ok-declare_all.ensures) c.keep_bindings.ensures,
)
