use Rattle.std.proofs.Common.{◌∙◌, ap, reverse}
use Rattle.xml_rows.specs.Scoping.{Scoped}
use Rattle.xml_rows.proofs.Nesting.{nested_bound, outer_bound}
use Rattle.xml_rows.proofs.scope.Scopes.bind.Goals as goal

pub invariant_of-self-2 : goal.invariant_of-self-2
invariant_of-self-2 c = nested_bound c.self.inside.prefixes c.bind.new.self _ (reverse c.self.inside.outer.items) c.in_ok-bind.ensures.ok c.self.invariant

pub returns-clause-outer : goal.returns-clause-outer
returns-clause-outer c =
    outer_bound c.self.inside.prefixes c.bind.new.self _ (reverse c.self.inside.outer.items) c.in_ok-bind.ensures.ok c.self.invariant ∙ ap (λ (s : Scoped). s.outer) c.self.view_is
