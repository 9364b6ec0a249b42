use Rattle.std.proofs.Common.{◌∙◌, ap}
use Rattle.xml_rows.specs.Leaving.{inner_of, outer_less}
use Rattle.xml_rows.specs.Scoping.{Scoped}
use Rattle.xml_rows.proofs.Nesting.{len_within, scope_left, outer_left}
use Rattle.xml_rows.proofs.scope.Scopes.leave.Goals as goal

pub back_to-requires : goal.back_to-requires
back_to-requires c = len_within c.self.inside.prefixes c.self.inside.outer.items c.pop.new.self.items c.in-Some.len c.in-Some.ensures.items c.self.invariant

pub returns-in-Some-clause-scope : goal.returns-in-Some-clause-scope
returns-in-Some-clause-scope c =
    scope_left c.self.inside.prefixes c.self.inside.outer.items c.pop.new.self.items c.in-Some.len c.in-Some.ensures.items c.self.invariant c.back_to.new.self c.back_to.ensures
    ∙ ap (λ (s : Scoped). inner_of s.scope s.outer) c.self.view_is

pub returns-in-Some-clause-outer : goal.returns-in-Some-clause-outer
returns-in-Some-clause-outer c =
    outer_left c.self.inside.prefixes c.self.inside.outer.items c.pop.new.self.items c.in-Some.len c.in-Some.ensures.items c.self.invariant c.back_to.new.self c.back_to.ensures
    ∙ ap (λ (s : Scoped). outer_less s.outer) c.self.view_is
