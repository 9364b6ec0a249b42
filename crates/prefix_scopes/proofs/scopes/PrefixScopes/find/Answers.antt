use Rattle.std.proofs.Common.{sym, ap, ◌∙◌}
use Rattle.prefix_scopes.specs.Few.{scope_of}
use Rattle.prefix_scopes.specs.Scoping.{number_of}
use Rattle.prefix_scopes.proofs.Joining.{number_inside, number_outside}
use Rattle.prefix_scopes.proofs.scopes.PrefixScopes.find.Goals as goal

pub returns-in-Some : goal.returns-in-Some
returns-in-Some c =
    sym (number_inside c.args.prefix.now c.self.inside.many (scope_of c.self.inside.few.items) c.in-Some.number (sym c.find.ensures ∙ c.in-Some.is)) ∙ ap (number_of c.args.prefix.now) c.self.view_is

pub returns : goal.returns
returns c =
    c.last_number.ensures ∙ ap (λ l. number_of c.args.prefix.now (scope_of l)) c.deref.ensures.value
    ∙ sym (number_outside c.args.prefix.now c.self.inside.many (scope_of c.self.inside.few.items) (sym c.find.ensures ∙ c.in_default.is)) ∙ ap (number_of c.args.prefix.now) c.self.view_is
