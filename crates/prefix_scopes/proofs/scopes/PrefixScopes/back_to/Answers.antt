use Rattle.std.proofs.Common.{◌≤◌, ◌-◌, ◌++◌, min, length, drop, sym, ap, ◌∙◌, subst}
use Rattle.prefix_scopes.specs.Few.{scope_of}
use Rattle.prefix_scopes.proofs.Shortening.{shortened}
use Rattle.prefix_scopes.proofs.scopes.PrefixScopes.back_to.Goals as goal

pub returns : goal.returns
returns c =
    let kept = c.min-few.ensures ∙ ap (min c.args.len) (c.len.ensures ∙ c.self.inside.few.ok.0) in
    ap (λ m. m ++ scope_of c.truncate.new.self.items) c.back_to.ensures
    ∙ ap (λ l. drop (length c.self.inside.many - (c.args.len - c.min-few.result)) c.self.inside.many ++ scope_of l) c.truncate.ensures.items
    ∙ shortened c.self.inside.many c.self.inside.few.items c.args.len c.min-few.result kept (subst (λ l. c.args.len ≤ length l) (sym c.self.view_is) c.requires)
    ∙ ap (λ l. drop (length l - c.args.len) l) c.self.view_is
