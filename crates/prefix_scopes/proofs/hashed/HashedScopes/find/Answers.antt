use Rattle.std.proofs.Common.{◌≡◌, reverse, sym, ap, ◌∙◌, arith}
use Rattle.std.specs.Option.{option_flatten}
use Rattle.prefix_scopes.specs.Places.{place_of}
use Rattle.prefix_scopes.specs.Scoping.{number_of}
use Rattle.prefix_scopes.proofs.Placing.{place_missed, place_inside, place_number}
use Rattle.prefix_scopes.proofs.hashed.HashedScopes.find.Goals as goal
use Rattle.prefix_scopes.proofs.hashed.HashedScopes.find.Goals.{After-flatten}

told : (c : After-flatten) → c.flatten.result ≡ place_of c.args.prefix.now (reverse c.self.inside.bindings.items)
told c = c.flatten.ensures ∙ ap option_flatten (c.copied.ensures ∙ c.get.ensures.value) ∙ c.self.invariant.told c.args.prefix

pub returns-in_err-place : goal.returns-in_err-place
returns-in_err-place c =
    let e = told (goal.at.returns-in_err-place c).After-flatten in
    c.from_residual.ensures ∙ sym (place_missed c.args.prefix.now (reverse c.self.inside.bindings.items) (sym e ∙ c.in_err-place.was)) ∙ ap (number_of c.args.prefix.now) c.self.view_is

pub index-requires : goal.index-requires
index-requires c =
    let e = told (goal.at.index-requires c).After-flatten in
    omega (arith, place_inside c.args.prefix.now c.self.inside.bindings.items c.in_ok-place.place (sym e ∙ c.in_ok-place.was))

pub returns : goal.returns
returns c =
    let e = told (goal.at.returns c).After-flatten in
    sym (place_number c.args.prefix.now c.self.inside.bindings.items c.in_ok-place.place c.index.result.now (sym e ∙ c.in_ok-place.was) c.index.ensures) ∙ ap (number_of c.args.prefix.now) c.self.view_is
