use Rattle.std.proofs.Common.{◌≡◌, List, length, reverse, ◌∙◌, ap, sym, arith}
use Rattle.std.proofs.lemmas.Bool.{eqb-true}
use Rattle.std.proofs.lemmas.List.{length-reverse}
use Rattle.tree_model.specs.XmlMeaning.{uri_of}
use Rattle.serializer.specs.Scopes.{InForce, pairs_of}
use Rattle.serializer.proofs.Lookups.{nothing_bound, not_bound, found_within, found_uri}
use Rattle.serializer.proofs.bindings.Bindings.uri.Goals as goal

pub returns-then-is_empty : goal.returns-then-is_empty
returns-then-is_empty c =
    let items = c.self.inside.bindings.items in
    let none : length items ≡ 0 = sym c.self.inside.bindings.ok.0 ∙ eqb-true _ 0 (sym c.is_empty.ensures ∙ c.if-is_empty.true) in
    nothing_bound c.args.prefix.now c.self.inside.prefixes (reverse items) (length-reverse items ∙ none) ∙ ap (λ (l : List InForce). uri_of c.args.prefix.now (pairs_of l)) c.self.view_is

pub returns-in_err-number : goal.returns-in_err-number
returns-in_err-number c =
    rw c.from_residual.ensures (sym (not_bound c.args.prefix.now c.self.inside.prefixes (reverse c.self.inside.bindings.items) c.self.invariant (sym c.find.ensures ∙ c.in_err-number.was))
    ∙ ap (λ (l : List InForce). uri_of c.args.prefix.now (pairs_of l)) c.self.view_is)

pub index-requires : goal.index-requires
index-requires c =
    let items = c.self.inside.bindings.items in
    omega (arith, c.self.inside.bindings.ok.0, found_within c.args.prefix.now c.self.inside.prefixes items c.in_ok-number.number c.self.invariant (sym c.find.ensures ∙ c.in_ok-number.was))

pub returns : goal.returns
returns c =
    found_uri c.args.prefix.now c.self.inside.prefixes c.self.inside.bindings.items c.in_ok-number.number c.index.result.now c.self.invariant (sym c.find.ensures ∙ c.in_ok-number.was) c.index.ensures
    ∙ ap (λ (l : List InForce). uri_of c.args.prefix.now (pairs_of l)) c.self.view_is
