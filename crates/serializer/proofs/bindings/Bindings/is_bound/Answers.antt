use Rattle.std.proofs.Common.{◌∙◌, ap, sym}
use Rattle.std.specs.Str.{bytes_eq}
use Rattle.tree_model.specs.Printing.{is_bound, is_uri}
use Rattle.tree_model.specs.XmlMeaning.{uri_of, first_scope}
use Rattle.serializer.specs.Scopes.{pairs_of}
use Rattle.serializer.proofs.Scoping.{uri_inside, uri_outside}
use Rattle.serializer.proofs.bindings.Bindings.is_bound.Goals as goal

pub returns-in-Some : goal.returns-in-Some
unfolding is_bound
returns-in-Some c =
    let name = c.args.name.now in
    let pairs = pairs_of c.args.self.now in
    let there = uri_inside name.prefix pairs first_scope c.in-Some.uri.now (sym (c.in-Some.ensures ∙ ap (λ p. uri_of p pairs) (c.as_bytes.ensures.value ∙ c.as_str.ensures))) in
    c.eq.ensures ∙ ap (bytes_eq c.in-Some.uri.now) (c.as_bytes-in-Some.ensures.value ∙ c.as_str-in-Some.ensures) ∙ sym (ap (is_uri name.uri) there)

pub returns-in-None : goal.returns-in-None
unfolding is_bound
returns-in-None c =
    let name = c.args.name.now in
    let pairs = pairs_of c.args.self.now in
    c.is_bound_at_first.ensures ∙ sym (ap (is_uri name.uri) (uri_outside name.prefix pairs first_scope (sym (c.in-None.ensures ∙ ap (λ p. uri_of p pairs) (c.as_bytes.ensures.value ∙ c.as_str.ensures)))))
