use Rattle.std.proofs.Common.{◌≡◌, ◌+◌, ◌-◌, ◌==◌, List, length, drop, reverse, ◌∙◌, ap, sym}
use Rattle.std.specs.List.{suffix_len}
use Rattle.prefix_scopes.specs.Scoping.{Numbering}
use Rattle.serializer.specs.declared.bindings.Binding.{Binding}
use Rattle.serializer.specs.Numbered.{in_force}
use Rattle.serializer.specs.Scopes.{outside}
use Rattle.serializer.proofs.Lookups.{outer_within, numbered_left, all_outside, left_outside}
use Rattle.serializer.proofs.bindings.Bindings.leave.Goals as goal

pub returns-then-outer-len : goal.returns-then-outer-len
returns-then-outer-len c =
    let outer = ap (λ (l : List Binding). c.length_outside-outer.result + suffix_len (λ (b : Binding). b.place == c.args.place) l) (sym c.deref.ensures.value) ∙ c.length_outside-outer.ensures ∙ ap length c.deref.ensures.value in
    let all : c.length_outside-outer.result ≡ length c.self.inside.bindings.items = c.if-outer-len.true ∙ c.len.ensures ∙ c.self.inside.bindings.ok.0 in
    sym c.self.view_is ∙ all_outside c.args.place c.self.inside.prefixes c.self.inside.bindings.items c.length_outside-outer.result c.self.invariant outer all ∙ ap (outside c.args.place) c.self.view_is

pub back_to-requires : goal.back_to-requires
back_to-requires c =
    let outer = ap (λ (l : List Binding). c.length_outside-outer.result + suffix_len (λ (b : Binding). b.place == c.args.place) l) (sym c.deref.ensures.value) ∙ c.length_outside-outer.ensures ∙ ap length c.deref.ensures.value in
    outer_within c.args.place c.self.inside.prefixes c.self.inside.bindings.items c.length_outside-outer.result c.self.invariant outer

pub invariant_of-self : goal.invariant_of-self
invariant_of-self c =
    let outer = ap (λ (l : List Binding). c.length_outside-outer.result + suffix_len (λ (b : Binding). b.place == c.args.place) l) (sym c.deref.ensures.value) ∙ c.length_outside-outer.ensures ∙ ap length c.deref.ensures.value in
    rw (c.back_to.ensures, c.truncate.ensures.items) (numbered_left c.args.place c.self.inside.prefixes c.self.inside.bindings.items c.length_outside-outer.result c.self.invariant outer)

pub returns : goal.returns
returns c =
    let outer = ap (λ (l : List Binding). c.length_outside-outer.result + suffix_len (λ (b : Binding). b.place == c.args.place) l) (sym c.deref.ensures.value) ∙ c.length_outside-outer.ensures ∙ ap length c.deref.ensures.value in
    ap (λ (l : List Numbering). in_force l (reverse c.truncate.new.self.items)) c.back_to.ensures
    ∙ ap (λ (l : List Binding). in_force (drop (length c.self.inside.prefixes - c.length_outside-outer.result) c.self.inside.prefixes) (reverse l)) c.truncate.ensures.items
    ∙ left_outside c.args.place c.self.inside.prefixes c.self.inside.bindings.items c.length_outside-outer.result c.self.invariant outer
    ∙ ap (outside c.args.place) c.self.view_is
