use Rattle.std.proofs.Common.{rules, sym, ◌∙◌, ap, ◌<◌, length, subst}
use Rattle.indexmap.specs.IndexMap.{get}
use Rattle.std.specs.Map.{lookup}
use Rattle.xml_rows.specs.Known.{is_same_key}
use Rattle.xml_rows.specs.Numbers.{IsNumber, Numbered}
use Rattle.xml_rows.proofs.Growing.{begins_self}
use Rattle.xml_rows.proofs.Knowing.{known_at, numbered_more, numbered_same, numbered_grown, name_by, prefix_utf8, local_utf8}
use Rattle.xml_rows.proofs.names.Names.number.Goals as goal

pub returns-in-Some-clause-number : goal.returns-in-Some-clause-number
returns-in-Some-clause-number c =
    let at = known_at c.self.inside.pool c.self.inside.uris (get is_same_key c.self.inside.known) c.args.uri c.in-Some.number.now c.args.name c.self.invariant.known (sym c.in-Some.ensures.value) in
    subst (λ (v : Numbered). IsNumber v.names v.uris c.args.uri c.args.name.now c.in-Some.number.now) c.self.view_is at

pub text_of-prefix-requires : goal.text_of-prefix-requires
text_of-prefix-requires c = rw c.parts.ensures.prefix (prefix_utf8 _ c.requires.written)

pub text_of-local-requires : goal.text_of-local-requires
text_of-local-requires c = rw c.parts.ensures.local (local_utf8 _ c.requires.written)

pub invariant_of-self-in_err-insert : goal.invariant_of-self-in_err-insert
invariant_of-self-in_err-insert c =
    let grown = numbered_grown c.self.inside.pool c.intern.new.pool c.self.inside.uris c.self.inside.uris (get is_same_key c.self.inside.known) c.self.inside.unnamed c.self.inside.no_uri c.intern.ensures.names (begins_self _) c.self.invariant in
    numbered_same _ _ _ (get is_same_key c.insert.new.self) _ _ (λ q. ap (λ es. lookup (is_same_key q) es) c.in_err-insert.ensures.err) grown

pub invariant_of-self-2 : goal.invariant_of-self-2
invariant_of-self-2 c =
    let grown = numbered_grown c.self.inside.pool c.intern.new.pool c.self.inside.uris c.self.inside.uris (get is_same_key c.self.inside.known) c.self.inside.unnamed c.self.inside.no_uri c.intern.ensures.names (begins_self _) c.self.invariant in
    let uri_in : c.args.uri < length c.self.inside.uris = search rules in
    let is : IsNumber c.intern.new.pool c.self.inside.uris c.args.uri c.args.name.now c.in_ok-number.number = record { name_in_use = c.in_ok-number.ensures.within; uri_in_use = uri_in; name = name_by _ c.args.name.now _ _ _ _ c.in_ok-number.ensures.name c.get-2.ensures (c.text_of-prefix.ensures ∙ c.parts.ensures.prefix) (c.text_of-local.ensures ∙ c.parts.ensures.local) } in
    numbered_more _ _ _ (get is_same_key c.insert.new.self) _ _ c.args.uri c.in_ok-number.number c.args.name is c.in_ok-insert.ensures.updates.0 grown
