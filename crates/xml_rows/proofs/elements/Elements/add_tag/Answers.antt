use Rattle.std.proofs.Common.{arith, rules, ap, ◌∙◌}
use Rattle.tree_model.specs.Rows.{ArePlaced}
use Rattle.tree_model.specs.XmlMeaning.{with_attrs}
use Rattle.xml_rows.specs.Scoping.{scope_in}
use Rattle.xml_rows.specs.Tagging.{pairs_of}
use Rattle.xml_rows.proofs.Tagged.{pairs_named, plain_few, tag_bad_by, tag_lines_by, IsGathered, placed_as, plain_as, val_inside, pairs_inside, tag_lines_as}
use Rattle.xml_rows.proofs.elements.Elements.add_tag.Goals as goal

pub add_element-requires-clause-few : goal.add_element-requires-clause-few
add_element-requires-clause-few c = omega (arith, c.requires.few, c.in_ok-declared.ensures.plain, plain_few c.args.values.now.settled c.args.pairs.now)

pub add_attributes-requires-clause-named : goal.add_attributes-requires-clause-named
add_attributes-requires-clause-named c = pairs_named _ _ c.requires.pairs

pub returns-clause-bad : goal.returns-clause-bad
returns-clause-bad c =
    tag_bad_by c.declare.new.names.uris c.add_element.new.names.uris c.add_attributes.new.names.uris c.declare.new.scopes.scope _ c.args.name.now (pairs_of c.args.values.now.settled c.args.pairs.now) c.clear.new.self.items
    c.add_attributes.new.found.items c.deref.result.now c.in_ok-declared.declared.is_bad c.in_ok-no_element.no_element c.in_ok-unbound.unbound c.in_ok-twice.twice
    (c.in_ok-declared.ensures.scope ∙ ap (λ s. with_attrs (pairs_of c.args.values.now.settled c.args.pairs.now) (scope_in c.args.self.now.names.uris s)) c.in_ok-enter.ensures.scope) c.in_ok-no_element.ensures.uris_kept c.in_ok-unbound.ensures.uris_kept c.in_ok-declared.ensures.bad c.in_ok-no_element.ensures.unbound (c.in_ok-unbound.ensures.unbound c.args.values.now.settled) c.in_ok-twice.ensures
    c.deref.ensures.value c.clear.ensures.items (c.in_ok-unbound.ensures.found_more c.args.values.now.settled)

pub returns-clause-lines : goal.returns-clause-lines
returns-clause-lines c = λ placed.
    let values = c.settle-val.new.self.settled in
    let is : IsGathered c.args.values.now.settled values c.args.pairs.now c.settle-val.result = record { grown = search rules; at = search rules; len = search rules; are = c.requires.pairs } in
    let before : ArePlaced c.declare.new.names.names values c.args.self.now.rows.rows = rw c.in_ok-declared.ensures.names (placed_as _ _ _ _ is _ _ placed) in
    tag_lines_as _ _ _ _ is c.args.self.now.names.names c.args.self.now.rows.rows _ c.args.self.now.rows.open_at _ c.args.name.now placed
    (tag_lines_by c.args.self.now.names.names c.declare.new.names.names c.add_element.new.names.names c.add_attributes.new.names.names c.declare.new.names.uris c.add_element.new.names.uris c.declare.new.scopes.scope _ values
    c.args.self.now.rows.rows c.add_element.new.rows.rows c.add_attributes.new.rows.rows c.args.self.now.rows.open_at c.args.name.now _ c.args.pairs.now c.in_ok-declared.declared.plain c.len-place.result
    (c.in_ok-declared.ensures.scope ∙ ap (λ s. with_attrs (pairs_of c.args.values.now.settled c.args.pairs.now) (scope_in c.args.self.now.names.uris s)) c.in_ok-enter.ensures.scope) c.in_ok-no_element.ensures.uris_kept c.in_ok-declared.ensures.names c.len-place.ensures.len c.in_ok-no_element.ensures.len (plain_as _ _ _ _ is _ c.in_ok-declared.ensures.plain)
    (c.in_ok-no_element.ensures.lines values before)
    (c.in_ok-unbound.ensures.lines values (c.in_ok-no_element.ensures.placed values before (val_inside _ _ _ _ is)) (pairs_inside _ _ _ _ is)))

pub returns-clause-placed : goal.returns-clause-placed
returns-clause-placed c = λ placed.
    let values = c.settle-val.new.self.settled in
    let is : IsGathered c.args.values.now.settled values c.args.pairs.now c.settle-val.result = record { grown = search rules; at = search rules; len = search rules; are = c.requires.pairs } in
    let before : ArePlaced c.declare.new.names.names values c.args.self.now.rows.rows = rw c.in_ok-declared.ensures.names (placed_as _ _ _ _ is _ _ placed) in
    c.in_ok-unbound.ensures.placed values (c.in_ok-no_element.ensures.placed values before (val_inside _ _ _ _ is)) (pairs_inside _ _ _ _ is)
