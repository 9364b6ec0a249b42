use Rattle.std.proofs.Common.{ap, ◌∙◌}
use Rattle.xml_rows.specs.Numbers.{uri_at}
use Rattle.xml_rows.specs.Scoping.{scope_in}
use Rattle.xml_rows.proofs.Resolving.{or_within, uri_or, placed_begun, element_lines}
use Rattle.xml_rows.proofs.attributes.add_element.Goals as goal

pub number-requires-clause-uri : goal.number-requires-clause-uri
number-requires-clause-uri c = rw c.unwrap_or.ensures (or_within _ _ _ (c.element_uri-uri.ensures.within _ c.requires.uris) c.no_uri.ensures.within)

pub returns-clause-lines : goal.returns-clause-lines
returns-clause-lines c = λ values placed.
    element_lines _ _ c.args.names.now.uris _ values _ _ _ _ _ _ c.args.val _ (scope_in c.args.names.now.uris c.args.scopes.now.scope) c.number.ensures.names placed c.in_ok-number.ensures.number c.number.ensures.uris
    (ap (uri_at c.args.names.now.uris) c.unwrap_or.ensures ∙ uri_or c.args.names.now.uris _ _ _ (c.element_uri-uri.ensures.uri c.args.names.now.uris) c.no_uri.ensures.uri)
    (c.in_ok-add_element.ensures.lines c.number.new.self.names values)

pub returns-clause-placed : goal.returns-clause-placed
returns-clause-placed c = λ values placed le. c.in_ok-add_element.ensures.placed c.number.new.self.names values (placed_begun _ _ values _ c.number.ensures.names placed) c.in_ok-number.ensures.number.name_in_use le
