use Rattle.std.proofs.Common.{sym, ◌∙◌, ap, [], true, false}
use Rattle.std.specs.Option.{option_map}
use Rattle.xml_rows.specs.Numbers.{uri_at}
use Rattle.xml_rows.proofs.Scoped.{element_split, element_whole, number_within}
use Rattle.xml_rows.proofs.scope.Scopes.element_uri.Goals as goal

pub returns-in_default-clause-uri : goal.returns-in_default-clause-uri
returns-in_default-clause-uri c = λ uris. element_whole uris c.args.self.now.scope c.args.name.now (sym c.in_default.ensures) ∙ ap (option_map (uri_at uris)) (sym c.find.ensures)

pub returns-in_default-clause-within : goal.returns-in_default-clause-within
returns-in_default-clause-within c = λ count are. rw c.find.ensures (number_within count c.args.self.now.scope [] are)

pub returns-then-is_xmlns-clause-uri : goal.returns-then-is_xmlns-clause-uri
returns-then-is_xmlns-clause-uri c = λ uris.
    element_split uris c.args.self.now.scope c.args.name.now (c.in-Some.prefix.now, _) true (sym c.in-Some.ensures) (sym c.if-is_xmlns.ensures)

pub returns-clause-uri : goal.returns-clause-uri
returns-clause-uri c = λ uris.
    element_split uris c.args.self.now.scope c.args.name.now (c.in-Some.prefix.now, _) false (sym c.in-Some.ensures) (sym c.if-is_xmlns.ensures) ∙ ap (option_map (uri_at uris)) (sym c.find-2.ensures)

pub returns-clause-within : goal.returns-clause-within
returns-clause-within c = λ count are. rw c.find-2.ensures (number_within count c.args.self.now.scope c.in-Some.prefix.now are)
