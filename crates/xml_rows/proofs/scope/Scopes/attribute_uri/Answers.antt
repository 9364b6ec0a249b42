use Rattle.std.proofs.Common.{sym, ◌∙◌, ap}
use Rattle.std.specs.Option.{option_map}
use Rattle.xml_rows.specs.Numbers.{uri_at}
use Rattle.xml_rows.proofs.Scoped.{attribute_split, attribute_whole, number_within}
use Rattle.xml_rows.proofs.scope.Scopes.attribute_uri.Goals as goal

pub returns-in_default-clause-uri : goal.returns-in_default-clause-uri
returns-in_default-clause-uri c = λ uris empty. attribute_whole uris c.args.self.now.scope c.args.name.now c.args.no_uri (sym c.in_default.ensures) empty

pub returns-clause-uri : goal.returns-clause-uri
returns-clause-uri c = λ uris empty.
    attribute_split uris c.args.self.now.scope c.args.name.now (c.in-Some.prefix.now, c.in-Some.local.now) (sym c.in-Some.ensures) ∙ ap (option_map (uri_at uris)) (sym c.find.ensures)

pub returns-clause-within : goal.returns-clause-within
returns-clause-within c = λ count are lt. rw c.find.ensures (number_within count c.args.self.now.scope c.in-Some.prefix.now are)
