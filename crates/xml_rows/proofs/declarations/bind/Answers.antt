use Rattle.xml_rows.proofs.Scoped.{scope_bound, uris_bound}
use Rattle.xml_rows.proofs.declarations.bind.Goals as goal

pub returns-clause-scope : goal.returns-clause-scope
returns-clause-scope c =
    scope_bound c.args.names.now.uris c.uri_number.new.self.uris c.args.scopes.now.scope c.bind.new.self.scope (c.args.prefix.now, c.in_ok-number.number) c.args.uri.now c.in_ok-number.ensures.uris c.requires.uris c.in_ok-bind.ensures.scope
    c.in_ok-number.ensures.uri

pub returns-clause-uris : goal.returns-clause-uris
returns-clause-uris c =
    uris_bound c.args.names.now.uris c.uri_number.new.self.uris c.args.scopes.now.scope c.bind.new.self.scope (c.args.prefix.now, c.in_ok-number.number) c.in_ok-number.ensures.uris c.requires.uris c.in_ok-bind.ensures.scope
    c.in_ok-number.ensures.within
