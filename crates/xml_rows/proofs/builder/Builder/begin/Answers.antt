use Rattle.std.proofs.Common.{◌<◌, length, rules, arith, ap}
use Rattle.xml_rows.specs.Texts.{pending_count}
use Rattle.xml_rows.proofs.builder.Builder.begin.Goals as goal

pub invariant_of-result : goal.invariant_of-result
invariant_of-result c =
    let first : c.in_ok-uri_number.field-0 < length c.uri_number.new.self.uris = search rules in
    let second : c.no_uri.result < length c.uri_number.new.self.uris = search rules in
    rw c.in_ok-new.ensures.ok
    (record {
      placed = c.in_ok-rows.ensures.placed c.uri_number.new.self.names c.new-4.result.settled c.unnamed.ensures.within;
      uris = rw (c.in_ok-bind-2.ensures.scope, c.in_ok-bind.ensures.scope, c.new-scopes.ensures.scope) (second, (first, tt));
      outer = rw (c.in_ok-bind-2.ensures.outer, c.in_ok-bind.ensures.outer, c.new-scopes.ensures.outer) tt;
      ready = omega (arith, c.in_ok-rows.ensures.len, ap pending_count c.new-4.ensures.pending);
    })
