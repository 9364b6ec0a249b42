use Rattle.std.proofs.Common.{◌≡◌, ◌+◌, ◌<◌, ◌≤◌, length, drop}
use Rattle.std.specs.Prelude.{All}
use Rattle.xml_rows.specs.Scoping.{scope_in}
use Rattle.xml_rows.proofs.Attributing.{IsAlong}
use Rattle.xml_rows.proofs.attributes.add_attributes.Given as goal

abbrev pub invariant-loop-pair : goal.invariant-loop-pair
invariant-loop-pair l = record {
  along : IsAlong (scope_in l.fn.names.uris l.scopes.scope) l.fn.names.uris l.place l.pairs (drop l.pair-index l.pairs) l.fn.names.names l.names.names l.fn.rows.rows l.rows.rows l.unbound l.fn.found.items l.found.items;
  few : length l.rows.rows ≤ length l.fn.rows.rows + l.pair-index;
  within : l.place < length l.rows.rows;
  open_at : l.rows.open_at ≡ l.fn.rows.open_at;
  uris : l.names.uris ≡ l.fn.names.uris;
  in_use : All (λ e. e.uri < length l.fn.names.uris) l.found.items;
}
