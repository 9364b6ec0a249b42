-- Bindings in a row, of which the innermost stands last.
use Rattle.std.specs.Prelude.{List, map, reverse}
use Rattle.prefix_scopes.specs.Scoping.{Numbering}
use Rattle.prefix_scopes.specs.declared.scopes.Bound.{Bound}

abbrev pub numbering_of : Bound → Numbering
numbering_of bound = (bound.prefix.now, bound.number)

abbrev pub scope_of : List Bound → List Numbering
scope_of bounds = map numbering_of (reverse bounds)
