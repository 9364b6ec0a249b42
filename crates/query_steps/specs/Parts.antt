-- What the parts of steps and paths stand for, while they are read.
use Rattle.std.specs.Prelude.{List, Option, Some, None}
use Rattle.query_terms.specs.declared.tree.Expr.{Expr}
use Rattle.query_terms.specs.Rule.{Value, absent, both, term, terms, steps}
use Rattle.query_steps.specs.declared.paths.Relative.{Relative}

abbrev pub as_maybe_terms : Option (List Expr) → Value
as_maybe_terms None = absent
as_maybe_terms (Some xs) = terms xs

abbrev pub as_relative : Relative → Value
as_relative r = both (term r.first) (steps r.others)

abbrev pub as_maybe_relative : Option Relative → Value
as_maybe_relative None = absent
as_maybe_relative (Some r) = as_relative r
