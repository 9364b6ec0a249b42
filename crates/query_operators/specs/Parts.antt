-- What the parts of comparisons and ranges stand for, while they are read.
use Rattle.std.specs.Prelude.{Option, Some, None}
use Rattle.query_terms.specs.declared.tree.Expr.{Expr}
use Rattle.query_terms.specs.Rule.{Value, absent, both, comparator, term}
use Rattle.query_operators.specs.declared.comparisons.Compared.{Compared}

abbrev pub as_maybe_term : Option Expr → Value
as_maybe_term None = absent
as_maybe_term (Some e) = term e

abbrev pub as_compared : Compared → Value
as_compared c = both (comparator c.comparator) (term c.right)

abbrev pub as_maybe_compared : Option Compared → Value
as_maybe_compared None = absent
as_maybe_compared (Some c) = as_compared c
