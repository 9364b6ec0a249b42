-- What the parts of clauses and updates stand for, while they are read.
use Rattle.std.specs.Prelude.{Bool, List, Option, Some, None}
use Rattle.query_terms.specs.declared.parts.Place.{Place}
use Rattle.query_terms.specs.declared.tree.Expr.{Expr}
use Rattle.query_terms.specs.declared.tree.OrderKey.{OrderKey}
use Rattle.query_terms.specs.Rule.{Value, absent, both, flag, place, term, keys}
use Rattle.query_tokens.specs.Reads.{as_variable}
use Rattle.query_tokens.specs.declared.written.WrittenVariable.{WrittenVariable}
use Rattle.query_clauses.specs.declared.branches.Branches.{Branches}

abbrev pub as_maybe_variable : Option WrittenVariable → Value
as_maybe_variable None = absent
as_maybe_variable (Some w) = as_variable w

abbrev pub as_maybe_flag : Option Bool → Value
as_maybe_flag None = absent
as_maybe_flag (Some b) = flag b

abbrev pub as_maybe_keys : Option (List OrderKey) → Value
as_maybe_keys None = absent
as_maybe_keys (Some ks) = keys ks

abbrev pub as_maybe_term : Option Expr → Value
as_maybe_term None = absent
as_maybe_term (Some e) = term e

abbrev pub as_branches : Branches → Value
as_branches b = both (term b.positive) (term b.negative)

abbrev pub as_maybe_place : Option Place → Value
as_maybe_place None = absent
as_maybe_place (Some p) = place p
