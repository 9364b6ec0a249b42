use Rattle.std.proofs.Common.{◌-◌}
use denote.Text.{Utf8}
use denote.Shadow.{shadow}
use Rattle.query_terms.specs.Grammar.{clauses_in, next_for_variable}
use Rattle.query_tokens.specs.Reads.{at}
use Rattle.query_tokens.proofs.Loops.{Loop}
use Rattle.query_clauses.proofs.bindings.next_for_variables.Given as goal

abbrev pub invariant-loop-turn : goal.invariant-loop-turn
invariant-loop-turn g l = shadow (Utf8 l.after) × Loop clauses_in (at l.descent.source next_for_variable) l.rest (l._turn-end - l._turn) l.after l.found
