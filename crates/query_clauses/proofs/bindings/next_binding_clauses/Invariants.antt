use Rattle.std.proofs.Common.{◌-◌}
use denote.Text.{Utf8}
use denote.Shadow.{shadow}
use Rattle.query_terms.specs.Grammar.{clauses_in, binding_clause}
use Rattle.query_tokens.specs.Reads.{at}
use Rattle.query_tokens.proofs.Loops.{Loop}
use Rattle.query_clauses.proofs.bindings.next_binding_clauses.Given as goal

abbrev pub invariant-loop-turn : goal.invariant-loop-turn
invariant-loop-turn g l = shadow (Utf8 l.after) × Loop clauses_in (at l.descent.source binding_clause) l.rest (l._turn-end - l._turn) l.after l.found
