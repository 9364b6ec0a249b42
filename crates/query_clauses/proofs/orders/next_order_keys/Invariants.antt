use Rattle.std.proofs.Common.{◌-◌}
use denote.Text.{Utf8}
use denote.Shadow.{shadow}
use Rattle.query_terms.specs.Grammar.{keys_in, next_order_key}
use Rattle.query_tokens.specs.Reads.{at}
use Rattle.query_tokens.proofs.Loops.{Loop}
use Rattle.query_clauses.proofs.orders.next_order_keys.Given as goal

abbrev pub invariant-loop-turn : goal.invariant-loop-turn
invariant-loop-turn g l = shadow (Utf8 l.after) × Loop keys_in (at l.descent.source next_order_key) l.rest (l._turn-end - l._turn) l.after l.found
