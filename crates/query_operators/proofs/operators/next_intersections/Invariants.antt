use Rattle.std.proofs.Common.{◌-◌}
use denote.Text.{Utf8}
use denote.Shadow.{shadow}
use Rattle.query_terms.specs.Markup.{terms_in}
use Rattle.query_terms.specs.Grammar.{next_intersection}
use Rattle.query_tokens.specs.Reads.{at}
use Rattle.query_tokens.proofs.Loops.{Loop}
use Rattle.query_operators.proofs.operators.next_intersections.Given as goal

abbrev pub invariant-loop-turn : goal.invariant-loop-turn
invariant-loop-turn g l = shadow (Utf8 l.after) × Loop terms_in (at l.descent.source next_intersection) l.rest (l._turn-end - l._turn) l.after l.found
