use Rattle.std.proofs.Common.{◌-◌}
use denote.Text.{Utf8}
use denote.Shadow.{shadow}
use Rattle.query_terms.specs.Grammar.{steps_in, next_step}
use Rattle.query_tokens.specs.Reads.{at}
use Rattle.query_tokens.proofs.Loops.{Loop}
use Rattle.query_steps.proofs.steps.next_steps.Given as goal

abbrev pub invariant-loop-turn : goal.invariant-loop-turn
invariant-loop-turn g l = shadow (Utf8 l.after) × Loop steps_in (at l.descent.source next_step) l.rest (l._turn-end - l._turn) l.after l.found
