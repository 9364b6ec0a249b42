use Rattle.std.proofs.Common.{◌-◌}
use denote.Text.{Utf8}
use denote.Shadow.{shadow}
use Rattle.query_terms.specs.Rule.{char}
use Rattle.query_tokens.specs.Reads.{at, in_class}
use Rattle.query_tokens.proofs.Loops.{Loop, whatever}
use Rattle.query_tokens.proofs.source.QuerySource.run.Given as goal

abbrev pub invariant-loop-turn : goal.invariant-loop-turn
invariant-loop-turn l = shadow (Utf8 l.after) × Loop whatever (at l.self (char (in_class l.class))) l.rest (l._turn-end - l._turn) l.after tt
