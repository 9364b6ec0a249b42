use Rattle.std.proofs.Common.{◌-◌}
use denote.Text.{Utf8}
use denote.Shadow.{shadow}
use Rattle.query_terms.specs.Lexis.{blank}
use Rattle.query_tokens.specs.Reads.{at}
use Rattle.query_tokens.proofs.Loops.{Loop, whatever}
use Rattle.query_tokens.proofs.source.QuerySource.blanks.Given as goal

abbrev pub invariant-loop-turn : goal.invariant-loop-turn
invariant-loop-turn l = shadow (Utf8 l.after) × Loop whatever (at l.self blank) l.rest (l._turn-end - l._turn) l.after tt
