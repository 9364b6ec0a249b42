use Rattle.std.proofs.Common.{◌-◌}
use denote.Text.{Utf8}
use denote.Shadow.{shadow}
use Rattle.query_terms.specs.Lexis.{string_char}
use Rattle.query_tokens.specs.Reads.{at, quote_code}
use Rattle.query_tokens.proofs.Loops.{Loop, whatever}
use Rattle.query_tokens.proofs.source.QuerySource.string_end.Given as goal

abbrev pub invariant-loop-turn : goal.invariant-loop-turn
invariant-loop-turn l = shadow (Utf8 l.after) × Loop whatever (at l.self (string_char (quote_code l.quote))) l.body (l._turn-end - l._turn) l.after tt
