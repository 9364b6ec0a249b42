use Rattle.std.proofs.Common.{◌-◌}
use Rattle.std.specs.String.{string_bytes}
use denote.Text.{Utf8}
use denote.Shadow.{shadow}
use Rattle.query_terms.specs.Lexis.{string_char}
use Rattle.query_tokens.specs.Reads.{at, quote_code, literal_in}
use Rattle.query_tokens.proofs.Loops.{Loop}
use Rattle.query_tokens.proofs.source.QuerySource.spelled.Given as goal

abbrev pub invariant-loop-turn : goal.invariant-loop-turn
invariant-loop-turn l =
    shadow (Utf8 l.after)
    × Loop literal_in (at l.self (string_char (quote_code l.quote))) l.body (l._turn-end - l._turn) l.after (record { text = string_bytes l.text; bad_reference = l.bad })
