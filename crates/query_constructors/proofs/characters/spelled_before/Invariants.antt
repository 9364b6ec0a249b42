use Rattle.std.proofs.Common.{◌-◌}
use Rattle.std.specs.String.{string_bytes}
use denote.Text.{Utf8}
use denote.Shadow.{shadow}
use Rattle.query_terms.specs.Lexis.{spelled}
use Rattle.query_terms.specs.Markup.{char_before}
use Rattle.query_tokens.specs.Reads.{at}
use Rattle.query_tokens.proofs.Loops.{Loop}
use Rattle.query_constructors.proofs.characters.spelled_before.Given as goal

abbrev pub invariant-loop-turn : goal.invariant-loop-turn
invariant-loop-turn g l = shadow (Utf8 l.after) × Loop spelled (at l.descent.source (char_before l.stop)) l.rest (l._turn-end - l._turn) l.after (string_bytes l.text)
