use Rattle.std.proofs.Common.{◌-◌}
use denote.Text.{Utf8}
use denote.Shadow.{shadow}
use Rattle.query_terms.specs.Grammar.{declarations_in, declaration_rule}
use Rattle.query_tokens.specs.Reads.{at}
use Rattle.query_tokens.proofs.Loops.{Loop}
use Rattle.query_syntax.proofs.prolog.declarations.Given as goal

abbrev pub invariant-loop-turn : goal.invariant-loop-turn
invariant-loop-turn l = shadow (Utf8 l.after) × Loop declarations_in (at l.source declaration_rule) l.rest (l._turn-end - l._turn) l.after l.found
