use Rattle.std.proofs.Common.{◌-◌}
use denote.Text.{Utf8}
use denote.Shadow.{shadow}
use Rattle.query_terms.specs.Markup.{run_of, quoted_piece}
use Rattle.query_tokens.specs.Reads.{quote_code, at}
use Rattle.query_tokens.proofs.Loops.{Loop}
use Rattle.query_constructors.specs.Runs.{as_run}
use Rattle.query_constructors.proofs.quoted.quoted_run.Given as goal

abbrev pub invariant-loop-turn : goal.invariant-loop-turn
invariant-loop-turn g l = shadow (Utf8 l.after) × Loop run_of (at l.descent.source (quoted_piece (quote_code l.quote))) l.rest (l._turn-end - l._turn) l.after (as_run l.run)
