use Rattle.std.proofs.Common.{◌-◌}
use denote.Text.{Utf8}
use denote.Shadow.{shadow}
use Rattle.query_terms.specs.Markup.{run_of, content_piece}
use Rattle.query_tokens.specs.Reads.{at}
use Rattle.query_tokens.proofs.Loops.{Loop}
use Rattle.query_constructors.specs.Runs.{as_run}
use Rattle.query_constructors.proofs.contents.content_run.Given as goal

abbrev pub invariant-loop-turn : goal.invariant-loop-turn
invariant-loop-turn g l = shadow (Utf8 l.after) × Loop run_of (at l.descent.source content_piece) l.rest (l._turn-end - l._turn) l.after (as_run l.run)
