use Rattle.std.proofs.Common.{◌≡◌, ◌+◌, ◌-◌, ◌≤◌, length}
use denote.Text.{Utf8}
use denote.Shadow.{shadow}
use Rattle.std.specs.Str.{chars}
use Rattle.query_terms.specs.Parse.{front_len}
use Rattle.query_tokens.specs.Reads.{IsRestOf}
use Rattle.query_syntax.proofs.reading.good_front.Given as goal

abbrev pub invariant-loop-found : goal.invariant-loop-found
invariant-loop-found l =
    shadow (Utf8 l.rest) × IsRestOf l.text l.rest × (length l.rest ≤ length l.text) × (length l.text - length l.rest + front_len (chars l.rest) ≡ front_len (chars l.text))

abbrev pub decreases-loop-found : goal.decreases-loop-found
decreases-loop-found l = length l.rest
