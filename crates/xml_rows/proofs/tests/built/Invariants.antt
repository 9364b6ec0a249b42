use Rattle.std.proofs.Common.{◌≡◌, ◌+◌, length}
use Rattle.xml_rows.proofs.tests.built.Given as goal

abbrev pub invariant-loop-piece : goal.invariant-loop-piece
invariant-loop-piece l = l.builder.at + length l.rest ≡ length l.text

abbrev pub decreases-loop-piece : goal.decreases-loop-piece
decreases-loop-piece l = length l.rest
