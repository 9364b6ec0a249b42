use Rattle.std.proofs.Common.{◌≡◌}
use Rattle.paged_seq.specs.Sequences.{paged_items}
use Rattle.paged_seq.proofs.tests.compare.Given as goal

abbrev pub invariant-loop-i : goal.invariant-loop-i
invariant-loop-i g l = l.reader ≡ paged_items l.pool l.seq
