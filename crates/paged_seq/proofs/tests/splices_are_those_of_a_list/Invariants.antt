use Rattle.std.proofs.Common.{ℕ}
use Rattle.paged_seq.specs.Sequences.{IsPaged}
use Rattle.paged_seq.proofs.tests.splices_are_those_of_a_list.Given as goal

abbrev pub invariant-loop-round : goal.invariant-loop-round
invariant-loop-round g l = IsPaged ℕ l.pool l.seq
