use Rattle.std.proofs.Common.{length}
use Rattle.doc_import.proofs.ReadLoop.{IsRead}
use Rattle.doc_import.proofs.reading.read.Given as goal

abbrev pub invariant-loop-rest : goal.invariant-loop-rest
invariant-loop-rest l = IsRead l.strip l.at l.body l.builder l.control l.rest

abbrev pub decreases-loop-rest : goal.decreases-loop-rest
decreases-loop-rest l = length l.rest
