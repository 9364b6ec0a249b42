use Rattle.std.proofs.Common.{◌≡◌, length}
use Rattle.xml_pieces.specs.CharBytes.{each_passes}
use Rattle.xml_pieces.proofs.text.each_passes.Given as goal

abbrev pub invariant-loop-rest : goal.invariant-loop-rest
invariant-loop-rest l = each_passes l.bytes ≡ each_passes l.rest

abbrev pub decreases-loop-rest : goal.decreases-loop-rest
decreases-loop-rest l = length l.rest
