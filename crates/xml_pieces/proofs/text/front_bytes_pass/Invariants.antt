use Rattle.std.proofs.Common.{◌≡◌, drop}
use Rattle.xml_pieces.specs.CharBytes.{each_passes}
use Rattle.xml_pieces.proofs.text.front_bytes_pass.Given as goal

abbrev pub invariant-loop-i : goal.invariant-loop-i
invariant-loop-i l = each_passes l.bytes ≡ each_passes (drop l.i l.bytes)
