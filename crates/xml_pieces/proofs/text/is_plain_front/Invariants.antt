use Rattle.std.proofs.Common.{◌≡◌, true, drop}
use Rattle.xml_pieces.specs.CharBytes.{each_passes}
use Rattle.xml_pieces.proofs.text.is_plain_front.Given as goal

abbrev pub invariant-loop-i : goal.invariant-loop-i
invariant-loop-i l = l.plain ≡ true → each_passes l.bytes ≡ each_passes (drop l.i l.bytes)
