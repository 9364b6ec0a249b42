use Rattle.std.proofs.Common.{◌≡◌, ◌≤◌, drop}
use Rattle.std.specs.Prelude.{min}
use Rattle.tree_model.specs.XmlGood.{number_from}
use Rattle.xml_pieces.proofs.references.number_of.Given as goal

abbrev pub invariant-loop-digit : goal.invariant-loop-digit
invariant-loop-digit l = record {
  low : l.number ≤ 0x11_0000;
  sofar : min (number_from l.base l.number (drop l.digit-index l.digits)) 0x11_0000 ≡ min (number_from l.base 0 l.digits) 0x11_0000;
}
