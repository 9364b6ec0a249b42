use Rattle.std.proofs.Common.{◌≡◌, ◌&&◌, drop}
use Rattle.std.specs.List.{list_all}
use Rattle.tree_model.specs.XmlGood.{in_data}
use Rattle.xml_pieces.proofs.runs.all_data.Given as goal

abbrev pub invariant-loop-byte : goal.invariant-loop-byte
invariant-loop-byte l = (l.all && list_all in_data (drop l.byte-index l.bytes)) ≡ list_all in_data l.bytes
