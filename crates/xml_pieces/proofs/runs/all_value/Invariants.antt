use Rattle.std.proofs.Common.{◌≡◌, ◌&&◌, drop}
use Rattle.std.specs.List.{list_all}
use Rattle.tree_model.specs.XmlGood.{in_value}
use Rattle.xml_pieces.proofs.runs.all_value.Given as goal

abbrev pub invariant-loop-byte : goal.invariant-loop-byte
invariant-loop-byte l = (l.all && list_all (in_value l.delim) (drop l.byte-index l.bytes)) ≡ list_all (in_value l.delim) l.bytes
