use Rattle.std.proofs.Common.{◌≡◌, ◌+◌, ◌-◌, ◌≤◌, length, drop}
use Rattle.std.specs.List.{prefix_len}
use Rattle.tree_model.specs.XmlGood.{in_value}
use Rattle.xml_pieces.proofs.runs.value_len.Given as goal

abbrev pub invariant-loop-len : goal.invariant-loop-len
invariant-loop-len l = record { within : l.len ≤ length l.bytes; sofar : l.len + prefix_len (in_value l.delim) (drop l.len l.bytes) ≡ prefix_len (in_value l.delim) l.bytes }

abbrev pub decreases-loop-len : goal.decreases-loop-len
decreases-loop-len l = length l.bytes - l.len
