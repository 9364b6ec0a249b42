use Rattle.std.proofs.Common.{◌≡◌, ◌+◌, ◌-◌, ◌≤◌, length, drop}
use Rattle.std.specs.List.{prefix_len}
use Rattle.tree_model.specs.XmlChars.{is_no_colon}
use Rattle.xml_rows.proofs.names.prefix_len.Given as goal

abbrev pub invariant-loop-len : goal.invariant-loop-len
invariant-loop-len l = record { within : l.len ≤ length l.name; sofar : l.len + prefix_len is_no_colon (drop l.len l.name) ≡ prefix_len is_no_colon l.name }

abbrev pub decreases-loop-len : goal.decreases-loop-len
decreases-loop-len l = length l.name - l.len
