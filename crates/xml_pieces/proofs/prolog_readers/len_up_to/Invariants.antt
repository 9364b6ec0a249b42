use Rattle.std.proofs.Common.{◌≡◌, ◌+◌, ◌-◌, ◌≤◌, length, drop}
use Rattle.std.specs.List.{prefix_len}
use Rattle.xml_pieces.specs.Prolog.{up_to}
use Rattle.xml_pieces.proofs.prolog_readers.len_up_to.Given as goal

abbrev pub invariant-loop-len : goal.invariant-loop-len
invariant-loop-len l = record { within : l.len ≤ length l.bytes; sofar : l.len + prefix_len (up_to l.delim) (drop l.len l.bytes) ≡ prefix_len (up_to l.delim) l.bytes }

abbrev pub decreases-loop-len : goal.decreases-loop-len
decreases-loop-len l = length l.bytes - l.len
