use Rattle.std.proofs.Common.{◌≡◌, ◌+◌, ◌-◌, ◌≤◌, ◌∷◌, length, drop}
use Rattle.xml_pieces.specs.Readers.{until_len}
use Rattle.xml_pieces.proofs.words.until_len.Given as goal

abbrev pub invariant-loop-len : goal.invariant-loop-len
invariant-loop-len l = record { within : l.len ≤ length l.bytes; sofar : l.len + until_len (l.first ∷ l.rest) (drop l.len l.bytes) ≡ until_len (l.first ∷ l.rest) l.bytes }

abbrev pub decreases-loop-len : goal.decreases-loop-len
decreases-loop-len l = length l.bytes - l.len
