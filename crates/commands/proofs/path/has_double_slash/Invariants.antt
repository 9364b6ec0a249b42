use Rattle.std.proofs.Common.{◌≡◌, false, drop}
use Rattle.commands.proofs.Slashes.{doubles}
use Rattle.commands.proofs.path.has_double_slash.Given as goal

abbrev pub invariant-loop-byte : goal.invariant-loop-byte
invariant-loop-byte l = doubles l.was_slash (drop l.byte-index l.bytes) ≡ doubles false l.bytes
