use Rattle.std.proofs.Common.{◌≡◌, ◌-◌, ◌≤◌, length, take}
use Rattle.std.specs.List.{suffix_len}
use Rattle.commands.specs.Commands.{is_blank}
use Rattle.commands.proofs.blanks.len_before_blanks.Given as goal

abbrev pub invariant-loop-len : goal.invariant-loop-len
invariant-loop-len l = record { within : l.len ≤ length l.line; sofar : l.len - suffix_len is_blank (take l.len l.line) ≡ length l.line - suffix_len is_blank l.line }

abbrev pub decreases-loop-len : goal.decreases-loop-len
decreases-loop-len l = l.len
