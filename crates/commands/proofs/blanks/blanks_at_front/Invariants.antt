use Rattle.std.proofs.Common.{◌≡◌, ◌+◌, ◌-◌, ◌≤◌, length, drop}
use Rattle.std.specs.List.{prefix_len}
use Rattle.commands.specs.Commands.{is_blank}
use Rattle.commands.proofs.blanks.blanks_at_front.Given as goal

abbrev pub invariant-loop-count : goal.invariant-loop-count
invariant-loop-count l = record { within : l.count ≤ length l.line; sofar : l.count + prefix_len is_blank (drop l.count l.line) ≡ prefix_len is_blank l.line }

abbrev pub decreases-loop-count : goal.decreases-loop-count
decreases-loop-count l = length l.line - l.count
