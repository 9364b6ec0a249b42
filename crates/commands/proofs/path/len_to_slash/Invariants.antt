use Rattle.std.proofs.Common.{◌≡◌, ◌-◌, ◌≤◌, ◌==◌, not, length, take}
use Rattle.std.specs.List.{suffix_len}
use Rattle.commands.proofs.path.len_to_slash.Given as goal

abbrev pub invariant-loop-start : goal.invariant-loop-start
invariant-loop-start l =
    record { within : l.start ≤ length l.name; sofar : l.start - suffix_len (λ c. not (c == 47)) (take l.start l.name) ≡ length l.name - suffix_len (λ c. not (c == 47)) l.name }

abbrev pub decreases-loop-start : goal.decreases-loop-start
decreases-loop-start l = l.start
