use Rattle.std.proofs.Common.{◌≡◌, ℕ, take, length}
use Rattle.axis_steps.proofs.siblings.leave_parents_behind.Given as goal

abbrev pub invariant-loop-last : goal.invariant-loop-last
invariant-loop-last l = (k : ℕ) × (l.last.items ≡ take k l.fn.last.items)

abbrev pub decreases-loop-last : goal.decreases-loop-last
decreases-loop-last l = length l.last.items
