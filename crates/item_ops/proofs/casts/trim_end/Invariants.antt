use Rattle.std.proofs.Common.{◌≡◌, ◌-◌, take, length}
use Rattle.std.specs.List.{suffix_len}
use Rattle.tree_model.specs.Numbers.{is_blank}
use Rattle.item_ops.proofs.casts.trim_end.Given as goal

abbrev pub invariant-loop-rest : goal.invariant-loop-rest
invariant-loop-rest l = take (length l.rest - suffix_len is_blank l.rest) l.rest ≡ take (length l.text - suffix_len is_blank l.text) l.text

abbrev pub decreases-loop-rest : goal.decreases-loop-rest
decreases-loop-rest l = length l.rest
