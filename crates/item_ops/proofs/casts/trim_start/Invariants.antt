use Rattle.std.proofs.Common.{◌≡◌, drop, length}
use Rattle.std.specs.List.{prefix_len}
use Rattle.tree_model.specs.Numbers.{is_blank}
use Rattle.item_ops.proofs.casts.trim_start.Given as goal

abbrev pub invariant-loop-rest : goal.invariant-loop-rest
invariant-loop-rest l = drop (prefix_len is_blank l.rest) l.rest ≡ drop (prefix_len is_blank l.text) l.text

abbrev pub decreases-loop-rest : goal.decreases-loop-rest
decreases-loop-rest l = length l.rest
