use Rattle.std.proofs.Common.{◌≡◌, drop}
use Rattle.tree_model.specs.Items as spec
use Rattle.item_ops.proofs.comparison.general.Given as goal

abbrev pub invariant-loop-item : goal.invariant-loop-item
invariant-loop-item l = spec.general l.op (drop l.item-index l.left) l.right ≡ spec.general l.op l.left l.right
