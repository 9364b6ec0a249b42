use Rattle.std.proofs.Common.{◌≡◌, drop}
use Rattle.tree_model.specs.Items as spec
use Rattle.item_ops.proofs.comparison.typed_against.Given as goal

abbrev pub invariant-loop-item : goal.invariant-loop-item
invariant-loop-item l = spec.against l.op l.left (drop l.item-index l.right) ≡ spec.against l.op l.left l.right
