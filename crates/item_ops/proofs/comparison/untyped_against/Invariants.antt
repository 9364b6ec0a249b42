use Rattle.std.proofs.Common.{◌≡◌, drop}
use Rattle.tree_model.specs.Items as spec
use Rattle.tree_model.specs.declared.item.Item.TheVariants.{Untyped}
use Rattle.item_ops.proofs.comparison.untyped_against.Given as goal

abbrev pub invariant-loop-item : goal.invariant-loop-item
invariant-loop-item l = (l.cast.text.now ≡ l.left) × (spec.against l.op (Untyped l.left) (drop l.item-index l.right) ≡ spec.against l.op (Untyped l.left) l.right)
