use Rattle.std.proofs.Common.{◌≡◌, ◌++◌, length}
use Rattle.std.specs.List.{flat_map}
use Rattle.tree_model.specs.Declarations.{declarations_of}
use Rattle.tree_model.specs.Printed.{binding_text}
use Rattle.serializer.specs.Growth.{Grew}
use Rattle.serializer.proofs.storage.push_declarations.Given as goal

abbrev pub invariant-loop-declaration : goal.invariant-loop-declaration
invariant-loop-declaration l = record {
  text : l.out.items ++ flat_map binding_text (declarations_of l.rest) ≡ l.fn.out.items ++ flat_map binding_text (declarations_of l.value);
  kept : Grew l.fn.out.items l.out.items;
}

abbrev pub decreases-loop-declaration : goal.decreases-loop-declaration
decreases-loop-declaration l = length l.rest
