use Rattle.std.proofs.Common.{◌≡◌, ◌++◌, List, length}
use Rattle.std.specs.List.{flat_map}
use Rattle.tree_model.specs.Declarations.{declarations_of}
use Rattle.tree_model.specs.Printing.{declaration_text}
use Rattle.serializer.specs.Growth.{Grew}
use Rattle.serializer.specs.Scopes.{InForce, Declares}
use Rattle.serializer.proofs.node.declare_own.Given as goal

abbrev pub invariant-loop-declaration : goal.invariant-loop-declaration
invariant-loop-declaration l = record {
  text : l.out.items ++ flat_map declaration_text (declarations_of l.rest) ≡ l.fn.out.items ++ flat_map declaration_text (declarations_of l.value);
  declares : (new : List InForce) → Declares l.place (declarations_of l.rest) l.bindings new → Declares l.place (declarations_of l.value) l.fn.bindings new;
  kept : Grew l.fn.out.items l.out.items;
}

abbrev pub decreases-loop-declaration : goal.decreases-loop-declaration
decreases-loop-declaration l = length l.rest
