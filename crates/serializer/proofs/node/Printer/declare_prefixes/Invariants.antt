use Rattle.std.proofs.Common.{◌≡◌, ◌++◌, take}
use Rattle.std.specs.List.{flat_map}
use Rattle.tree_model.specs.Printing.{declaration_text, wanted}
use Rattle.serializer.specs.Growth.{Grew}
use Rattle.serializer.specs.Scopes.{scope_of, Declares}
use Rattle.serializer.proofs.Declaring.{prefixed}
use Rattle.serializer.proofs.node.Printer.declare_prefixes.Given as goal

abbrev pub invariant-loop-row : goal.invariant-loop-row
invariant-loop-row l = record {
  declares : Declares l.place (wanted (scope_of l.fn.bindings) (prefixed l.self.names.now l.self.heap.now (take l.row-index l.attrs))) l.fn.bindings l.bindings;
  text : l.out.items ≡ l.fn.out.items ++ flat_map declaration_text (wanted (scope_of l.fn.bindings) (prefixed l.self.names.now l.self.heap.now (take l.row-index l.attrs)));
  kept : Grew l.fn.out.items l.out.items;
}
