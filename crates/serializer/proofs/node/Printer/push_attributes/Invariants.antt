use Rattle.std.proofs.Common.{◌≡◌, ◌++◌, ◌∷◌, map, drop}
use Rattle.std.specs.List.{flat_map}
use Rattle.tree_model.specs.Printing.{attr_text}
use Rattle.tree_model.specs.Rows.{label_of, ArePlaced}
use Rattle.serializer.specs.Growth.{Grew}
use Rattle.serializer.proofs.node.Printer.push_attributes.Given as goal

abbrev pub invariant-loop-row : goal.invariant-loop-row
invariant-loop-row l = record {
  placed : ArePlaced l.self.names.now l.self.heap.now (drop l.row-index l.attrs);
  text : l.out.items ++ flat_map (λ attr. 32 ∷ attr_text attr) (map (label_of l.self.names.now l.self.heap.now) (drop l.row-index l.attrs))
      ≡ l.fn.out.items ++ flat_map (λ attr. 32 ∷ attr_text attr) (map (label_of l.self.names.now l.self.heap.now) l.attrs);
  kept : Grew l.fn.out.items l.out.items;
}
