use Rattle.std.proofs.Common.{◌≡◌, ◌-◌, ◌++◌, length}
use Rattle.std.specs.List.{Contains}
use Rattle.tree_model.specs.Forest.{grove_of}
use Rattle.tree_model.specs.Labels.{Label}
use Rattle.tree_model.specs.Nodes.{Node, nodes}
use Rattle.tree_model.specs.Printing.{node_text}
use Rattle.tree_model.specs.Rows.{lines_of}
use Rattle.serializer.specs.Growth.{Grew}
use Rattle.serializer.specs.Opened.{Ahead}
use Rattle.serializer.proofs.node.Printer.push_node.Given as goal

abbrev pub invariant-loop-attrs : goal.invariant-loop-attrs
invariant-loop-attrs l = record {
  rows : l.rows ≡ l.fn.rows;
  parents : l.parents ≡ l.fn.rows;
  ahead : (node : Node Label) → Contains (nodes (grove_of (lines_of l.self.names.now l.self.heap.now l.fn.rows))) node → node.place ≡ l.top
      → Ahead (lines_of l.self.names.now l.self.heap.now l.fn.rows) l.top l.at l.bindings l.out.items (l.fn.out.items ++ node_text node);
  kept : Grew l.fn.out.items l.out.items;
}

abbrev pub decreases-loop-attrs : goal.decreases-loop-attrs
decreases-loop-attrs l = length l.fn.rows - l.at
