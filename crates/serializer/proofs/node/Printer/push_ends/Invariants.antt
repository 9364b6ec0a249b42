use Rattle.std.proofs.Common.{◌≡◌, ℕ, List}
use Rattle.tree_model.specs.Rows.{lines_of}
use Rattle.node_table.specs.Laid.{dist_at}
use Rattle.serializer.specs.Growth.{Grew}
use Rattle.serializer.specs.Opened.{Ended}
use Rattle.serializer.proofs.node.Printer.push_ends.Given as goal

abbrev pub invariant-loop-inner : goal.invariant-loop-inner
invariant-loop-inner l = record {
  rows : l.parents ≡ l.fn.parents;
  dist : l.dist ≡ dist_at l.fn.parents l.inner;
  ended : (whole : List ℕ) → Ended (lines_of l.self.names.now l.self.heap.now l.fn.parents) l.top l.at l.end l.fn.bindings l.fn.out.items whole
      → Ended (lines_of l.self.names.now l.self.heap.now l.fn.parents) l.top l.inner l.end l.bindings l.out.items whole;
  kept : Grew l.fn.out.items l.out.items;
}

abbrev pub decreases-loop-inner : goal.decreases-loop-inner
decreases-loop-inner l = l.inner
