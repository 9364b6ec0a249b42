use Rattle.std.proofs.Common.{◌≡◌, ◌-◌, ◌++◌}
use Rattle.std.specs.Prelude.{slice_range}
use Rattle.std.specs.List.{join_with_byte}
use Rattle.tree_model.specs.Printed.{row_texts}
use Rattle.tree_model.specs.Rows.{lines_of}
use Rattle.serializer.specs.Growth.{Grew}
use Rattle.serializer.proofs.Ranges.{text_ahead}
use Rattle.serializer.proofs.storage.push_rows.Given as goal

abbrev pub invariant-loop-pre : goal.invariant-loop-pre
invariant-loop-pre l = record {
  rows : l.rows ≡ l.fn.rows;
  kept : Grew l.fn.out.items l.out.items;
  text : l.out.items ++ text_ahead (l.pre - l.start) l.pre (lines_of l.names l.heap (slice_range l.fn.rows l.pre l.end))
      ≡ l.fn.out.items ++ join_with_byte 10 (row_texts l.start (lines_of l.names l.heap (slice_range l.fn.rows l.start l.end)));
}
