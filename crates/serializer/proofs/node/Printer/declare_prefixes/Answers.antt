use Rattle.tree_model.proofs.Tables.{placed_at}
use Rattle.serializer.proofs.Declaring.{declares_row, text_row}
use Rattle.serializer.proofs.Growing.{grew_twice}
use Rattle.serializer.proofs.node.Printer.declare_prefixes.Goals as goal

pub name-requires : goal.name-requires
name-requires c = (placed_at c.args.self.now.names.now c.args.self.now.heap.now c.args.attrs.now _ _ c.requires.placed c.loop-row-test.true).0

pub loop-row-preserved : goal.loop-row-preserved
loop-row-preserved c =
    let t = c.args.self.now in
    record {
      declares = declares_row t.names.now t.heap.now _ c.args.attrs.now _ _ _ c.loop-row.bindings _ c.loop-row-test.true c.loop-row.invariant.declares (rw c.name.ensures at c.in_ok-declare_prefix.ensures.declares);
      text = text_row t.names.now t.heap.now c.args.place c.args.attrs.now _ _ _ c.loop-row.bindings _ _ _ c.loop-row-test.true c.loop-row.invariant.declares c.loop-row.invariant.text (rw c.name.ensures at c.in_ok-declare_prefix.ensures.text);
      kept = grew_twice _ _ _ c.loop-row.invariant.kept c.declare_prefix.ensures.kept;
    }
