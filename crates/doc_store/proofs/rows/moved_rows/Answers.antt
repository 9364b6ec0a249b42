use Rattle.std.proofs.Common.{arith, ap, ◌∙◌}
use Rattle.doc_store.specs.Moving.{moved}
use Rattle.doc_store.proofs.Moves.{name_within, value_within, moved_more, moved_all}
use Rattle.doc_store.proofs.rows.moved_rows.Goals as goal

pub moved_row-requires-clause-name : goal.moved_row-requires-clause-name
moved_row-requires-clause-name c =
    name_within c.args.built.now.names c.args.built.now.heap c.args.built.now.rows.items c.as_slice-rows.result.now c.loop-row.row-index _ _ c.requires.placed c.loop-row.invariant.same c.loop-row-test.true c.requires.numbers

pub moved_row-requires-clause-room : goal.moved_row-requires-clause-room
moved_row-requires-clause-room c =
    value_within c.args.built.now.names c.args.built.now.heap c.args.built.now.rows.items c.as_slice-rows.result.now c.loop-row.row-index c.args.at _ c.requires.placed c.loop-row.invariant.same c.loop-row-test.true c.requires.room

pub returns : goal.returns
returns c =
    moved_all c.loop-row.all.items c.as_slice-rows.result.now _ c.args.numbers.now c.args.at c.loop-row.id c.loop-row.row-index c.loop-row.invariant.made c.loop-row-test.false
    ∙ ap (moved c.args.numbers.now c.args.at c.args.first) c.loop-row.invariant.same

pub loop-row-preserved : goal.loop-row-preserved
loop-row-preserved c = record {
  same = c.loop-row.invariant.same;
  id = omega arith;
  made = moved_more c.loop-row.all.items c.push.new.self.items c.as_slice-rows.result.now _ c.args.numbers.now c.args.at c.loop-row.id c.loop-row.row-index c.moved_row.result _ c.loop-row.invariant.made c.moved_row.ensures
      c.loop-row-test.true c.in_ok-push.ensures.items;
}
