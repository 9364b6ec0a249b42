use Rattle.std.proofs.Common.{◌≡◌, ◌+◌, ap, arith}
use Rattle.tree_model.specs.Forest.{top_count}
use Rattle.doc_store.specs.Stored.{stored_lines, base_of}
use Rattle.doc_store.proofs.DocumentPlaces.{Walks, Passed, begun, passed, all_left, rows_counted, top_count-le, more_counted, all_counted}
use Rattle.doc_store.proofs.documents.document_count.Goals as goal

start : (c : goal.After-len-end) → Walks c.args.database.now c.reader-reader.result 0 c.len-end.result
start c = begun c.args.database.now c.reader-reader.result c.len-end.result c.table.ensures.kept (cc) c.len-end.ensures.len

pub loop-at-init : goal.loop-at-init
loop-at-init c = record { walks = start c; sofar = omega (arith, ap top_count (all_left c.args.database.now c.reader-reader.result c.len-end.result (start c))) }

step : (c : goal.After-struct_known-1) → Passed c.args.database.now c.row-at.new.self c.loop-at.at c.len-end.result c.row-at.result
step c = passed c.args.database.now c.loop-at.reader c.row-at.new.self c.loop-at.at c.len-end.result c.row-at.result c.loop-at.invariant.walks c.row-at.ensures.rows c.loop-at-test.true c.row-at.ensures.row

pub overflow_add-at : goal.overflow_add-at
overflow_add-at c = omega (arith, (step c).within, (step c).few)

pub overflow_add-count : goal.overflow_add-count
overflow_add-count c =
    omega (
      arith,
      more_counted (stored_lines c.args.database.now) c.loop-at.at c.len-end.result _ c.loop-at.count _ (step c).turn c.loop-at.invariant.sofar,
      top_count-le (base_of c.args.database.now).documents,
      rows_counted c.args.database.now c.table.ensures.kept,
      c.loop-at.invariant.walks.last,
      (step c).few,
    )

pub loop-at-smaller : goal.loop-at-smaller
loop-at-smaller c = omega (arith, (step c).forth, (step c).within)

pub loop-at-preserved : goal.loop-at-preserved
loop-at-preserved c = record {
  walks = (step c).walks;
  sofar = more_counted (stored_lines c.args.database.now) c.loop-at.at c.len-end.result _ c.loop-at.count _ (step c).turn c.loop-at.invariant.sofar;
}

pub returns : goal.returns
returns c = all_counted (stored_lines c.args.database.now) c.loop-at.at c.len-end.result c.loop-at.count _ c.loop-at.invariant.walks.trees c.loop-at-test.false c.loop-at.invariant.sofar
