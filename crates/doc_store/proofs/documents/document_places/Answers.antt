use Rattle.std.proofs.Common.{◌≡◌, ◌∙◌, ◌+◌, ◌++◌, ap, arith}
use Rattle.doc_store.specs.Places.{roots_between}
use Rattle.doc_store.specs.Stored.{stored_lines}
use Rattle.doc_store.proofs.DocumentPlaces.{Walks, Passed, begun, passed, all_to_list, more_listed, all_listed}
use Rattle.doc_store.proofs.documents.document_places.Goals as goal

start : (c : goal.After-new-places) → Walks c.args.database.now c.reader-reader.result 0 c.len-end.result
start c = begun c.args.database.now c.reader-reader.result c.len-end.result c.table.ensures.kept (cc) c.len-end.ensures.len

pub loop-at-init : goal.loop-at-init
loop-at-init c = record {
  walks = start c;
  sofar =
      ap (λ l. l ++ roots_between (stored_lines c.args.database.now) 0 c.len-end.result) c.new-places.ensures.items
      ∙ all_to_list c.args.database.now c.reader-reader.result c.len-end.result (start c);
}

step : (c : goal.After-struct_known-1) → Passed c.args.database.now c.row-at.new.self c.loop-at.at c.len-end.result c.row-at.result
step c = passed c.args.database.now c.loop-at.reader c.row-at.new.self c.loop-at.at c.len-end.result c.row-at.result c.loop-at.invariant.walks c.row-at.ensures.rows c.loop-at-test.true c.row-at.ensures.row

pub overflow_add-at : goal.overflow_add-at
overflow_add-at c = omega (arith, (step c).within, (step c).few)

pub loop-at-smaller : goal.loop-at-smaller
loop-at-smaller c = omega (arith, (step c).forth, (step c).within)

pub loop-at-preserved : goal.loop-at-preserved
loop-at-preserved c = record {
  walks = (step c).walks;
  sofar =
      ap (λ l. l ++ roots_between (stored_lines c.args.database.now) (c.loop-at.at + c.row-at.result.size) c.len-end.result) c.in_ok-push.ensures.items
      ∙ more_listed (stored_lines c.args.database.now) c.loop-at.at c.len-end.result _ c.loop-at.places.items _ (step c).turn c.loop-at.invariant.sofar;
}

pub returns : goal.returns
returns c = all_listed (stored_lines c.args.database.now) c.loop-at.at c.len-end.result c.loop-at.places.items _ c.loop-at.invariant.walks.trees c.loop-at-test.false c.loop-at.invariant.sofar
