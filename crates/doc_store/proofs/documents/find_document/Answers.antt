use Rattle.std.proofs.Common.{◌∙◌, sym, arith}
use Rattle.tree_model.specs.Rows.{line_of}
use Rattle.doc_store.proofs.DocumentPaths.{all_to_find, looked, not_found}
use Rattle.doc_store.proofs.DocumentPlaces.{Walks, Passed, begun, passed}
use Rattle.doc_store.proofs.documents.find_document.Goals as goal

start : (c : goal.After-len-end) → Walks c.args.database.now c.reader-reader.result 0 c.len-end.result
start c = begun c.args.database.now c.reader-reader.result c.len-end.result c.table.ensures.kept (cc) c.len-end.ensures.len

pub loop-at-init : goal.loop-at-init
loop-at-init c = record { walks = start c; left = all_to_find c.args.path.now c.args.database.now c.reader-reader.result c.len-end.result (start c) }

step : (c : goal.After-get-arg-1) → Passed c.args.database.now c.row-row.new.self c.loop-at.at c.len-end.result c.row-row.result
step c = passed c.args.database.now c.loop-at.reader c.row-row.new.self c.loop-at.at c.len-end.result c.row-row.result c.loop-at.invariant.walks c.row-row.ensures.rows c.loop-at-test.true c.row-row.ensures.row

pub get-requires : goal.get-requires
get-requires c = record { within = rw c.heap.ensures (step c).placed }

pub returns-then-eq-clause-some : goal.returns-then-eq-clause-some
returns-then-eq-clause-some c =
    let step = passed c.args.database.now c.loop-at.reader c.row-row.new.self c.loop-at.at c.len-end.result c.row-row.result c.loop-at.invariant.walks c.row-row.ensures.rows c.loop-at-test.true c.row-row.ensures.row in
    let look = looked c.args.path.now c.args.database.now c.loop-at.at c.len-end.result (line_of c.args.database.now.names c.args.database.now.values c.row-row.result) step.turn c.loop-at.invariant.left in
    look.found (rw (c.get.ensures, c.heap.ensures) at (sym c.eq.ensures ∙ c.if-eq.true))

step_on : (c : goal.After-struct_known-1) → Passed c.args.database.now c.row-row.new.self c.loop-at.at c.len-end.result c.row-row.result
step_on c = passed c.args.database.now c.loop-at.reader c.row-row.new.self c.loop-at.at c.len-end.result c.row-row.result c.loop-at.invariant.walks c.row-row.ensures.rows c.loop-at-test.true c.row-row.ensures.row

pub overflow_add-at : goal.overflow_add-at
overflow_add-at c = omega (arith, (step_on c).within, (step_on c).few)

pub loop-at-smaller : goal.loop-at-smaller
loop-at-smaller c = omega (arith, (step_on c).forth, (step_on c).within)

pub loop-at-preserved : goal.loop-at-preserved
loop-at-preserved c =
    let look = looked c.args.path.now c.args.database.now c.loop-at.at c.len-end.result (line_of c.args.database.now.names c.args.database.now.values c.row-row.result) (step_on c).turn c.loop-at.invariant.left in
    record {
      walks = (step_on c).walks;
      left = look.next (rw (c.get.ensures, c.heap.ensures) at (sym c.eq.ensures ∙ c.if-eq.false));
    }

pub returns-clause-none : goal.returns-clause-none
returns-clause-none c = not_found c.args.path.now c.args.database.now c.loop-at.at c.len-end.result c.loop-at.invariant.walks.trees c.loop-at-test.false c.loop-at.invariant.left
