use Rattle.std.proofs.Common.{◌≡◌, ◌+◌, ◌++◌, drop}
use Rattle.doc_store.specs.Moving.{moved}
use Rattle.doc_store.proofs.rows.moved_rows.Given as goal

abbrev pub invariant-loop-row : goal.invariant-loop-row
invariant-loop-row l = record {
  same : l.rows ≡ l.fn.built.rows.items;
  id : l.id ≡ l.first + l.row-index;
  made : l.all.items ++ moved l.numbers l.at l.id (drop l.row-index l.rows) ≡ moved l.numbers l.at l.first l.rows;
}
