use Rattle.std.proofs.Common.{◌∙◌, ap}
use Rattle.node_table.specs.Views.{view_of, view_forest}
use Rattle.doc_store.proofs.tests.fill.Goals as goal

pub put_two-done-requires-clause-first : goal.put_two-done-requires-clause-first
put_two-done-requires-clause-first c = c.in_ok-b.ensures.begun.forest ∙ ap (λ rows. view_forest (view_of rows c.args.d.now.names c.args.d.now.values)) c.requires.rows
