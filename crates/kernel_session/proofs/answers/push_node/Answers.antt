use Rattle.std.proofs.Common.{arith}
use Rattle.doc_store.specs.Stored.{base_of}
use Rattle.kernel_session.proofs.PathPlaces.{text_of_node}
use Rattle.kernel_session.proofs.Databases.{kept_counted}
use Rattle.kernel_session.proofs.answers.push_node.Goals as goal

pub print_node-requires-clause-held : goal.print_node-requires-clause-held
print_node-requires-clause-held c = rw (c.table.ensures.table, c.row_pool.ensures) c.table.ensures.kept.held

pub print_node-requires-clause-trees : goal.print_node-requires-clause-trees
print_node-requires-clause-trees c = rw (c.names.ensures, c.heap.ensures, c.table.ensures.table, c.row_pool.ensures) c.table.ensures.kept.trees

pub print_node-requires-clause-within : goal.print_node-requires-clause-within
print_node-requires-clause-within c = rw (c.table.ensures.table, c.row_pool.ensures) (omega (arith, c.requires.within, kept_counted c.args.database.now c.table.ensures.kept))

pub returns : goal.returns
returns c =
    text_of_node (base_of c.args.database.now).documents c.args.place c.args.out.now.items c.print_node.new.out.items c.print_node.result
    c.requires.within
    (rw (c.names.ensures, c.heap.ensures, c.table.ensures.table, c.row_pool.ensures) at c.print_node.ensures.text)
