use Rattle.std.proofs.Common.{arith}
use Rattle.axis_cursor.specs.Walks.{parent_in}
use Rattle.axis_cursor.proofs.Forwards.{first_tree, next_tree_at}
use Rattle.axis_cursor.proofs.origin.Origin.next_tree.Goals as goal

pub returns-clause-first : goal.returns-clause-first
returns-clause-first c =
    first_tree c.args.reader.now c.requires.laid (parent_in c.args.reader.now c.args.self.axis c.args.self.context) c.args.at.now c.args.end c.row_at-row.result c.requires.at (omega arith) c.row_at-row.ensures.row

pub returns-clause-at : goal.returns-clause-at
returns-clause-at c =
    next_tree_at c.args.reader.now c.requires.laid (parent_in c.args.reader.now c.args.self.axis c.args.self.context) c.args.at.now c.args.end c.row_at-row.result c.requires.at (omega arith) c.row_at-row.ensures.row
