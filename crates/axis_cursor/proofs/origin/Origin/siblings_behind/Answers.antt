use Rattle.axis_cursor.proofs.Beginnings.{child_told, begins_following_sibling, begins_following_none}
use Rattle.axis_cursor.proofs.origin.Origin.siblings_behind.Goals as goal

pub returns-then-not-is_child-clause-begins : goal.returns-then-not-is_child-clause-begins
returns-then-not-is_child-clause-begins c =
    begins_following_none c.args.reader.now c.requires.placed.laid c.args.self.context c.requires.placed.within
    (child_told c.args.reader.now c.args.self.context c.args.row.now _ _ c.requires.row c.is_child.ensures c.if-not-is_child.true)

pub returns-clause-begins : goal.returns-clause-begins
returns-clause-begins c =
    rw (c.row_at-parent.ensures.row, c.requires.row) (begins_following_sibling c.args.reader.now c.requires.placed.laid c.args.self.context c.requires.placed.within
    (child_told c.args.reader.now c.args.self.context c.args.row.now _ _ c.requires.row c.is_child.ensures c.if-not-is_child.false))
