use Rattle.axis_cursor.proofs.Beginnings.{child_told, begins_preceding_sibling, begins_preceding_none}
use Rattle.axis_cursor.proofs.origin.Origin.siblings_before.Goals as goal

pub returns-then-not-is_child : goal.returns-then-not-is_child
returns-then-not-is_child c = λ rows placed row.
    begins_preceding_none rows placed.laid c.args.self.context placed.within (child_told rows c.args.self.context c.args.row.now _ _ row c.is_child.ensures c.if-not-is_child.true)

pub returns : goal.returns
returns c = λ rows placed row.
    rw row (begins_preceding_sibling rows placed.laid c.args.self.context placed.within (child_told rows c.args.self.context c.args.row.now _ _ row c.is_child.ensures c.if-not-is_child.false))
