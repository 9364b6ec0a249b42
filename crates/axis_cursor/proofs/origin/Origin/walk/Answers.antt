use Rattle.std.proofs.Common.{inl, inr}
use Rattle.axis_cursor.proofs.Beginnings.{begins_child, begins_descendant, begins_descendant_or_self, begins_attribute, begins_self, begins_parent, begins_following, begins_ancestor, begins_ancestor_or_self}
use Rattle.axis_cursor.proofs.origin.Origin.walk.Goals as goal

pub returns-in-Child-clause-begins : goal.returns-in-Child-clause-begins
returns-in-Child-clause-begins c = rw (c.in-Child.is, c.requires.row) (begins_child c.args.reader.now c.requires.placed.laid c.args.self.context c.requires.placed.within)

pub returns-in-Descendant-clause-begins : goal.returns-in-Descendant-clause-begins
returns-in-Descendant-clause-begins c =
    rw c.requires.row (elim c.in-Descendant.is [
      | inl is ↦ rw is (begins_descendant c.args.reader.now c.requires.placed.laid c.args.self.context c.requires.placed.within)
      | inr is ↦ rw is (begins_descendant_or_self c.args.reader.now c.requires.placed.laid c.args.self.context c.requires.placed.within)
    ])

pub returns-in-Attribute-clause-begins : goal.returns-in-Attribute-clause-begins
returns-in-Attribute-clause-begins c = rw (c.in-Attribute.is, c.requires.row) (begins_attribute c.args.reader.now c.requires.placed.laid c.args.self.context c.requires.placed.within)

pub returns-in-Slf-clause-begins : goal.returns-in-Slf-clause-begins
returns-in-Slf-clause-begins c =
    elim c.in-Slf.is [
      | inl is ↦ rw is (begins_self c.args.reader.now c.requires.placed.laid c.args.self.context c.requires.placed.within)
      | inr is ↦ rw is (begins_parent c.args.reader.now c.requires.placed.laid c.args.self.context c.requires.placed.within)
    ]

pub returns-in-Following-clause-begins : goal.returns-in-Following-clause-begins
returns-in-Following-clause-begins c = rw (c.in-Following.is, c.requires.row) (begins_following c.args.reader.now c.requires.placed.laid c.args.self.context c.requires.placed.within)

pub returns-in-Ancestor-clause-begins : goal.returns-in-Ancestor-clause-begins
returns-in-Ancestor-clause-begins c =
    rw c.requires.row (elim c.in-Ancestor.is [
      | inl is ↦ rw is (begins_ancestor c.args.reader.now c.requires.placed.laid c.args.self.context c.requires.placed.within)
      | inr is ↦ rw is (begins_ancestor_or_self c.args.reader.now c.requires.placed.laid c.args.self.context c.requires.placed.within)
    ])
