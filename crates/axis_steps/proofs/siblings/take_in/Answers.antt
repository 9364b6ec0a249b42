use Rattle.std.proofs.Common.{arith, ap}
use Rattle.tree_model.specs.declared.row.Row.{Row}
use Rattle.axis_steps.proofs.Brothers.{taken_none, on_taken, on_last}
use Rattle.axis_steps.proofs.siblings.take_in.Goals as goal

pub child_at-requires : goal.child_at-requires
child_at-requires c =
    let laid = c.requires.laid in
    omega (arith, laid.dists c.args.place c.requires.within, ap (λ (r : Row). r.dist) c.row_at-row.ensures.row)

pub returns-in-None-clause-taken : goal.returns-in-None-clause-taken
returns-in-None-clause-taken c =
    taken_none c.args.reader.now c.args.is_forward c.args.place c.row_at-row.result c.args.children.now.kept.items c.row_at-row.ensures.row (rw c.in-None.is at c.child_at.ensures)

pub returns-in-Some-clause-last : goal.returns-in-Some-clause-last
returns-in-Some-clause-last c =
    on_last c.args.reader.now c.args.is_forward c.args.place c.row_at-row.result c.in-Some.child c.args.children.now c.take_child.new.children c.take_child.result c.row_at-row.ensures.row (rw c.in-Some.is at c.child_at.ensures) c.requires.last c.take_child.ensures

pub returns-in-Some-clause-taken : goal.returns-in-Some-clause-taken
returns-in-Some-clause-taken c =
    on_taken c.args.reader.now c.args.is_forward c.args.place c.row_at-row.result c.in-Some.child c.args.children.now c.take_child.new.children c.take_child.result c.row_at-row.ensures.row (rw c.in-Some.is at c.child_at.ensures) c.requires.last c.take_child.ensures
