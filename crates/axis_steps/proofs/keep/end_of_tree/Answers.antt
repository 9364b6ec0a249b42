use Rattle.std.proofs.Common.{arith, ◌∙◌}
use Rattle.axis_cursor.proofs.Relations.{read_on}
use Rattle.axis_steps.proofs.Standing.{upwards, stands_up, tree_end, fits_end}
use Rattle.axis_steps.proofs.Nesting.{big}
use Rattle.axis_steps.proofs.keep.end_of_tree.Goals as goal

pub loop-row-init : goal.loop-row-init
loop-row-init c =
    let laid = c.requires.laid in
    record { within = c.requires.within; row = c.row_at-row.ensures.row; before = omega arith; holds = omega (arith, big c.args.reader.now laid c.args.place c.requires.within); rows = c.row_at-row.ensures.rows; meter = c.row_at-row.ensures.meter }

pub overflow_sub-at : goal.overflow_sub-at
overflow_sub-at c =
    let laid = c.requires.laid in
    (upwards c.args.reader.now laid c.loop-row.at c.loop-row.row c.loop-row.invariant.within c.loop-row.invariant.row c.loop-row-test.true).le

pub loop-row-preserved : goal.loop-row-preserved
loop-row-preserved c =
    let laid = c.requires.laid in
    let u = upwards c.args.reader.now laid c.loop-row.at c.loop-row.row c.loop-row.invariant.within c.loop-row.invariant.row c.loop-row-test.true in
    let s = stands_up c.args.reader.now laid c.loop-row.at c.args.place c.loop-row.row.dist c.loop-row.invariant.within u c.loop-row.invariant.before c.loop-row.invariant.holds in
    record { within = u.within; row = rw c.loop-row.invariant.rows at c.row_at-row-in-loop-row.ensures.row; before = s.0; holds = s.1; rows = c.row_at-row-in-loop-row.ensures.rows ∙ c.loop-row.invariant.rows; meter = read_on _ _ _ c.loop-row.invariant.meter c.row_at-row-in-loop-row.ensures.meter }

pub overflow_add-result : goal.overflow_add-result
overflow_add-result c =
    let laid = c.requires.laid in
    let e = fits_end c.args.reader.now laid c.loop-row.at c.loop-row.row c.loop-row.invariant.within c.loop-row.invariant.row in
    omega (arith, e, c.row_at-row.ensures.few)

pub returns-clause-end : goal.returns-clause-end
returns-clause-end c =
    let laid = c.requires.laid in
    tree_end c.args.reader.now laid c.loop-row.at c.args.place c.loop-row.row c.loop-row.invariant.within c.loop-row.invariant.row c.loop-row-test.false c.loop-row.invariant.before c.loop-row.invariant.holds
