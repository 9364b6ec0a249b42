use Rattle.std.proofs.Common.{arith, ap}
use Rattle.tree_model.specs.declared.row.Row.{Row}
use Rattle.axis_steps.proofs.Descendants.{on_below}
use Rattle.axis_steps.proofs.Standing.{row_named, fits_end}
use Rattle.axis_steps.proofs.below.push_below.Goals as goal

pub overflow_add-place : goal.overflow_add-place
overflow_add-place c =
    let rows = c.args.reader.now in
    let laid = c.requires.standing.laid in
    let sizes = laid.sizes c.args.place c.requires.within in
    omega (arith, sizes.1, sizes.2, ap (λ (r : Row). r.asize) c.row_at-row.ensures.row, c.row_at-row.ensures.few)

pub overflow_add-place-2 : goal.overflow_add-place-2
overflow_add-place-2 c =
    let rows = c.args.reader.now in
    let laid = c.requires.standing.laid in
    omega (arith, fits_end rows laid c.args.place c.row_at-row.result c.requires.within c.row_at-row.ensures.row, c.row_at-row.ensures.few)

pub push_rows-requires-clause-within : goal.push_rows-requires-clause-within
push_rows-requires-clause-within c =
    let rows = c.args.reader.now in
    let laid = c.requires.standing.laid in
    rw c.row_at-row.ensures.rows (fits_end rows laid c.args.place c.row_at-row.result c.requires.within c.row_at-row.ensures.row)

pub returns-clause-below : goal.returns-clause-below
returns-clause-below c =
    let rows = c.args.reader.now in
    let laid = c.requires.standing.laid in
    on_below c.args.names.now rows c.args.step.now laid c.args.place c.row_at-row.result c.args.found.now.items c.push_own.new.found.items c.push_rows.new.found.items c.push_rows.result
    c.requires.within c.row_at-row.ensures.row c.requires.axis (c.in_ok-push_own.ensures.own rows c.requires.within c.row_at-row.ensures.row) (rw c.row_at-row.ensures.rows at c.push_rows.ensures.pushed)

pub push_rows-requires-clause-order : goal.push_rows-requires-clause-order
push_rows-requires-clause-order c =
    let rows = c.args.reader.now in
    let laid = c.requires.standing.laid in
    omega (arith, (laid.sizes c.args.place c.requires.within).1, ap (λ (r : Row). r.asize) c.row_at-row.ensures.row, ap (λ (r : Row). r.size) c.row_at-row.ensures.row)

pub push_own-requires : goal.push_own-requires
push_own-requires c = record { named = row_named c.args.names.now c.args.reader.now c.requires.standing c.args.place c.row_at-row.result c.requires.within c.row_at-row.ensures.row }
