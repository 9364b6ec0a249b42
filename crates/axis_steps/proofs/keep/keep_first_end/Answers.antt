use Rattle.std.proofs.Common.{arith}
use Rattle.tree_model.specs.declared.axis.Axis.TheVariants.{Following}
use Rattle.axis_steps.proofs.Keeping.{keeps_back, keeps_moved, inside_last, behind_last}
use Rattle.axis_steps.proofs.Standing.{fits_end}
use Rattle.axis_steps.proofs.keep.keep_first_end.Goals as goal

pub overflow_add-end : goal.overflow_add-end
overflow_add-end c =
    let laid = c.requires.laid in
    let e = fits_end c.args.reader.now laid c.args.place c.row_at.result c.requires.within c.row_at.ensures.row in
    omega (arith, e, c.row_at.ensures.few)

pub returns-in_default-clause-keeps : goal.returns-in_default-clause-keeps
returns-in_default-clause-keeps c = λ places keeps. keeps_back c.args.reader.now Following places c.args.kept.now.items c.args.place (rw c.in_default.is at keeps)

pub returns-then-is_between-clause-keeps : goal.returns-then-is_between-clause-keeps
returns-then-is_between-clause-keeps c = λ places keeps.
    let rows = c.args.reader.now in
    let laid = c.requires.laid in
    let last = rw c.in-Some.is at c.requires.last in
    let between = c.is_between.ensures.0 c.if-is_between.true in
    inside_last rows laid places c.args.kept.now.items c.in-Some.last.start c.in-Some.last.end c.args.place last.within last.end between.0 between.1 (rw c.in-Some.is at keeps)

pub returns-then-place-last-clause-keeps : goal.returns-then-place-last-clause-keeps
returns-then-place-last-clause-keeps c = λ places keeps.
    let rows = c.args.reader.now in
    let laid = c.requires.laid in
    let last = rw c.in-Some.is at c.requires.last in
    behind_last rows laid places c.args.kept.now.items c.in-Some.last.start c.in-Some.last.end c.in-Some.last.tree_end c.args.place c.requires.within last.end c.if-last-place.true c.if-place-last.true last.tree (rw c.in-Some.is at keeps)

pub returns-clause-keeps : goal.returns-clause-keeps
returns-clause-keeps c = λ places keeps.
    let rows = c.args.reader.now in
    rw c.in_ok-push.ensures.items
    (keeps_back rows Following places _ c.args.place (keeps_moved rows Following places c.args.kept.now.items c.in-Some.last.start (rw c.in-Some.is at keeps)))
