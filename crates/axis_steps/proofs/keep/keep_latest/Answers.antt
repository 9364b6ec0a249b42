use Rattle.tree_model.specs.declared.axis.Axis.TheVariants.{Preceding}
use Rattle.axis_steps.proofs.Keeping.{keeps_back, keeps_moved, further_last}
use Rattle.axis_steps.proofs.keep.keep_latest.Goals as goal

pub returns-in_default-clause-keeps : goal.returns-in_default-clause-keeps
returns-in_default-clause-keeps c = λ places keeps. keeps_back c.args.reader.now Preceding places c.args.kept.now.items c.args.place (rw c.in_default.is at keeps)

pub returns-then-is_between-clause-keeps : goal.returns-then-is_between-clause-keeps
returns-then-is_between-clause-keeps c = λ places keeps.
    let rows = c.args.reader.now in
    let laid = c.requires.laid in
    let tree = rw c.in-Some.is at c.requires.last in
    let between = c.is_between.ensures.0 c.if-is_between.true in
    further_last rows laid places c.args.kept.now.items c.in-Some.last.place c.in-Some.last.tree_end c.args.place between.0 between.1 tree (rw c.in-Some.is at keeps)

pub returns-clause-keeps : goal.returns-clause-keeps
returns-clause-keeps c = λ places keeps.
    let rows = c.args.reader.now in
    rw c.in_ok-push.ensures.items
    (keeps_back rows Preceding places _ c.args.place (keeps_moved rows Preceding places c.args.kept.now.items c.in-Some.last.place (rw c.in-Some.is at keeps)))
