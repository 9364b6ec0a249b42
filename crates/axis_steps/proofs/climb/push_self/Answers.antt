use Rattle.std.proofs.Common.{◌∙◌}
use Rattle.axis_steps.proofs.Standing.{row_named, row_tested, self_added}
use Rattle.axis_steps.proofs.climb.push_self.Goals as goal

pub passes-requires : goal.passes-requires
passes-requires c = row_named c.args.names.now c.args.reader.now c.requires.standing c.args.place c.row_at.result c.requires.within c.row_at.ensures.row

pub returns-in_ok-push-clause-own : goal.returns-in_ok-push-clause-own
returns-in_ok-push-clause-own c =
    let names = c.args.names.now in
    let rows = c.args.reader.now in
    let passed = row_tested names rows c.args.step.now c.args.place c.row_at.result c.passes.result c.row_at.ensures.row c.passes.ensures ∙ c.if-passes.true in
    let own = self_added names rows c.args.step.now c.args.place c.args.found.now.items c.requires.within (c.has_self.ensures.0 c.if-has_self.true) passed in
    rw c.in_ok-push.ensures.items own
