use Rattle.std.proofs.Common.{◌∙◌}
use Rattle.axis_steps.proofs.Descendants.{own_added}
use Rattle.axis_steps.proofs.Standing.{row_tested}
use Rattle.axis_steps.proofs.below.push_own.Goals as goal

pub returns-in_ok-push : goal.returns-in_ok-push
returns-in_ok-push c = record {
  own = λ rows within row.
      let names = c.args.names.now in
      let passed = row_tested names rows c.args.step.now c.args.place c.args.row.now c.passes.result row c.passes.ensures ∙ c.if-passes.true in
      rw c.in_ok-push.ensures.items (own_added names rows c.args.step.now c.args.place c.args.found.now.items within (c.has_self.ensures.0 c.if-has_self.true) passed);
}
