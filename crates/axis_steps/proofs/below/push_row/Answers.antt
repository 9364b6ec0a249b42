use Rattle.std.proofs.Common.{inl, inr, sym, ap, ◌∙◌}
use Rattle.node_table.specs.Laid.{is_attribute}
use Rattle.tree_model.specs.declared.row.Row.{Row}
use Rattle.axis_steps.proofs.Descendants.{row_pushed, row_passed}
use Rattle.axis_steps.proofs.Standing.{row_named, row_tested}
use Rattle.axis_steps.proofs.below.push_row.Goals as goal

pub returns-then-is_attribute-clause-pushed : goal.returns-then-is_attribute-clause-pushed
returns-then-is_attribute-clause-pushed c =
    let marked = ap (λ (r : Row). is_attribute r.kind) (sym c.row_at-row.ensures.row) ∙ sym c.is_attribute.ensures ∙ c.if-is_attribute.true in
    row_passed c.args.names.now c.args.reader.now c.args.step.now c.args.place c.args.found.now.items (inl marked)

pub passes-requires : goal.passes-requires
passes-requires c = row_named c.args.names.now c.args.reader.now c.requires.standing c.args.place c.row_at-row.result c.requires.within c.row_at-row.ensures.row

pub returns-in_ok-push-clause-pushed : goal.returns-in_ok-push-clause-pushed
returns-in_ok-push-clause-pushed c =
    let names = c.args.names.now in
    let rows = c.args.reader.now in
    let plain = ap (λ (r : Row). is_attribute r.kind) (sym c.row_at-row.ensures.row) ∙ sym c.is_attribute.ensures ∙ c.if-is_attribute.false in
    let passed = row_tested names rows c.args.step.now c.args.place c.row_at-row.result c.passes.result c.row_at-row.ensures.row c.passes.ensures ∙ c.if-passes.true in
    rw c.in_ok-push.ensures.items (row_pushed names rows c.args.step.now c.args.place c.args.found.now.items c.requires.within plain passed)

pub returns-else-passes-clause-pushed : goal.returns-else-passes-clause-pushed
returns-else-passes-clause-pushed c =
    let names = c.args.names.now in
    let rows = c.args.reader.now in
    let failed = row_tested names rows c.args.step.now c.args.place c.row_at-row.result c.passes.result c.row_at-row.ensures.row c.passes.ensures ∙ c.if-passes.false in
    row_passed names rows c.args.step.now c.args.place c.args.found.now.items (inr failed)
