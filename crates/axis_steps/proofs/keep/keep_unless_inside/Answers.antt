use Rattle.std.proofs.Common.{arith, sym, ap, ◌∙◌}
use Rattle.tree_model.specs.declared.axis.Axis.TheVariants.{Descendant, DescendantOrSelf}
use Rattle.node_table.specs.Laid.{is_attribute}
use Rattle.tree_model.specs.declared.row.Row.{Row}
use Rattle.axis_steps.proofs.Keeping.{keeps_push, still_open, now_open, below_open, self_open}
use Rattle.axis_steps.proofs.Standing.{fits_end}
use Rattle.axis_steps.proofs.keep.keep_unless_inside.Goals as goal

pub overflow_add-nodes : goal.overflow_add-nodes
overflow_add-nodes c =
    let laid = c.requires.laid in
    let e = fits_end c.args.reader.now laid c.args.place c.row_at-row.result c.requires.within c.row_at-row.ensures.row in
    omega (arith, e, c.row_at-row.ensures.few)

pub returns-then-not-is_between-clause-open : goal.returns-then-not-is_between-clause-open
returns-then-not-is_between-clause-open c =
    let rows = c.args.reader.now in
    let laid = c.requires.laid in
    rw c.in_ok-push.ensures.items (now_open rows laid c.args.nodes.now.kept.items c.args.place c.row_at-row.result.size c.requires.within (ap (λ (r : Row). r.size) c.row_at-row.ensures.row))

pub returns-then-not-is_between-clause-below : goal.returns-then-not-is_between-clause-below
returns-then-not-is_between-clause-below c = λ places keeps. rw c.in_ok-push.ensures.items (keeps_push c.args.reader.now Descendant places c.args.nodes.now.kept.items c.args.place keeps)

pub returns-then-not-is_between-clause-or_self : goal.returns-then-not-is_between-clause-or_self
returns-then-not-is_between-clause-or_self c = λ places keeps. rw c.in_ok-push.ensures.items (keeps_push c.args.reader.now DescendantOrSelf places c.args.nodes.now.kept.items c.args.place keeps)

pub returns-in_ok-push-2-clause-open : goal.returns-in_ok-push-2-clause-open
returns-in_ok-push-2-clause-open c =
    let rows = c.args.reader.now in
    let laid = c.requires.laid in
    rw c.in_ok-push-2.ensures.items (still_open rows laid c.args.nodes.now.kept.items c.args.nodes.now.start c.args.nodes.now.end c.args.place c.requires.open)

pub returns-in_ok-push-2-clause-below : goal.returns-in_ok-push-2-clause-below
returns-in_ok-push-2-clause-below c = λ places keeps. rw c.in_ok-push-2.ensures.items (keeps_push c.args.reader.now Descendant places c.args.nodes.now.kept.items c.args.place keeps)

pub returns-in_ok-push-2-clause-or_self : goal.returns-in_ok-push-2-clause-or_self
returns-in_ok-push-2-clause-or_self c = λ places keeps. rw c.in_ok-push-2.ensures.items (keeps_push c.args.reader.now DescendantOrSelf places c.args.nodes.now.kept.items c.args.place keeps)

pub returns-else-is_attribute-clause-below : goal.returns-else-is_attribute-clause-below
returns-else-is_attribute-clause-below c = λ places keeps.
    let rows = c.args.reader.now in
    let laid = c.requires.laid in
    let between = c.is_between.ensures.0 c.if-not-is_between.false in
    below_open rows laid places c.args.nodes.now.kept.items c.args.nodes.now.start c.args.nodes.now.end c.args.place c.requires.open between.0 between.1 keeps

pub returns-else-is_attribute-clause-or_self : goal.returns-else-is_attribute-clause-or_self
returns-else-is_attribute-clause-or_self c = λ places keeps.
    let rows = c.args.reader.now in
    let laid = c.requires.laid in
    let between = c.is_between.ensures.0 c.if-not-is_between.false in
    let plain = ap (λ (r : Row). is_attribute r.kind) (sym c.row_at-row.ensures.row) ∙ sym c.is_attribute.ensures ∙ c.if-is_attribute.false in
    self_open rows laid places c.args.nodes.now.kept.items c.args.nodes.now.start c.args.nodes.now.end c.args.place c.requires.open between.0 between.1 plain keeps
