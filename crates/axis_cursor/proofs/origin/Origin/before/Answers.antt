use Rattle.std.proofs.Common.{◌-◌, sym, ◌∙◌, subst, arith}
use Rattle.axis_cursor.specs.Cursors.{Begins}
use Rattle.axis_cursor.specs.declared.walk.Walk.TheVariants.{Before}
use Rattle.axis_cursor.proofs.Beginnings.{begins_preceding, begins_preceding_root}
use Rattle.axis_cursor.proofs.Relations.{dist_told}
use Rattle.axis_cursor.proofs.origin.Origin.before.Goals as goal
use Rattle.tree_model.specs.declared.axis.Axis.TheVariants.{Preceding}
use Rattle.tree_model.specs.declared.row.Row.{Row}

pub returns-then-row-eq0 : goal.returns-then-row-eq0
returns-then-row-eq0 c = λ rows placed row.
    begins_preceding_root rows placed.laid c.args.self.context placed.within (sym (dist_told rows c.args.self.context c.args.row.now row) ∙ c.if-row-eq0.true)

pub returns : goal.returns
returns c = λ rows placed row.
    let at = c.args.self.context in
    let dist = dist_told rows at c.args.row.now row in
    subst (λ (r : Row). Begins rows Preceding at (Before at (at - r.dist))) (sym row) (begins_preceding rows placed.laid at placed.within (omega arith))
