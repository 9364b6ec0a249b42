use Rattle.std.proofs.Common.{sym, ◌∙◌, arith}
use Rattle.axis_cursor.proofs.Forwards.{after_done, after_found}
use Rattle.axis_cursor.proofs.Relations.{dist_told, kind_told}
use Rattle.axis_cursor.proofs.origin.Origin.next_after.Goals as goal

pub returns-then-row-eq0-clause-first : goal.returns-then-row-eq0-clause-first
returns-then-row-eq0-clause-first c =
    let rows = c.args.reader.now in
    let is = rw c.loop-at.invariant.rows at c.row_at-row.ensures.row in
    after_done rows c.args.self.context c.args.at.now c.loop-at.at c.loop-at.invariant.at c.loop-at.invariant.passed (sym (dist_told rows c.loop-at.at c.row_at-row.result is) ∙ c.if-row-eq0.true)

pub returns-then-not-is_attribute-clause-first : goal.returns-then-not-is_attribute-clause-first
returns-then-not-is_attribute-clause-first c =
    let rows = c.args.reader.now in
    let is = rw c.loop-at.invariant.rows at c.row_at-row.ensures.row in
    let count = rw c.loop-at.invariant.rows at c.len.ensures.len in
    after_found rows c.args.self.context c.args.at.now c.loop-at.at c.row_at-row.result c.loop-at.invariant.at c.loop-at.invariant.passed c.loop-at.invariant.forth (omega (arith, count)) is c.if-row-eq0.false
    (kind_told rows c.loop-at.at c.row_at-row.result _ _ is c.is_attribute.ensures c.if-not-is_attribute.true)
