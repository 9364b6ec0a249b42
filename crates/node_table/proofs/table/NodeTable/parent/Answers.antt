use Rattle.node_table.specs.Tables.{rows_in}
use Rattle.std.proofs.Common.{◌≡◌, ℕ, zero, suc, ◌-◌, refl, sym, ap, ◌∙◌, Some, None}
use Rattle.node_table.proofs.Parents.{place_before, parent_at, parent_within}
use Rattle.node_table.proofs.table.NodeTable.parent.Goals as goal

nowhere : (n d : ℕ) → d ≡ 0 → None ≡ place_before n d
nowhere n d e = sym (ap (place_before n) e)

somewhere : (n d : ℕ) → (d ≡ 0 → ⊥) → Some (n - d) ≡ place_before n d
somewhere n zero e = absurd (e refl)
somewhere n (suc d) e = refl

pub returns-then-row-eq0-clause-parent : goal.returns-then-row-eq0-clause-parent
returns-then-row-eq0-clause-parent c =
    nowhere c.args.pre c.row-row.result.dist c.if-row-eq0.true ∙ sym (parent_at c.args.pre (rows_in c.args.pool.now c.args.self.now) c.row-row.result c.requires.flat c.requires.within c.row-row.ensures.row)

pub overflow_sub-result : goal.overflow_sub-result
overflow_sub-result c = parent_within c.args.pre (rows_in c.args.pool.now c.args.self.now) c.row-row.result c.requires.flat c.requires.within c.row-row.ensures.row

pub returns-clause-parent : goal.returns-clause-parent
returns-clause-parent c =
    somewhere c.args.pre c.row-row.result.dist c.if-row-eq0.false ∙ sym (parent_at c.args.pre (rows_in c.args.pool.now c.args.self.now) c.row-row.result c.requires.flat c.requires.within c.row-row.ensures.row)
