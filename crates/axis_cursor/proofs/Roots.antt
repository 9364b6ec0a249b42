-- The root of the tree in which a place stands.
use Rattle.std.proofs.Common.{◌≡◌, inl, inr, ℕ, zero, suc, ◌<◌, ◌≤◌, List, ap, ◌∙◌, arith}
use Rattle.std.specs.Prelude.{nat_eq}
use Rattle.std.proofs.lemmas.Bool.{cond_both, cond-false, ne_eqb, eqb-false, cases_eq}
use Rattle.node_table.specs.Laid.{dist_at}
use Rattle.axis_cursor.specs.RowAxes.{root_of}
use Rattle.tree_model.specs.declared.row.Row.{Row}

pub root_le : (rows : List Row) (p : ℕ) → root_of rows p ≤ p
root_le rows zero = omega arith
root_le rows (suc p) =
    cond_both (nat_eq (dist_at rows (suc p)) 0) (suc p) (root_of rows p) (λ r. r ≤ suc p) (λ e. omega arith) (λ e. omega (arith, root_le rows p))

pub root_below : (rows : List Row) (p : ℕ) → 0 < dist_at rows (suc p) → root_of rows (suc p) ≡ root_of rows p
root_below rows p below = cond-false (nat_eq (dist_at rows (suc p)) 0) (suc p) (root_of rows p) (ne_eqb (dist_at rows (suc p)) 0 (λ e. omega arith))

-- it stays the same where no root comes
pub root_same : (rows : List Row) (a b : ℕ) → a ≤ b → ((k : ℕ) → a < k → k ≤ b → 0 < dist_at rows k) → root_of rows b ≡ root_of rows a
root_same rows a zero order none = let e : zero ≡ a = omega arith in ap (root_of rows) e
root_same rows a (suc b) order none =
    elim (cases_eq a (suc b)) [
      | inl e ↦ let f : suc b ≡ a = omega arith in ap (root_of rows) f
      | inr apart ↦ root_below rows b (none (suc b) (omega arith) (omega arith)) ∙ root_same rows a b (omega arith) (λ k low high. none k low (omega arith))
    ]

-- what stands behind a root has no root before it
pub root_from : (rows : List Row) (r p : ℕ) → dist_at rows r ≡ 0 → r ≤ p → r ≤ root_of rows p
root_from rows r zero root order = omega arith
root_from rows r (suc p) root order =
    elim (cases_eq r (suc p)) [
      | inl e ↦ cond_both (nat_eq (dist_at rows (suc p)) 0) (suc p) (root_of rows p) (λ x. r ≤ x) (λ f. order)
          (λ f. let g = ap (dist_at rows) e in absurd (eqb-false (dist_at rows (suc p)) 0 f (omega arith)))
      | inr apart ↦ cond_both (nat_eq (dist_at rows (suc p)) 0) (suc p) (root_of rows p) (λ x. r ≤ x) (λ f. order) (λ f. root_from rows r p root (omega arith))
    ]
