-- What the tests between rows tell.
use Rattle.std.proofs.Common.{◌≡◌, ℕ, ◌+◌, ◌<◌, List, Bool, true, false, ap, sym, ◌∙◌, arith}
use Rattle.std.specs.Prelude.{nat_eq, nat_lt, not}
use Rattle.std.proofs.lemmas.Bool.{and_parts, and_from, not_from_false, not-true, ltb-true, lt-ltb, eqb-true, eq-eqb, false_from_ne_true}
use Rattle.node_table.specs.Laid.{row_at, dist_at, size_at, is_attribute, is_attr_at}
use Rattle.axis_cursor.specs.RowAxes.{is_up, is_in, root_of}
use Rattle.axis_cursor.specs.Walks.{is_child_of, is_node_beside}
use Rattle.frame_pool.specs.Meters.{HasRead}
use Rattle.frame_pool.specs.declared.meter.Meter.{Meter}
use Rattle.tree_model.specs.declared.row.Row.{Row}

-- what a row that was read tells of its place
pub kind_told : (rows : List Row) (p : ℕ) (row : Row) (b v : Bool) → row ≡ row_at rows p → b ≡ is_attribute row.kind → b ≡ v → is_attr_at rows p ≡ v
kind_told rows p row b v is e f = ap (λ (x : Row). is_attribute x.kind) (sym is) ∙ sym e ∙ f

pub dist_told : (rows : List Row) (p : ℕ) (row : Row) → row ≡ row_at rows p → row.dist ≡ dist_at rows p
dist_told rows p row is = ap (λ (x : Row). x.dist) is

pub read_on : (a b c : Meter) → HasRead a b → HasRead b c → HasRead a c
read_on a b c first second =
    let low = first.rows in
    let high = second.rows in
    record { rows = omega arith; frames = second.frames ∙ first.frames }

-- ---- children

pub child_is : (rows : List Row) (q p : ℕ) → 0 < dist_at rows p → p ≡ q + dist_at rows p → is_attr_at rows p ≡ false → is_child_of rows q p ≡ true
child_is rows q p below parent kind =
    and_from (is_up rows q p) (not (is_attr_at rows p))
    (and_from (nat_lt 0 (dist_at rows p)) (nat_eq p (q + dist_at rows p)) (lt-ltb 0 (dist_at rows p) below) (eq-eqb p (q + dist_at rows p) parent))
    (not_from_false (is_attr_at rows p) kind)

pub record IsUp (rows : List Row) (q p : ℕ) : Type 0 where
  pub below : 0 < dist_at rows p
  pub parent : p ≡ q + dist_at rows p

pub up_parts : (rows : List Row) (q p : ℕ) → is_up rows q p ≡ true → IsUp rows q p
up_parts rows q p e =
    let both = and_parts (nat_lt 0 (dist_at rows p)) (nat_eq p (q + dist_at rows p)) e in
    record { below = ltb-true 0 (dist_at rows p) both.0; parent = eqb-true p (q + dist_at rows p) both.1 }

pub up_is : (rows : List Row) (q p : ℕ) → 0 < dist_at rows p → p ≡ q + dist_at rows p → is_up rows q p ≡ true
up_is rows q p below parent =
    and_from (nat_lt 0 (dist_at rows p)) (nat_eq p (q + dist_at rows p)) (lt-ltb 0 (dist_at rows p) below) (eq-eqb p (q + dist_at rows p) parent)

pub record IsChild (rows : List Row) (q p : ℕ) : Type 0 where
  pub below : 0 < dist_at rows p
  pub parent : p ≡ q + dist_at rows p
  pub kind : is_attr_at rows p ≡ false

pub child_parts : (rows : List Row) (q p : ℕ) → is_child_of rows q p ≡ true → IsChild rows q p
child_parts rows q p e =
    let both = and_parts (is_up rows q p) (not (is_attr_at rows p)) e in
    let above = up_parts rows q p both.0 in
    record { below = above.below; parent = above.parent; kind = not-true (is_attr_at rows p) both.1 }

pub no_child : (rows : List Row) (q p : ℕ) → (IsChild rows q p → ⊥) → is_child_of rows q p ≡ false
no_child rows q p none = false_from_ne_true (is_child_of rows q p) (λ e. none (child_parts rows q p e))

-- ---- subtrees

pub in_is : (rows : List Row) (q p : ℕ) → q < p → p < q + size_at rows q → is_in rows q p ≡ true
in_is rows q p low high = and_from (nat_lt q p) (nat_lt p (q + size_at rows q)) (lt-ltb q p low) (lt-ltb p (q + size_at rows q) high)

pub record IsIn (rows : List Row) (q p : ℕ) : Type 0 where
  pub behind : q < p
  pub within : p < q + size_at rows q

pub in_parts : (rows : List Row) (q p : ℕ) → is_in rows q p ≡ true → IsIn rows q p
in_parts rows q p e =
    let both = and_parts (nat_lt q p) (nat_lt p (q + size_at rows q)) e in
    record { behind = ltb-true q p both.0; within = ltb-true p (q + size_at rows q) both.1 }

pub not_in : (rows : List Row) (q p : ℕ) → (IsIn rows q p → ⊥) → is_in rows q p ≡ false
not_in rows q p none = false_from_ne_true (is_in rows q p) (λ e. none (in_parts rows q p e))

-- ---- trees

pub beside_is : (rows : List Row) (c p : ℕ) → root_of rows c ≡ root_of rows p → is_attr_at rows p ≡ false → is_node_beside rows c p ≡ true
beside_is rows c p same kind =
    and_from (nat_eq (root_of rows c) (root_of rows p)) (not (is_attr_at rows p)) (eq-eqb (root_of rows c) (root_of rows p) same) (not_from_false (is_attr_at rows p) kind)

pub record IsBesideParts (rows : List Row) (c p : ℕ) : Type 0 where
  pub root : root_of rows c ≡ root_of rows p
  pub kind : is_attr_at rows p ≡ false

pub beside_parts : (rows : List Row) (c p : ℕ) → is_node_beside rows c p ≡ true → IsBesideParts rows c p
beside_parts rows c p e =
    let both = and_parts (nat_eq (root_of rows c) (root_of rows p)) (not (is_attr_at rows p)) e in
    record { root = eqb-true (root_of rows c) (root_of rows p) both.0; kind = not-true (is_attr_at rows p) both.1 }

pub not_beside : (rows : List Row) (c p : ℕ) → (IsBesideParts rows c p → ⊥) → is_node_beside rows c p ≡ false
not_beside rows c p none = false_from_ne_true (is_node_beside rows c p) (λ e. none (beside_parts rows c p e))
