-- Rows by the numbers alone: the place of a row, the distance to its parent, the size of its subtree, how many rows it and its attributes
-- are, and whether it is an attribute (Gruen 2010, the table of pre, dist and size).
use Rattle.std.specs.Prelude.{◌≡◌, ℕ, ◌+◌, ◌-◌, ◌<◌, ◌≤◌, Bool, true, false, List, length}
use Rattle.std.specs.List.{slice_index_or}
use Rattle.tree_model.specs.declared.row.Kind.{Kind}
use Rattle.tree_model.specs.declared.row.Kind.TheVariants.{Doc, Elem, Text, Attr, Comm, Pi}
use Rattle.tree_model.specs.declared.row.Row.{Row}

-- what is read beyond the last row
abbrev pub no_row : Row
no_row = record { kind = Doc; name = 0; dist = 0; size = 0; asize = 0; id = 0; val = record { at = 0; len = 0 } }

abbrev pub row_at : List Row → ℕ → Row
row_at rows p = slice_index_or rows p no_row

abbrev pub is_attribute : Kind → Bool
is_attribute Doc = false
is_attribute Elem = false
is_attribute Text = false
is_attribute Attr = true
is_attribute Comm = false
is_attribute Pi = false

abbrev pub dist_at : List Row → ℕ → ℕ
dist_at rows p = (row_at rows p).dist

abbrev pub size_at : List Row → ℕ → ℕ
size_at rows p = (row_at rows p).size

abbrev pub asize_at : List Row → ℕ → ℕ
asize_at rows p = (row_at rows p).asize

abbrev pub is_attr_at : List Row → ℕ → Bool
is_attr_at rows p = is_attribute (row_at rows p).kind

-- the place of the parent, where there is one
abbrev pub up : List Row → ℕ → ℕ
up rows p = p - dist_at rows p

-- what rows of trees keep
pub record IsLaid (rows : List Row) : Type 0 where
  pub sizes : (p : ℕ) → p < length rows → (1 ≤ asize_at rows p) × (asize_at rows p ≤ size_at rows p) × (p + size_at rows p ≤ length rows)
  pub dists : (p : ℕ) → p < length rows → dist_at rows p ≤ p
  -- a subtree leads nowhere but into itself
  pub inside : (p r : ℕ) → p < length rows → p < r → r < p + size_at rows p → (0 < dist_at rows r) × (p ≤ up rows r)
  -- it ends where its parent's ends, or before
  pub ends : (r : ℕ) → r < length rows → 0 < dist_at rows r → (r < up rows r + size_at rows (up rows r)) × (r + size_at rows r ≤ up rows r + size_at rows (up rows r))
  -- right behind a node stand its attributes, and elsewhere only roots are attributes
  pub attributes : (p r : ℕ) → p < length rows → p < r → r < p + asize_at rows p → (dist_at rows r ≡ r - p) × (is_attr_at rows r ≡ true) × (size_at rows r ≡ 1)
  pub owned : (r : ℕ) → r < length rows → is_attr_at rows r ≡ true → 0 < dist_at rows r → r < up rows r + asize_at rows (up rows r)
  -- behind them its children, one after the other
  pub first : (p : ℕ) → p < length rows → asize_at rows p < size_at rows p → (dist_at rows (p + asize_at rows p) ≡ asize_at rows p) × (is_attr_at rows (p + asize_at rows p) ≡ false)
  pub next : (r : ℕ) → r < length rows → 0 < dist_at rows r → is_attr_at rows r ≡ false → r + size_at rows r < up rows r + size_at rows (up rows r)
      → (dist_at rows (r + size_at rows r) ≡ (r + size_at rows r) - up rows r) × (is_attr_at rows (r + size_at rows r) ≡ false)
