-- What the walks over rows give: the next place that passes a test, with its row.
use Rattle.std.specs.Prelude.{◌≡◌, ℕ, ◌+◌, ◌-◌, ◌<◌, ◌≤◌, Bool, true, false, not, ◌&&◌, nat_eq, List, length, Option, Some, None}
use Rattle.std.specs.List.{range_with_len}
use Rattle.node_table.specs.Laid.{row_at, dist_at, size_at, is_attr_at, up}
use Rattle.axis_cursor.specs.RowAxes.{is_up, is_in, root_of}
use Rattle.tree_model.specs.declared.axis.Axis.{Axis}
use Rattle.tree_model.specs.declared.axis.Axis.TheVariants.{FollowingSibling}
use Rattle.tree_model.specs.declared.row.Row.{Row}

-- the places from one up to another, which isn't among them
abbrev pub places : ℕ → ℕ → List ℕ
places from to = range_with_len from (to - from)

-- a place with its row
pub record IsRow (rows : List Row) (item : ℕ × Row) : Type 0 where
  pub within : item.0 < length rows
  pub row : item.1 ≡ row_at rows item.0

-- the first place from `at` on that passes; no other before `to` does
pub record IsFirst (rows : List Row) (on : ℕ → Bool) (at to : ℕ) (item : ℕ × Row) : Type 0 where
  pub own : IsRow rows item
  pub from : at ≤ item.0
  pub behind : item.0 < to
  pub here : on item.0 ≡ true
  pub others : (k : ℕ) → at ≤ k → k < to → (k ≡ item.0 → ⊥) → on k ≡ false

-- the first place from `at` up to `end` that passes, if one does, and the place to go on from
abbrev pub FirstFrom : List Row → (ℕ → Bool) → (at end : ℕ) → Option (ℕ × Row) → ℕ → Type 0
FirstFrom rows on at end None to = (k : ℕ) → at ≤ k → k < end → on k ≡ false
FirstFrom rows on at end (Some item) to = IsFirst rows on at to item × (to ≤ end)

-- the last place before `at` that passes
pub record IsLast (rows : List Row) (on : ℕ → Bool) (at : ℕ) (item : ℕ × Row) : Type 0 where
  pub own : IsRow rows item
  pub before : item.0 < at
  pub here : on item.0 ≡ true
  pub others : (k : ℕ) → item.0 < k → k < at → on k ≡ false

-- the last place before `at` that passes, if one does: the place to go on from
abbrev pub LastBefore : List Row → (ℕ → Bool) → (at : ℕ) → Option (ℕ × Row) → ℕ → Type 0
LastBefore rows on at None to = (k : ℕ) → k < at → on k ≡ false
LastBefore rows on at (Some item) to = IsLast rows on at item × (to ≡ item.0)

-- ---- which places the walks give

-- the children of q
abbrev pub is_child_of : List Row → ℕ → ℕ → Bool
is_child_of rows q p = is_up rows q p && not (is_attr_at rows p)

-- all but attributes
abbrev pub is_node : List Row → ℕ → Bool
is_node rows p = not (is_attr_at rows p)

-- those of the tree of c
abbrev pub is_node_beside : List Row → ℕ → ℕ → Bool
is_node_beside rows c p = nat_eq (root_of rows c) (root_of rows p) && not (is_attr_at rows p)

-- those of the tree of c that aren't above c
abbrev pub is_node_aside : List Row → ℕ → ℕ → Bool
is_node_aside rows c p = not (is_in rows p c) && is_node_beside rows c p

-- whose children a walk over trees gives
abbrev pub parent_in : List Row → Axis → ℕ → ℕ
parent_in rows FollowingSibling c = up rows c
parent_in rows axis c = c

-- ---- where the walks stand

-- at a child of q, or at the end of q's subtree
pub record IsAtTree (rows : List Row) (q at end : ℕ) : Type 0 where
  pub parent : q < length rows
  pub end_is : end ≡ q + size_at rows q
  pub before : at ≤ end
  pub child : at < end → (0 < dist_at rows at) × (at ≡ q + dist_at rows at) × (is_attr_at rows at ≡ false)

-- among nodes that follow one another
pub record IsAmong (rows : List Row) (at end : ℕ) : Type 0 where
  pub before : at ≤ end
  pub within : end ≤ length rows

-- among attributes
pub record IsAmongAttributes (rows : List Row) (at end : ℕ) : Type 0 where
  pub before : at ≤ end
  pub within : end ≤ length rows
  pub attributes : (k : ℕ) → at ≤ k → k < end → is_attr_at rows k ≡ true

-- behind c, with no root between
pub record IsBeside (rows : List Row) (c at : ℕ) : Type 0 where
  pub behind : c < at
  pub within : at ≤ length rows
  pub no_root : (k : ℕ) → c < k → k < at → 0 < dist_at rows k

-- at c or above it, so far from the parent
pub record IsAbove (rows : List Row) (c at dist : ℕ) : Type 0 where
  pub before : at ≤ c
  pub within : c < at + size_at rows at
  pub dist_is : dist ≡ dist_at rows at

-- before c or at it, with `above` as the next place that is above c
pub record IsAside (rows : List Row) (c at above : ℕ) : Type 0 where
  pub before : at ≤ c
  pub behind : above < at
  pub within : c < above + size_at rows above
  pub nearest : (k : ℕ) → above < k → k < at → k + size_at rows k ≤ c

-- at a child of q
pub record IsAtChild (rows : List Row) (q at : ℕ) : Type 0 where
  pub within : at < length rows
  pub below : 0 < dist_at rows at
  pub parent : at ≡ q + dist_at rows at
  pub kind : is_attr_at rows at ≡ false
