-- What a cursor has still to give.
use Rattle.std.specs.Prelude.{◌≡◌, ℕ, ◌<◌, List, [], ◌∷◌, ◌++◌, length, All, filter, reverse, Option, Some, None, nat_eq, if◌then◌else◌}
use Rattle.node_table.specs.Laid.{IsLaid, dist_at, is_attr_at, up}
use Rattle.axis_cursor.specs.RowAxes.{is_in, row_places, row_passes}
use Rattle.axis_cursor.specs.Walks.{places, IsRow, is_child_of, is_node, is_node_beside, is_node_aside, parent_in, IsAtTree, IsAmong, IsAmongAttributes, IsBeside, IsAbove, IsAside, IsAtChild}
use Rattle.axis_cursor.specs.declared.walk.Walk.{Walk}
use Rattle.axis_cursor.specs.declared.walk.Walk.TheVariants.{Start, Trees, Nodes, Attributes, After, Above, Before, TreesBefore, Done}
use Rattle.tree_model.specs.declared.axis.Axis.{Axis}
use Rattle.tree_model.specs.declared.axis.Axis.TheVariants.{Slf, DescendantOrSelf, AncestorOrSelf, Parent}
use Rattle.tree_model.specs.declared.axis.Test.{Test}
use Rattle.tree_model.specs.declared.row.Row.{Row}
use Rattle.tree_model.specs.declared.text.Name.{Name}

-- the first of a list was given, and these are left
abbrev pub Gave : Option ℕ → List ℕ → List ℕ → Type 0
Gave None old new = (old ≡ []) × (new ≡ [])
Gave (Some p) old new = old ≡ p ∷ new

-- the same, with the row of the place
abbrev pub GaveRow : List Row → Option (ℕ × Row) → List ℕ → List ℕ → Type 0
GaveRow rows None old new = (old ≡ []) × (new ≡ [])
GaveRow rows (Some item) old new = (old ≡ item.0 ∷ new) × IsRow rows item

-- the same where nothing was given, but the list may go on
abbrev pub GaveFirst : List Row → Option (ℕ × Row) → List ℕ → List ℕ → Type 0
GaveFirst rows None old new = old ≡ new
GaveFirst rows (Some item) old new = (old ≡ item.0 ∷ new) × IsRow rows item

-- ---- the axis of c without a test

-- the places that a walk hasn't given yet
unfoldable pub remaining : List Row → Axis → ℕ → Walk → List ℕ
remaining rows axis c Start = row_places rows axis c
remaining rows axis c (Trees at end) = filter (is_child_of rows (parent_in rows axis c)) (places at end)
remaining rows axis c (Nodes at end) = filter (is_node rows) (places at end)
remaining rows axis c (Attributes at end) = filter (is_attr_at rows) (places at end)
remaining rows axis c (After at) = filter (is_node_beside rows c) (places at (length rows))
remaining rows axis c (Above at dist) = reverse (filter (λ k. is_in rows k c) (places 0 at))
remaining rows axis c (Before at above) = reverse (filter (is_node_aside rows c) (places 0 at))
remaining rows axis c (TreesBefore at parent) = reverse (filter (is_child_of rows parent) (places 0 at))
remaining rows axis c Done = []

-- the places that the first step gives: the node itself, or its parent
abbrev pub first_places : List Row → Axis → ℕ → List ℕ
first_places rows Slf c = c ∷ []
first_places rows DescendantOrSelf c = c ∷ []
first_places rows AncestorOrSelf c = c ∷ []
first_places rows Parent c = if nat_eq (dist_at rows c) 0 then [] else up rows c ∷ []
first_places rows axis c = []

-- where a walk that has begun stands
abbrev pub HasBegun : List Row → Axis → ℕ → Walk → Type 0
HasBegun rows axis c Start = ⊥
HasBegun rows axis c (Trees at end) = IsAtTree rows (parent_in rows axis c) at end
HasBegun rows axis c (Nodes at end) = IsAmong rows at end
HasBegun rows axis c (Attributes at end) = IsAmongAttributes rows at end
HasBegun rows axis c (After at) = IsBeside rows c at
HasBegun rows axis c (Above at dist) = IsAbove rows c at dist
HasBegun rows axis c (Before at above) = IsAside rows c at above
HasBegun rows axis c (TreesBefore at parent) = IsAtChild rows parent at
HasBegun rows axis c Done = Unit {0}

-- one step: nothing is left, or the first place was given with its row
abbrev pub Stepped : List Row → Axis → ℕ → Option (ℕ × Row) → (old new : Walk) → Type 0
Stepped rows axis c None old new = remaining rows axis c old ≡ []
Stepped rows axis c (Some item) old new = (remaining rows axis c old ≡ item.0 ∷ remaining rows axis c new) × IsRow rows item × HasBegun rows axis c new

abbrev pub IsReady : List Row → Axis → ℕ → Walk → Type 0
IsReady rows axis c Start = Unit {0}
IsReady rows axis c walk = HasBegun rows axis c walk

-- how a walk begins behind its first places
pub record Begins (rows : List Row) (axis : Axis) (c : ℕ) (walk : Walk) : Type 0 where
  pub begun : HasBegun rows axis c walk
  pub gives : row_places rows axis c ≡ first_places rows axis c ++ remaining rows axis c walk

-- ---- with a test

unfoldable pub to_come : List Name → List Row → Axis → Test → ℕ → Walk → List ℕ
to_come names rows axis test c walk = filter (row_passes names rows axis test) (remaining rows axis c walk)

-- the rows are those of trees, and c is one of them
pub record IsPlaced (rows : List Row) (c : ℕ) : Type 0 where
  pub laid : IsLaid rows
  pub within : c < length rows

-- what a cursor keeps
pub record IsOpen (names : List Name) (rows : List Row) (axis : Axis) (c : ℕ) (walk : Walk) : Type 0 where
  pub placed : IsPlaced rows c
  pub named : All (λ (row : Row). row.name < length names) rows
  pub ready : IsReady rows axis c walk
