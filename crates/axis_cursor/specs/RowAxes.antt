-- The axes by the numbers of rows alone.
use Rattle.std.specs.Prelude.{ℕ, zero, suc, ◌+◌, Bool, not, ◌&&◌, ◌||◌, nat_eq, nat_lt, nat_le, List, [], length, filter, if◌then◌else◌}
use Rattle.std.specs.List.{range_with_len}
use Rattle.node_table.specs.Laid.{row_at, dist_at, size_at, is_attr_at, up}
use Rattle.tree_model.specs.Axes.{directed, passes}
use Rattle.tree_model.specs.Rows.{label_of}
use Rattle.tree_model.specs.declared.axis.Axis.{Axis}
use Rattle.tree_model.specs.declared.axis.Axis.TheVariants.{Child, Descendant, Attribute, Slf, DescendantOrSelf, FollowingSibling, Following, Parent, Ancestor, PrecedingSibling, Preceding, AncestorOrSelf}
use Rattle.tree_model.specs.declared.axis.Test.{Test}
use Rattle.tree_model.specs.declared.row.Row.{Row}
use Rattle.tree_model.specs.declared.text.Name.{Name}

-- ---- relations between rows

-- q is the parent of p
abbrev pub is_up : List Row → ℕ → ℕ → Bool
is_up rows q p = nat_lt 0 (dist_at rows p) && nat_eq p (q + dist_at rows p)

-- p stands in the subtree of q and isn't q
abbrev pub is_in : List Row → ℕ → ℕ → Bool
is_in rows q p = nat_lt q p && nat_lt p (q + size_at rows q)

-- a child of some node
abbrev pub is_child : List Row → ℕ → Bool
is_child rows p = nat_lt 0 (dist_at rows p) && not (is_attr_at rows p)

abbrev pub are_children : List Row → ℕ → ℕ → Bool
are_children rows a b = is_child rows a && is_child rows b && nat_eq (up rows a) (up rows b)

-- the root of the tree in which a place stands: the last one up to it
abbrev pub root_of : List Row → ℕ → ℕ
root_of rows zero = zero
root_of rows (suc p) = if nat_eq (dist_at rows (suc p)) 0 then suc p else root_of rows p

-- ---- the axes

-- whether the row at p is on the axis of the row at c
unfoldable pub stands_on : List Row → Axis → ℕ → ℕ → Bool
stands_on rows Child c p = is_up rows c p && not (is_attr_at rows p)
stands_on rows Descendant c p = is_in rows c p && not (is_attr_at rows p)
stands_on rows Attribute c p = is_up rows c p && is_attr_at rows p
stands_on rows Slf c p = nat_eq c p
stands_on rows DescendantOrSelf c p = nat_eq c p || (is_in rows c p && not (is_attr_at rows p))
stands_on rows FollowingSibling c p = nat_lt c p && are_children rows c p
stands_on rows Following c p = nat_le (c + size_at rows c) p && nat_eq (root_of rows c) (root_of rows p) && not (is_attr_at rows p)
stands_on rows Parent c p = is_up rows p c
stands_on rows Ancestor c p = is_in rows p c
stands_on rows PrecedingSibling c p = nat_lt p c && are_children rows c p
stands_on rows Preceding c p = nat_lt p c && not (is_in rows p c) && nat_eq (root_of rows c) (root_of rows p) && not (is_attr_at rows p)
stands_on rows AncestorOrSelf c p = nat_eq c p || is_in rows p c

-- the places of an axis, in its own order
abbrev pub row_places : List Row → Axis → ℕ → List ℕ
row_places rows axis c = directed axis (filter (stands_on rows axis c) (range_with_len 0 (length rows)))

-- whether the row at a place passes a test
abbrev pub row_passes : List Name → List Row → Axis → Test → ℕ → Bool
row_passes names rows axis test p = passes axis test (label_of names [] (row_at rows p))
