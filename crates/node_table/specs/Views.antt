-- Rows with what their numbers stand for: the names of a pool and the bytes of values.
use Rattle.std.specs.Prelude.{◌≡◌, ℕ, Bool, true, not, List, map}
use Rattle.std.specs.List.{list_all}
use Rattle.tree_model.specs.Forest.{Forest, none, tree, Line, grove_of, IsFlat}
use Rattle.tree_model.specs.Labels.{Label}
use Rattle.tree_model.specs.Nodes.{Node}
use Rattle.tree_model.specs.Rows.{lines_of, ArePlaced}
use Rattle.tree_model.specs.Sound.{AllRoots, is_attr}
use Rattle.tree_model.specs.declared.row.Row.{Row}
use Rattle.tree_model.specs.declared.text.Name.{Name}
use Rattle.node_table.specs.declared.part.Part.{Part}

pub record TableView : Type 0 where
  pub rows : List Row
  pub names : List Name
  pub values : List ℕ

abbrev pub view_of : List Row → List Name → List ℕ → TableView
view_of rows names values = record { rows = rows; names = names; values = values }

abbrev pub part_view : Part → TableView
part_view part = view_of part.rows.items part.names part.heap

-- what the rows say
abbrev pub view_lines : TableView → List (Line Label)
view_lines view = lines_of view.names view.values view.rows

-- the one list of trees that they stand for
abbrev pub view_forest : TableView → Forest Label
view_forest view = grove_of (view_lines view)

abbrev pub is_no_attr : Label → Bool
is_no_attr label = not (is_attr label)

-- what stands in a list of attributes is an attribute, and no child is one. A root may be of any kind
abbrev pub HasKinds : Forest Label → Type 0
HasKinds none = Unit {0}
HasKinds (tree label attrs kids rest) = (list_all is_attr attrs ≡ true) × AllRoots is_no_attr kids × HasKinds kids × HasKinds rest

-- the rows are those of the trees that they say, each with a name among the names and a value among the bytes
pub record KeepsTrees (view : TableView) : Type 0 where
  pub flat : IsFlat (view_lines view)
  pub placed : ArePlaced view.names view.values view.rows
  pub kinds : HasKinds (view_forest view)

abbrev pub places_of : List (Node Label) → List ℕ
places_of found = map (λ (node : Node Label). node.place) found
