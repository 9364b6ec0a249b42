-- Rows that are being made, with the places of the open elements.
use Rattle.std.specs.Prelude.{ℕ, ◌+◌, List}
use Rattle.tree_model.specs.Forest.{Line}
use Rattle.tree_model.specs.Labels.{Label, with_id}
use Rattle.tree_model.specs.Rows.{name_at, value_at}
use Rattle.tree_model.specs.declared.row.Kind.{Kind}
use Rattle.tree_model.specs.declared.row.Row.{Row}
use Rattle.tree_model.specs.declared.row.ValueRef.{ValueRef}
use Rattle.tree_model.specs.declared.text.Name.{Name}

-- the open elements stand with the innermost first
pub record Table : Type 0 where
  pub rows : List Row
  pub open_at : List ℕ

-- what a row with a name and a value by their places is, without its id
abbrev pub label_at : List Name → List ℕ → Kind → ℕ → ValueRef → Label
label_at names values kind name val = record { kind = kind; id = 0; name = name_at names name; value = value_at values val }

-- the line of an element that has some attributes, and no other rows below it yet
abbrev pub element_line : ℕ → ℕ → Label → ℕ → Line Label
element_line place dist label attrs = record { label = with_id place label; dist = dist; size = 1 + attrs; asize = 1 + attrs }
