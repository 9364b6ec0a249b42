-- What the rows of a table say, with its names and the bytes of its values.
use Rattle.std.specs.Prelude.{◌<◌, ◌≤◌, ℕ, ◌+◌, List, [], ◌∷◌, length, map, slice_range}
use Rattle.std.specs.List.{slice_index_or}
use Rattle.tree_model.specs.Forest.{Line}
use Rattle.tree_model.specs.Labels.{Label, local_name}
use Rattle.tree_model.specs.declared.text.Name.{Name}
use Rattle.tree_model.specs.declared.row.Kind.{Kind}
use Rattle.tree_model.specs.declared.row.Row.{Row}
use Rattle.tree_model.specs.declared.row.ValueRef.{ValueRef}

-- the name with a number
abbrev pub name_at : List Name → ℕ → Name
name_at names n = slice_index_or names n (local_name [])

abbrev pub value_at : List ℕ → ValueRef → List ℕ
value_at values val = slice_range values val.at (val.at + val.len)

abbrev pub label_of : List Name → List ℕ → Row → Label
label_of names values row = record { kind = row.kind; id = row.id; name = name_at names row.name; value = value_at values row.val }

abbrev pub line_of : List Name → List ℕ → Row → Line Label
line_of names values row = record { label = label_of names values row; dist = row.dist; size = row.size; asize = row.asize }

abbrev pub lines_of : List Name → List ℕ → List Row → List (Line Label)
lines_of names values rows = map (line_of names values) rows

-- each name is one of the names, and each value lies among the bytes
abbrev pub ArePlaced : List Name → List ℕ → List Row → Type 0
ArePlaced names values [] = Unit {0}
ArePlaced names values (row ∷ rows) = (row.name < length names) × (row.val.at + row.val.len ≤ length values) × ArePlaced names values rows

-- ---- rows by themselves, with numbers in place of names and references in place of values

pub record Entry : Type 0 where
  pub kind : Kind
  pub id : ℕ
  pub name : ℕ
  pub val : ValueRef

abbrev pub entry_of : Row → Entry
entry_of row = record { kind = row.kind; id = row.id; name = row.name; val = row.val }

abbrev pub entry_line : Row → Line Entry
entry_line row = record { label = entry_of row; dist = row.dist; size = row.size; asize = row.asize }

abbrev pub entry_lines : List Row → List (Line Entry)
entry_lines rows = map entry_line rows
