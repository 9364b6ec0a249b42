-- Rows whose names and values come to lie among those of a database.
use Rattle.std.specs.Prelude.{◌≡◌, ℕ, suc, ◌+◌, ◌<◌, List, [], ◌∷◌, ◌++◌, length}
use Rattle.std.specs.List.{slice_index_or}
use Rattle.tree_model.specs.Forest.{Line}
use Rattle.tree_model.specs.Labels.{Label, with_id}
use Rattle.tree_model.specs.Rows.{name_at}
use Rattle.tree_model.specs.declared.row.Row.{Row}
use Rattle.tree_model.specs.declared.row.ValueRef.{ValueRef}
use Rattle.tree_model.specs.declared.text.Name.{Name}

-- the old list, and perhaps more behind it
pub record HasMore {A : Type 0} (old new : List A) : Type 0 where
  pub more : List A
  pub is : new ≡ old ++ more

-- names have these numbers among others
pub record AreNumbers (names others : List Name) (numbers : List ℕ) : Type 0 where
  pub len : length numbers ≡ length others
  pub within : (n : ℕ) → n < length others → slice_index_or numbers n 0 < length names
  pub same : (n : ℕ) → n < length others → name_at names (slice_index_or numbers n 0) ≡ name_at others n

-- a row with another number of its name, its value so much further on, and this id
abbrev pub row_moved : List ℕ → ℕ → ℕ → Row → Row
row_moved numbers at id row = record row { name = slice_index_or numbers row.name 0; id = id; val = record row.val { at = row.val.at + at } }

-- rows with ids from a first one on
abbrev pub moved : List ℕ → ℕ → ℕ → List Row → List Row
moved numbers at first [] = []
moved numbers at first (row ∷ rows) = row_moved numbers at first row ∷ moved numbers at (suc first) rows

-- rows whose first one has this value
abbrev pub first_valued : ValueRef → List Row → List Row
first_valued val [] = []
first_valued val (row ∷ rows) = record row { val = val } ∷ rows

-- lines with ids from a first one on
abbrev pub with_ids : ℕ → List (Line Label) → List (Line Label)
with_ids first [] = []
with_ids first (line ∷ lines) = record line { label = with_id first line.label } ∷ with_ids (suc first) lines

-- those of a document, with a path, and with ids from a first one on
abbrev pub under_path : List ℕ → List (Line Label) → List (Line Label)
under_path path [] = []
under_path path (line ∷ lines) = record line { label = record line.label { value = path } } ∷ lines

abbrev pub moved_lines : List ℕ → ℕ → List (Line Label) → List (Line Label)
moved_lines path first lines = with_ids first (under_path path lines)
