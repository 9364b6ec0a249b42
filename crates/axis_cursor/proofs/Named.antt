-- Rows that are placed, and the names that they have.
use Rattle.std.proofs.Common.{◌≡◌, ℕ, ◌+◌, ◌<◌, Bool, true, List, [], ◌∷◌, length}
use Rattle.std.specs.Prelude.{◌&&◌, nat_lt, nat_le}
use Rattle.std.specs.List.{All, list_all}
use Rattle.std.proofs.lemmas.Bool.{and_parts, ltb-true, leb-true}
use Rattle.node_table.specs.Views.{view_of, view_lines, view_forest, HasKinds, KeepsTrees}
use Rattle.tree_model.specs.Forest.{IsFlat}
use Rattle.tree_model.specs.Rows.{ArePlaced}
use Rattle.tree_model.specs.declared.row.Row.{Row}
use Rattle.tree_model.specs.declared.text.Name.{Name}
use Rattle.tree_model.proofs.Tables.{placed_at}

pub all_named : (names : List Name) (values : List ℕ) (rows : List Row) → ArePlaced names values rows → All (λ (row : Row). row.name < length names) rows
all_named names values rows placed k d lt = (placed_at names values rows k d placed lt).0

-- rows that are written out
abbrev pub is_placed : ℕ → ℕ → Row → Bool
is_placed names values row = nat_lt row.name names && nat_le (row.val.at + row.val.len) values

pub placed_by_test : (names : List Name) (values : List ℕ) (rows : List Row) → list_all (is_placed (length names) (length values)) rows ≡ true → ArePlaced names values rows
placed_by_test names values [] e = tt
placed_by_test names values (row ∷ rows) e =
    let all = and_parts (is_placed (length names) (length values) row) (list_all (is_placed (length names) (length values)) rows) e in
    let own = and_parts (nat_lt row.name (length names)) (nat_le (row.val.at + row.val.len) (length values)) all.0 in
    (ltb-true row.name (length names) own.0, leb-true (row.val.at + row.val.len) (length values) own.1, placed_by_test names values rows all.1)

pub keeps_by_test : (rows : List Row) (names : List Name) (values : List ℕ) → IsFlat (view_lines (view_of rows names values)) → list_all (is_placed (length names) (length values)) rows ≡ true → HasKinds (view_forest (view_of rows names values))
    → KeepsTrees (view_of rows names values)
keeps_by_test rows names values flat placed kinds = record { flat = flat; placed = placed_by_test names values rows placed; kinds = kinds }
