-- The rows of the code, as names and values are added.
use Rattle.std.proofs.Common.{◌≡◌, ℕ, zero, suc, ◌+◌, ◌-◌, ◌<◌, ◌≤◌, List, [], ◌∷◌, ◌++◌, length, reverse, set, get_or, sym, ap, ◌∙◌, subst, arith}
use Rattle.std.proofs.lemmas.List.{reverse-append}
use Rattle.tree_model.specs.Rows.{line_of, lines_of, ArePlaced}
use Rattle.tree_model.specs.declared.row.Row.{Row}
use Rattle.tree_model.specs.declared.text.Name.{Name}
use Rattle.tree_model.proofs.Tables.{placed_sized, lines_length}
use Rattle.xml_rows.specs.Work.{sized, ended}

-- ---- a row at the end

pub placed_push : (names : List Name) (values : List ℕ) (rows : List Row) (row : Row) → ArePlaced names values rows → row.name < length names → row.val.at + row.val.len ≤ length values → ArePlaced names values (rows ++ row ∷ [])
placed_push names values [] row placed lt le = (lt, le, tt)
placed_push names values (r ∷ rows) row placed lt le = (placed.0, placed.1, placed_push names values rows row placed.2 lt le)

-- ---- a row gets its size

pub sized_is : (names : List Name) (values : List ℕ) (rows : List Row) (place size : ℕ) (row : Row) → row ≡ get_or rows place row → place < length rows
    → lines_of names values (set rows place (record row { size = size })) ≡ sized size place (lines_of names values rows)
sized_is names values [] place size row is lt = absurd (omega arith)
sized_is names values (r ∷ rows) zero size row is lt = ap (λ (x : Row). line_of names values (record x { size = size }) ∷ lines_of names values rows) is
sized_is names values (r ∷ rows) (suc place) size row is lt = ap (λ l. line_of names values r ∷ l) (sized_is names values rows place size row is (omega arith))

-- the innermost open element ends
pub ended_by : (names : List Name) (values : List ℕ) (rows : List Row) (opened more : List ℕ) (place : ℕ) (row : Row) → opened ≡ more ++ place ∷ [] → place < length rows → row ≡ get_or rows place row
    → lines_of names values (set rows place (record row { size = length rows - place })) ≡ ended (reverse opened) (lines_of names values rows)
ended_by names values rows opened more place row is lt at =
    sized_is names values rows place (length rows - place) row at lt
    ∙ ap (λ n. sized (n - place) place (lines_of names values rows)) (sym (lines_length names values rows))
    ∙ ap (λ l. ended l (lines_of names values rows)) (sym (ap reverse is ∙ reverse-append more (place ∷ [])))

-- ---- the same at the fields of the code

pub placed_push_by : (names : List Name) (values : List ℕ) (old inner new : List Row) (row : Row) → new ≡ inner ++ row ∷ [] → inner ≡ old → ArePlaced names values old → row.name < length names → row.val.at + row.val.len ≤ length values → ArePlaced names values new
placed_push_by names values old inner new row new_is inner_is placed lt le = subst (λ x. ArePlaced names values x) (sym (new_is ∙ ap (λ l. l ++ row ∷ []) inner_is)) (placed_push names values old row placed lt le)

pub ended_at : (names : List Name) (values : List ℕ) (old rows : List Row) (opened more open_at : List ℕ) (place size : ℕ) (row : Row) → rows ≡ old → reverse opened ≡ open_at → opened ≡ more ++ place ∷ [] → place < length rows → row ≡ get_or rows place row
    → size ≡ length rows - place → lines_of names values (set rows place (record row { size = size })) ≡ ended open_at (lines_of names values old)
ended_at names values old rows opened more open_at place size row rows_is open_is is lt at size_is =
    ap (λ n. lines_of names values (set rows place (record row { size = n }))) size_is ∙ ended_by names values rows opened more place row is lt at
    ∙ ap (λ l. ended l (lines_of names values rows)) open_is ∙ ap (λ l. ended open_at (lines_of names values l)) rows_is

pub placed_at : (names : List Name) (values : List ℕ) (old rows : List Row) (place size : ℕ) (row : Row) → rows ≡ old → row ≡ get_or rows place row → place < length rows → ArePlaced names values old
    → ArePlaced names values (set rows place (record row { size = size }))
placed_at names values old rows place size row rows_is at lt placed = placed_sized names values rows place size row at lt (subst (λ x. ArePlaced names values x) (sym rows_is) placed)

-- ---- all rows, where names, values and rows are those that the work speaks of

pub finished_by : (names named : List Name) (values valued : List ℕ) (rows old new : List Row) → names ≡ named → values ≡ valued → rows ≡ old → lines_of names values new ≡ sized (length rows) 0 (lines_of names values rows)
    → lines_of names values new ≡ sized (length (lines_of named valued old)) 0 (lines_of named valued old)
finished_by names named values valued rows old new names_are values_are rows_are lines =
    lines ∙ ap (λ n. sized n 0 (lines_of names values rows)) (sym (lines_length names values rows))
    ∙ ap (λ l. sized (length l) 0 l) (ap (λ x. lines_of x values rows) names_are ∙ ap (λ x. lines_of named x rows) values_are ∙ ap (lines_of named valued) rows_are)
