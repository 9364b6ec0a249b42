-- The rows of a table, as its names, its values and the rows themselves grow.
use Rattle.std.proofs.Common.{◌≡◌, ℕ, zero, suc, ◌+◌, ◌-◌, ◌<◌, ◌≤◌, List, [], ◌∷◌, ◌++◌, length, take, drop, set, get_or, refl, sym, ap, ◌∙◌, subst, arith, length-append, length-drop, append-nil}
use Rattle.std.specs.Prelude.{slice_range}
use Rattle.std.proofs.lemmas.List.{take-append-le, drop-append-le, map-append, take_all, length-map}
use Rattle.std.proofs.Math.Seq.{drop-append_seam}
use Rattle.tree_model.specs.Rows.{name_at, value_at, line_of, lines_of, ArePlaced}
use Rattle.tree_model.specs.declared.row.Row.{Row}
use Rattle.tree_model.specs.declared.row.ValueRef.{ValueRef}
use Rattle.tree_model.specs.declared.text.Name.{Name}

-- ---- names and values grow

pub value_kept : (values more : List ℕ) (val : ValueRef) → val.at + val.len ≤ length values → value_at (values ++ more) val ≡ value_at values val
value_kept values more val le =
    let n : ℕ = (val.at + val.len) - val.at in
    ap (take n) (drop-append-le val.at values more (omega arith)) ∙ take-append-le n (drop val.at values) more (omega (arith, length-drop val.at values))

pub name_kept : (names more : List Name) (n : ℕ) → n < length names → name_at (names ++ more) n ≡ name_at names n
name_kept [] more n lt = absurd (omega arith)
name_kept (x ∷ names) more zero lt = refl
name_kept (x ∷ names) more (suc n) lt = name_kept names more n (omega arith)

line_kept : (names others : List Name) (values more : List ℕ) (row : Row) → row.name < length names → row.val.at + row.val.len ≤ length values
    → line_of (names ++ others) (values ++ more) row ≡ line_of names values row
line_kept names others values more row lt le =
    let e1 = name_kept names others row.name lt in
    let e2 = value_kept values more row.val le in
    cc

pub lines_kept : (names others : List Name) (values more : List ℕ) (rows : List Row) → ArePlaced names values rows → lines_of (names ++ others) (values ++ more) rows ≡ lines_of names values rows
lines_kept names others values more [] placed = refl
lines_kept names others values more (row ∷ rows) placed =
    ap (λ x. x ∷ lines_of (names ++ others) (values ++ more) rows) (line_kept names others values more row placed.0 placed.1) ∙ ap (λ l. line_of names values row ∷ l) (lines_kept names others values more rows placed.2)

pub placed_kept : (names others : List Name) (values more : List ℕ) (rows : List Row) → ArePlaced names values rows → ArePlaced (names ++ others) (values ++ more) rows
placed_kept names others values more [] placed = tt
placed_kept names others values more (row ∷ rows) placed =
    (omega (arith, placed.0, length-append names others), omega (arith, placed.1, length-append values more), placed_kept names others values more rows placed.2)

-- ---- names grow alone

pub lines_named : (names others : List Name) (values : List ℕ) (rows : List Row) → ArePlaced names values rows → lines_of (names ++ others) values rows ≡ lines_of names values rows
lines_named names others values rows placed = ap (λ x. lines_of (names ++ others) x rows) (sym (append-nil values)) ∙ lines_kept names others values [] rows placed

pub placed_named : (names others : List Name) (values : List ℕ) (rows : List Row) → ArePlaced names values rows → ArePlaced (names ++ others) values rows
placed_named names others values rows placed = subst (λ x. ArePlaced (names ++ others) x rows) (append-nil values) (placed_kept names others values [] rows placed)

-- ---- values grow alone

pub lines_valued : (names : List Name) (values more : List ℕ) (rows : List Row) → ArePlaced names values rows → lines_of names (values ++ more) rows ≡ lines_of names values rows
lines_valued names values more rows placed = ap (λ x. lines_of x (values ++ more) rows) (sym (append-nil names)) ∙ lines_kept names [] values more rows placed

pub placed_valued : (names : List Name) (values more : List ℕ) (rows : List Row) → ArePlaced names values rows → ArePlaced names (values ++ more) rows
placed_valued names values more rows placed = subst (λ x. ArePlaced x (values ++ more) rows) (append-nil names) (placed_kept names [] values more rows placed)

-- a value behind all others
pub value_new : (values more : List ℕ) (val : ValueRef) → val.at ≡ length values → val.len ≡ length more → value_at (values ++ more) val ≡ more
value_new values more val at len =
    ap (λ n. slice_range (values ++ more) n (n + val.len)) at ∙ ap (λ n. slice_range (values ++ more) (length values) (length values + n)) len
    ∙ ap (take ((length values + length more) - length values)) (drop-append_seam values more) ∙ take_all _ more (omega arith)

-- ---- a row more

placed_push : (names : List Name) (values : List ℕ) (rows : List Row) (row : Row) → ArePlaced names values rows → row.name < length names → row.val.at + row.val.len ≤ length values → ArePlaced names values (rows ++ row ∷ [])
placed_push names values [] row placed lt le = (lt, le, tt)
placed_push names values (r ∷ rows) row placed lt le = (placed.0, placed.1, placed_push names values rows row placed.2 lt le)

pub placed_more : (names : List Name) (values value : List ℕ) (rows : List Row) (row : Row) → ArePlaced names values rows → row.name < length names → row.val.at + row.val.len ≤ length values + length value
    → ArePlaced names (values ++ value) (rows ++ row ∷ [])
placed_more names values value rows row placed lt le =
    placed_push names (values ++ value) rows row (placed_valued names values value rows placed) lt (omega (arith, le, length-append values value))

pub lines_more : (names : List Name) (values value : List ℕ) (rows : List Row) (row : Row) → ArePlaced names values rows
    → lines_of names (values ++ value) (rows ++ row ∷ []) ≡ lines_of names values rows ++ line_of names (values ++ value) row ∷ []
lines_more names values value rows row placed =
    map-append (line_of names (values ++ value)) rows (row ∷ [])
    ∙ ap (λ l. l ++ line_of names (values ++ value) row ∷ []) (lines_valued names values value rows placed)

-- ---- a row changes

-- a row that differs in its size alone
pub placed_sized : (names : List Name) (values : List ℕ) (rows : List Row) (place size : ℕ) (row : Row) → row ≡ get_or rows place row → place < length rows → ArePlaced names values rows
    → ArePlaced names values (set rows place (record row { size = size }))
placed_sized names values [] place size row is lt placed = absurd (omega arith)
placed_sized names values (r ∷ rows) zero size row is lt placed = subst (λ (x : Row). ArePlaced names values (record x { size = size } ∷ rows)) (sym is) placed
placed_sized names values (r ∷ rows) (suc place) size row is lt placed = (placed.0, placed.1, placed_sized names values rows place size row is (omega arith) placed.2)

-- ---- a part of the rows

pub lines_length : (names : List Name) (values : List ℕ) (rows : List Row) → length (lines_of names values rows) ≡ length rows
lines_length names values rows = length-map rows (line_of names values)

pub placed_behind : (names : List Name) (values : List ℕ) (rows : List Row) (n : ℕ) → ArePlaced names values rows → ArePlaced names values (drop n rows)
placed_behind names values rows zero placed = placed
placed_behind names values [] (suc n) placed = placed
placed_behind names values (row ∷ rows) (suc n) placed = placed_behind names values rows n placed.2

pub placed_before : (names : List Name) (values : List ℕ) (rows : List Row) (n : ℕ) → ArePlaced names values rows → ArePlaced names values (take n rows)
placed_before names values rows zero placed = tt
placed_before names values [] (suc n) placed = placed
placed_before names values (row ∷ rows) (suc n) placed = (placed.0, placed.1, placed_before names values rows n placed.2)

-- of the row at a place
pub placed_at : (names : List Name) (values : List ℕ) (rows : List Row) (i : ℕ) (z : Row) → ArePlaced names values rows → i < length rows
    → ((get_or rows i z).name < length names) × ((get_or rows i z).val.at + (get_or rows i z).val.len ≤ length values)
placed_at names values [] i z placed lt = absurd (omega arith)
placed_at names values (row ∷ rows) zero z placed lt = (placed.0, placed.1)
placed_at names values (row ∷ rows) (suc i) z placed lt = placed_at names values rows i z placed.2 (omega arith)
