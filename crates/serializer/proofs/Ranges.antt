-- The text of a range of rows, row by row.
use Rattle.std.proofs.Common.{◌≡◌, ◌≢◌, ◌⊎◌, inl, inr, ℕ, zero, suc, ◌+◌, ◌-◌, ◌<◌, ◌≤◌, min, List, [], ◌∷◌, ◌++◌, length, get_or, take, drop, add-one, append_assoc, append-nil, length-drop, refl, ap, sym, ◌∙◌, arith}
use Rattle.std.specs.Prelude.{slice_range}
use Rattle.std.specs.List.{join_with_byte}
use Rattle.std.proofs.lemmas.List.{drop-map, take-map, take_min, length-map}
use Rattle.std.proofs.lemmas.Bool.{cases_lt}
use Rattle.tree_model.specs.Forest.{Line, grove_of, IsFlat}
use Rattle.tree_model.specs.Labels.{Label}
use Rattle.tree_model.specs.Rows.{line_of, lines_of}
use Rattle.tree_model.specs.Printed.{row_text, row_texts, range_text}
use Rattle.tree_model.specs.declared.row.Row.{Row}
use Rattle.tree_model.specs.declared.text.Name.{Name}
use Rattle.serializer.proofs.Parts.{range_first, no_range}

-- the lines from a place on, each behind an LF
abbrev pub more_text : ℕ → List (Line Label) → List ℕ
more_text pre [] = []
more_text pre (line ∷ lines) = (10 ∷ []) ++ (row_text pre line ++ more_text (suc pre) lines)

-- the text of the lines that are left, behind so many others
abbrev pub text_ahead : ℕ → ℕ → List (Line Label) → List ℕ
text_ahead zero pre lines = join_with_byte 10 (row_texts pre lines)
text_ahead (suc n) pre lines = more_text pre lines

joined : (pre : ℕ) (line : Line Label) (lines : List (Line Label)) → join_with_byte 10 (row_texts pre (line ∷ lines)) ≡ row_text pre line ++ more_text (suc pre) lines
joined pre line [] = sym (append-nil (row_text pre line))
joined pre line (next ∷ lines) = ap (λ l. row_text pre line ++ 10 ∷ l) (joined (suc pre) next lines)

-- what stands before a line, behind so many others
abbrev pub gap : ℕ → List ℕ
gap zero = []
gap (suc n) = 10 ∷ []

pub spaced_first : (first pre : ℕ) (out spaced : List ℕ) → pre ≡ first → spaced ≡ out → spaced ≡ out ++ gap (pre - first)
spaced_first first pre out spaced at same = let none : pre - first ≡ 0 = omega arith in same ∙ sym (append-nil out) ∙ ap (λ n. out ++ gap n) (sym none)

pub spaced_behind : (first pre : ℕ) (out spaced : List ℕ) → first ≤ pre → pre ≢ first → spaced ≡ out ++ 10 ∷ [] → spaced ≡ out ++ gap (pre - first)
spaced_behind first pre out spaced le apart more = let some : pre - first ≡ suc (pre - first - 1) = omega arith in more ∙ ap (λ n. out ++ gap n) (sym some)

ahead_of : (n pre : ℕ) (line : Line Label) (lines : List (Line Label)) → text_ahead n pre (line ∷ lines) ≡ gap n ++ (row_text pre line ++ more_text (suc pre) lines)
ahead_of zero pre line lines = joined pre line lines
ahead_of (suc n) pre line lines = refl

-- a line more is printed
one_more : (n pre : ℕ) (line : Line Label) (lines : List (Line Label)) (out spaced new all : List ℕ) → spaced ≡ out ++ gap n → new ≡ spaced ++ row_text pre line
    → out ++ text_ahead n pre (line ∷ lines) ≡ all → new ++ more_text (pre + 1) lines ≡ all
one_more n pre line lines out spaced new all e f text =
    rw add-one (let whole : new ≡ (out ++ gap n) ++ row_text pre line = f ∙ ap (λ l. l ++ row_text pre line) e in
    ap (λ l. l ++ more_text (suc pre) lines) whole
    ∙ append_assoc (out ++ gap n) (row_text pre line) (more_text (suc pre) lines)
    ∙ append_assoc out (gap n) (row_text pre line ++ more_text (suc pre) lines)
    ∙ ap (λ l. out ++ l) (sym (ahead_of n pre line lines))
    ∙ text)

pub row_more : (names : List Name) (values : List ℕ) (rows : List Row) (row : Row) (first pre end : ℕ) (out spaced new all : List ℕ) → first ≤ pre → pre < end → end ≤ length rows
    → row ≡ get_or rows pre row → spaced ≡ out ++ gap (pre - first) → new ≡ spaced ++ row_text pre (line_of names values row)
    → out ++ text_ahead (pre - first) pre (lines_of names values (slice_range rows pre end)) ≡ all → new ++ text_ahead (pre + 1 - first) (pre + 1) (lines_of names values (slice_range rows (pre + 1) end)) ≡ all
row_more names values rows row first pre end out spaced new all from lt le is e f text =
    let i : ℕ = pre - first in
    let next : pre + 1 - first ≡ suc i = omega arith in
    let split : out ++ text_ahead i pre (lines_of names values (row ∷ slice_range rows (pre + 1) end)) ≡ all
    = ap (λ l. out ++ text_ahead i pre (lines_of names values l)) (sym (range_first rows pre end row lt le ∙ ap (λ (r : Row). r ∷ slice_range rows (pre + 1) end) (sym is))) ∙ text in
    ap (λ n. new ++ text_ahead n (pre + 1) (lines_of names values (slice_range rows (pre + 1) end))) next
    ∙ one_more i pre (line_of names values row) (lines_of names values (slice_range rows (pre + 1) end)) out spaced new all e f split

nothing_ahead : (n pre : ℕ) → text_ahead n pre [] ≡ []
nothing_ahead zero pre = refl
nothing_ahead (suc n) pre = refl

take_none : {A : Type 0} (xs : List A) (n : ℕ) → min n (length xs) ≡ 0 → take n xs ≡ []
take_none xs zero e = refl
take_none [] (suc n) e = refl
take_none (x ∷ xs) (suc n) e = absurd (omega arith)

lines_within : (names : List Name) (values : List ℕ) (rows : List Row) (n m : ℕ) → lines_of names values (take n (drop m rows)) ≡ take n (drop m (lines_of names values rows))
lines_within names values rows n m = sym (ap (take n) (drop-map (line_of names values) m rows) ∙ take-map (line_of names values) n (drop m rows))

no_rows : (lines : List (Line Label)) (from to : ℕ) → min (length lines) to ≤ from → take (to - from) (drop from lines) ≡ []
no_rows lines from to le = take_none (drop from lines) (to - from) (omega (arith, length-drop from lines))

-- the rows of a range that is cut to those that there are
same_rows : (lines : List (Line Label)) (from to start end : ℕ) → end ≡ min (length lines) to → start ≡ min end from
    → row_texts start (take (end - start) (drop start lines)) ≡ row_texts from (take (to - from) (drop from lines))
same_rows lines from to start end e f = same_by (cases_lt from end)
  where
    same_by : (from < end) ⊎ (end ≤ from) → row_texts start (take (end - start) (drop start lines)) ≡ row_texts from (take (to - from) (drop from lines))
    same_by (inr le) =
        let none_cut : take (end - start) (drop start lines) ≡ [] = take_none (drop start lines) (end - start) (omega arith) in
        ap (row_texts start) none_cut ∙ sym (ap (row_texts from) (no_rows lines from to (omega arith)))
    same_by (inl lt) =
        let at : start ≡ from = omega arith in
        let count : end - from ≡ min (to - from) (length (drop from lines)) = omega (arith, length-drop from lines) in
        ap (λ n. row_texts n (take (end - n) (drop n lines))) at
        ∙ ap (λ n. row_texts from (take n (drop from lines))) count
        ∙ ap (row_texts from) (take_min (to - from) (drop from lines))

-- all rows of the range are printed
pub range_printed : (names : List Name) (values : List ℕ) (rows : List Row) (out before : List ℕ) (i pre from to start end : ℕ)
    → IsFlat (lines_of names values rows) → end ≡ min (length rows) to → start ≡ min end from → end ≤ pre
    → out ++ text_ahead i pre (lines_of names values (slice_range rows pre end)) ≡ before ++ join_with_byte 10 (row_texts start (lines_of names values (slice_range rows start end)))
    → out ≡ before ++ range_text from to (grove_of (lines_of names values rows))
range_printed names values rows out before i pre from to start end flat e f past text =
    let none_ahead : out ++ text_ahead i pre (lines_of names values (slice_range rows pre end)) ≡ out
    = ap (λ l. out ++ text_ahead i pre (lines_of names values l)) (no_range rows pre end past) ∙ ap (λ l. out ++ l) (nothing_ahead i pre) ∙ append-nil out in
    sym none_ahead ∙ text ∙ ap (λ l. before ++ join_with_byte 10 l)
    (ap (row_texts start) (lines_within names values rows (end - start) start)
    ∙ same_rows (lines_of names values rows) from to start end (e ∙ ap (λ n. min n to) (sym (length-map rows (line_of names values)))) f
    ∙ ap (λ l. row_texts from (take (to - from) (drop from l))) (sym flat))
