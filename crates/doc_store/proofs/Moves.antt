-- The rows of a document among the names and values of a database.
use Rattle.std.proofs.Common.{◌≡◌, ℕ, zero, suc, ◌+◌, ◌-◌, ◌^◌, ◌<◌, ◌≤◌, List, [], ◌∷◌, ◌++◌, length, take, drop, get_or, refl, sym, ap, ◌∙◌, subst, arith, append_assoc, append-nil, length-append, add-one}
use Rattle.std.proofs.Math.Seq.{drop-append_seam, drop-drop, take_all}
use Rattle.std.proofs.lemmas.List.{drop_more}
use Rattle.tree_model.specs.Forest.{Forest, none, tree, count, Line, raise, attr_lines, lines, flatten}
use Rattle.tree_model.specs.Trees.{length-attr_lines, length-lines}
use Rattle.tree_model.specs.Labels.{Label, with_id, numbered_attrs, numbered, with_path}
use Rattle.tree_model.specs.Rows.{name_at, value_at, label_of, line_of, lines_of, ArePlaced}
use Rattle.tree_model.specs.declared.row.Row.{Row}
use Rattle.tree_model.specs.declared.row.ValueRef.{ValueRef}
use Rattle.tree_model.specs.declared.text.Name.{Name}
use Rattle.tree_model.proofs.Numbering.{length-numbered_attrs, count-numbered}
use Rattle.tree_model.proofs.Tables.{value_kept, value_new, placed_at}
use Rattle.node_table.specs.Views.{part_view, view_lines, view_forest, KeepsTrees}
use Rattle.node_table.specs.declared.part.Part.{Part}
use Rattle.doc_store.specs.Moving.{AreNumbers, row_moved, moved, first_valued, with_ids, under_path, moved_lines}

-- ---- one row more

-- the row at a place has one of the names, and its value lies among the bytes
pub name_within : (names : List Name) (values : List ℕ) (rows all : List Row) (i n : ℕ) (z : Row) → ArePlaced names values rows → all ≡ rows → i < length all → n ≡ length names
    → (get_or all i z).name < n
name_within names values rows all i n z placed e lt is =
    let here = placed_at names values rows i z placed (omega (arith, lt, ap length e)) in
    omega (arith, here.0, ap (λ l. (get_or l i z).name) e, is)

pub value_within : (names : List Name) (values : List ℕ) (rows all : List Row) (i at : ℕ) (z : Row) → ArePlaced names values rows → all ≡ rows → i < length all → at + length values < 2 ^ 64
    → (get_or all i z).val.at + at < 2 ^ 64
value_within names values rows all i at z placed e lt room =
    let here = placed_at names values rows i z placed (omega (arith, lt, ap length e)) in
    omega (arith, here.1, ap (λ l. (get_or l i z).val.at) e, room)

pub moved_more : (all made rows whole : List Row) (numbers : List ℕ) (at id i : ℕ) (row z : Row) → all ++ moved numbers at id (drop i rows) ≡ whole → row ≡ row_moved numbers at id (get_or rows i z)
    → i < length rows → made ≡ all ++ row ∷ [] → made ++ moved numbers at (id + 1) (drop (i + 1) rows) ≡ whole
moved_more all made rows whole numbers at id i row z e is lt push =
    let next : List Row = moved numbers at (suc id) (drop (i + 1) rows) in
    ap (λ m. m ++ moved numbers at (id + 1) (drop (i + 1) rows)) push
    ∙ append_assoc all (row ∷ []) (moved numbers at (id + 1) (drop (i + 1) rows))
    ∙ ap (λ k. all ++ row ∷ moved numbers at k (drop (i + 1) rows)) (add-one id)
    ∙ ap (λ r. all ++ r ∷ next) is
    ∙ ap (λ l. all ++ moved numbers at id l) (sym (drop_more rows i z lt))
    ∙ e

pub moved_all : (all rows whole : List Row) (numbers : List ℕ) (at id i : ℕ) → all ++ moved numbers at id (drop i rows) ≡ whole → length rows ≤ i → all ≡ whole
moved_all all rows whole numbers at id i e le = sym (append-nil all) ∙ ap (λ l. all ++ moved numbers at id l) (sym (drop_past i rows le)) ∙ e
  where
    drop_past : (i : ℕ) (rows : List Row) → length rows ≤ i → drop i rows ≡ []
    drop_past zero [] le = refl
    drop_past zero (row ∷ rows) le = absurd (omega arith)
    drop_past (suc i) [] le = refl
    drop_past (suc i) (row ∷ rows) le = drop_past i rows (omega arith)

-- ---- the lines of numbered trees

with_ids-append : (n : ℕ) (ls more : List (Line Label)) → with_ids n (ls ++ more) ≡ with_ids n ls ++ with_ids (n + length ls) more
with_ids-append n [] more = ap (λ k. with_ids k more) (omega arith)
with_ids-append n (l ∷ ls) more = ap (λ x. record l { label = with_id n l.label } ∷ x) (with_ids-append (suc n) ls more ∙ ap (λ k. with_ids (suc n) ls ++ with_ids k more) (omega arith))

numbered-attr_lines : (n d : ℕ) (attrs : List Label) → attr_lines d (numbered_attrs n attrs) ≡ with_ids n (attr_lines d attrs)
numbered-attr_lines n d [] = refl
numbered-attr_lines n d (a ∷ attrs) = ap (λ x. record { label = with_id n a; dist = d; size = 1; asize = 1 } ∷ x) (numbered-attr_lines (suc n) (suc d) attrs)

numbered-lines : (n d : ℕ) (f : Forest Label) → lines d (numbered n f) ≡ with_ids n (lines d f)
numbered-lines n d none = refl
numbered-lines n d (tree label attrs kids rest) =
    let a : ℕ = 1 + length attrs in
    let t : ℕ = 1 + length attrs + count kids in
    let own : List Label = numbered_attrs (n + 1) attrs in
    let inner : Forest Label = numbered (n + a) kids in
    let after : Forest Label = numbered (n + t) rest in
    let al : List (Line Label) = attr_lines 1 attrs in
    let kl : List (Line Label) = lines a kids in
    let rl : List (Line Label) = lines (raise d t) rest in
    let row : ℕ → ℕ → Line Label = λ size asize. record { label = with_id n label; dist = d; size = size; asize = asize } in
    let e1 : 1 + length own ≡ a = omega (arith, length-numbered_attrs (n + 1) attrs) in
    let e2 : 1 + length own + count inner ≡ t = omega (arith, length-numbered_attrs (n + 1) attrs, count-numbered (n + a) kids) in
    let e3 : n + 1 ≡ suc n = add-one n in
    let e4 : suc n + length al ≡ n + a = omega (arith, length-attr_lines 1 attrs) in
    let e5 : n + a + length kl ≡ n + t = omega (arith, length-lines a kids) in
    ap (λ k. row k (1 + length own) ∷ (attr_lines 1 own ++ (lines (1 + length own) inner ++ lines (raise d k) after))) e2
    ∙ ap (λ k. row t k ∷ (attr_lines 1 own ++ (lines k inner ++ lines (raise d t) after))) e1
    ∙ ap (λ l. row t a ∷ (l ++ (lines a inner ++ lines (raise d t) after))) (numbered-attr_lines (n + 1) 1 attrs ∙ ap (λ k. with_ids k al) e3)
    ∙ ap (λ l. row t a ∷ (with_ids (suc n) al ++ (l ++ lines (raise d t) after))) (numbered-lines (n + a) a kids)
    ∙ ap (λ l. row t a ∷ (with_ids (suc n) al ++ (with_ids (n + a) kl ++ l))) (numbered-lines (n + t) (raise d t) rest ∙ ap (λ k. with_ids k rl) (sym e5))
    ∙ ap (λ l. row t a ∷ (with_ids (suc n) al ++ l)) (sym (with_ids-append (n + a) kl rl) ∙ ap (λ k. with_ids k (kl ++ rl)) (sym e4))
    ∙ ap (λ l. row t a ∷ l) (sym (with_ids-append (suc n) al (kl ++ rl)))

flatten-with_path : (path : List ℕ) (f : Forest Label) → flatten (with_path path f) ≡ under_path path (flatten f)
flatten-with_path path none = refl
flatten-with_path path (tree label attrs kids rest) = refl

moved-flatten : (path : List ℕ) (n : ℕ) (f : Forest Label) → moved_lines path n (flatten f) ≡ flatten (numbered n (with_path path f))
moved-flatten path n f = ap (with_ids n) (sym (flatten-with_path path f)) ∙ sym (numbered-lines n 0 (with_path path f))

-- the moved lines of a document are those of its tree, numbered and under the path
pub moved_built : (path : List ℕ) (n : ℕ) (built : Part) → KeepsTrees (part_view built) → moved_lines path n (view_lines (part_view built)) ≡ flatten (numbered n (with_path path (view_forest (part_view built))))
moved_built path n built h = ap (moved_lines path n) (sym h.flat) ∙ moved-flatten path n (view_forest (part_view built))

length-with_ids : (n : ℕ) (ls : List (Line Label)) → length (with_ids n ls) ≡ length ls
length-with_ids n [] = refl
length-with_ids n (l ∷ ls) = ap suc (length-with_ids (suc n) ls)

pub length-moved : (path : List ℕ) (n : ℕ) (ls : List (Line Label)) → length (moved_lines path n ls) ≡ length ls
length-moved path n [] = refl
length-moved path n (l ∷ ls) = ap suc (length-with_ids (suc n) ls)

-- ---- moved rows

-- where the bytes of a document lie among others, and the names have numbers
pub record Lies (names : List Name) (heap : List ℕ) (others : List Name) (values numbers : List ℕ) (at : ℕ) : Type 0 where
  pub front : List ℕ
  pub back : List ℕ
  pub is : heap ≡ front ++ (values ++ back)
  pub at_is : at ≡ length front
  pub numbers_are : AreNumbers names others numbers

value_moved : (front values back : List ℕ) (val : ValueRef) (at : ℕ) → at ≡ length front → val.at + val.len ≤ length values
    → value_at (front ++ (values ++ back)) (record val { at = val.at + at }) ≡ value_at values val
value_moved front values back val at e le =
    let all : List ℕ = front ++ (values ++ back) in
    let n : ((val.at + at) + val.len) - (val.at + at) ≡ (val.at + val.len) - val.at = omega arith in
    ap (λ k. take k (drop (val.at + at) all)) n
    ∙ ap (take ((val.at + val.len) - val.at)) (ap (λ k. drop k all) (let s : val.at + at ≡ length front + val.at = omega arith in s) ∙ sym (drop-drop val.at (length front) all) ∙ ap (drop val.at) (drop-append_seam front (values ++ back)))
    ∙ value_kept values back val le

line_moved : (names : List Name) (heap : List ℕ) (others : List Name) (values numbers : List ℕ) (at id : ℕ) (row : Row) → Lies names heap others values numbers at
    → row.name < length others → row.val.at + row.val.len ≤ length values
    → line_of names heap (row_moved numbers at id row) ≡ record (line_of others values row) { label = with_id id (label_of others values row) }
line_moved names heap others values numbers at id row w lt le =
    let e1 : name_at names (get_or numbers row.name 0) ≡ name_at others row.name = w.numbers_are.same row.name lt in
    let e2 : value_at heap (record row.val { at = row.val.at + at }) ≡ value_at values row.val = ap (λ h. value_at h (record row.val { at = row.val.at + at })) w.is ∙ value_moved w.front values w.back row.val at w.at_is le in
    let made : Name → List ℕ → Line Label = λ name value. record { label = record { kind = row.kind; id = id; name = name; value = value }; dist = row.dist; size = row.size; asize = row.asize } in
    ap (λ v. made (name_at names (get_or numbers row.name 0)) v) e2 ∙ ap (λ name. made name (value_at values row.val)) e1

lines_moved : (names : List Name) (heap : List ℕ) (others : List Name) (values numbers : List ℕ) (at id : ℕ) (rows : List Row) → Lies names heap others values numbers at
    → ArePlaced others values rows → lines_of names heap (moved numbers at id rows) ≡ with_ids id (lines_of others values rows)
lines_moved names heap others values numbers at id [] w placed = refl
lines_moved names heap others values numbers at id (row ∷ rows) w placed =
    ap (λ l. l ∷ lines_of names heap (moved numbers at (suc id) rows)) (line_moved names heap others values numbers at id row w placed.0 placed.1)
    ∙ ap (λ ls. record (line_of others values row) { label = with_id id (label_of others values row) } ∷ ls) (lines_moved names heap others values numbers at (suc id) rows w placed.2)

placed_moved : (names : List Name) (heap : List ℕ) (others : List Name) (values numbers : List ℕ) (at id : ℕ) (rows : List Row) → Lies names heap others values numbers at
    → ArePlaced others values rows → ArePlaced names heap (moved numbers at id rows)
placed_moved names heap others values numbers at id [] w placed = tt
placed_moved names heap others values numbers at id (row ∷ rows) w placed = (
  w.numbers_are.within row.name placed.0,
  omega (arith, placed.1, ap length w.is, w.at_is, length-append w.front (values ++ w.back), length-append values w.back),
  placed_moved names heap others values numbers at (suc id) rows w placed.2,
)

-- the rows of a document, and their lines
pub record AreUnder (names : List Name) (heap path : List ℕ) (first : ℕ) (before : List (Line Label)) (rows : List Row) : Type 0 where
  pub lines : lines_of names heap rows ≡ moved_lines path first before
  pub placed : ArePlaced names heap rows

under_heap : (old values path whole heap1 heap : List ℕ) → whole ≡ values → heap1 ≡ old ++ whole → heap ≡ heap1 ++ path → heap ≡ old ++ (values ++ path)
under_heap old values path whole heap1 heap e1 e2 e3 = e3 ∙ ap (λ h. h ++ path) (e2 ∙ ap (λ w. old ++ w) e1) ∙ append_assoc old values path

first_under : (names : List Name) (heap : List ℕ) (others : List Name) (values numbers path : List ℕ) (at first : ℕ) (rows : List Row) (val : ValueRef) (heap1 : List ℕ)
    → Lies names heap others values numbers at → ArePlaced others values rows → heap ≡ heap1 ++ path → val.at ≡ length heap1 → val.len ≡ length path
    → AreUnder names heap path first (lines_of others values rows) (first_valued val (moved numbers at first rows))
first_under names heap others values numbers path at first [] val heap1 w placed e at_is len_is = record { lines = refl; placed = tt }
first_under names heap others values numbers path at first (row ∷ rows) val heap1 w placed e at_is len_is =
    let e1 : name_at names (get_or numbers row.name 0) ≡ name_at others row.name = w.numbers_are.same row.name placed.0 in
    let e2 : value_at heap val ≡ path = ap (λ h. value_at h val) e ∙ value_new heap1 path val at_is len_is in
    let made : Name → List ℕ → Line Label = λ name value. record { label = record { kind = row.kind; id = first; name = name; value = value }; dist = row.dist; size = row.size; asize = row.asize } in
    let rest : List (Line Label) = lines_of names heap (moved numbers at (suc first) rows) in
    record {
      lines =
          ap (λ v. made (name_at names (get_or numbers row.name 0)) v ∷ rest) e2
          ∙ ap (λ name. made name path ∷ rest) e1
          ∙ ap (λ ls. made (name_at others row.name) path ∷ ls) (lines_moved names heap others values numbers at (suc first) rows w placed.2);
      placed = (
        w.numbers_are.within row.name placed.0,
        omega (arith, at_is, len_is, ap length e, length-append heap1 path),
        placed_moved names heap others values numbers at (suc first) rows w placed.2,
      );
    }

pub whole_heap : (heap whole : List ℕ) (len : ℕ) → len ≡ length heap → whole ≡ value_at heap (record { at = 0; len = len }) → whole ≡ heap
whole_heap heap whole len len_is e = e ∙ take_all ((0 + len) - 0) heap (omega arith)

-- names with numbers, all bytes behind the old ones, and the path behind these
pub all_under : (names : List Name) (old heap1 heap whole path : List ℕ) (built : Part) (numbers : List ℕ) (at first len : ℕ) (made rows : List Row) (val : ValueRef)
    → KeepsTrees (part_view built) → AreNumbers names built.names numbers → len ≡ length built.heap → whole ≡ value_at built.heap (record { at = 0; len = len })
    → heap1 ≡ old ++ whole → at ≡ length old → made ≡ moved numbers at first built.rows.items
    → heap ≡ heap1 ++ path → val.at ≡ length heap1 → val.len ≡ length path → rows ≡ first_valued val made
    → AreUnder names heap path first (view_lines (part_view built)) rows
all_under names old heap1 heap whole path built numbers at first len made rows val h ns len_is whole_is grown at_is made_is more val_at val_len rows_is =
    let same : whole ≡ built.heap = whole_heap built.heap whole len len_is whole_is in
    let w : Lies names heap built.names built.heap numbers at = record { front = old; back = path; is = under_heap old built.heap path whole heap1 heap same grown more; at_is = at_is; numbers_are = ns } in
    subst (λ r. AreUnder names heap path first (view_lines (part_view built)) r) (sym (rows_is ∙ ap (first_valued val) made_is))
    (first_under names heap built.names built.heap numbers path at first built.rows.items val heap1 w h.placed more val_at val_len)
