use Rattle.std.proofs.Common.{◌≡◌, ℕ, ◌+◌, ◌<◌, ◌≤◌, List, [], ◌∷◌, ◌++◌, length, codes, refl, sym, ap, ◌∙◌, subst, arith}
use Rattle.std.specs.Prelude.{slice_range}
use Rattle.node_table.specs.Views.{view_of, view_forest, HasKinds, KeepsTrees}
use Rattle.name_pool.specs.Names.{name_of, HasNumber}
use Rattle.tree_model.specs.Forest.{Forest, none, tree, Line, flatten, grove_of}
use Rattle.tree_model.specs.Labels.{Label, doc_label, text_label, numbered}
use Rattle.tree_model.specs.Rows.{name_at, value_at, lines_of, ArePlaced}
use Rattle.tree_model.specs.Trees.{grove_is, is_flat}
use Rattle.tree_model.specs.declared.row.Kind.TheVariants.{Doc, Text}
use Rattle.tree_model.specs.declared.row.Row.{Row}
use Rattle.tree_model.specs.declared.row.ValueRef.{ValueRef}
use Rattle.tree_model.specs.declared.text.Name.{Name}
use Rattle.doc_store.proofs.tests.document.Goals as goal

abbrev words : Forest Label
words = numbered 0 (tree (doc_label []) [] (tree (text_label (codes "words")) [] none none) none)

abbrev its_rows : ℕ → ValueRef → List Row
its_rows name val =
    record { kind = Doc; name = name; dist = 0; size = 2; asize = 1; id = 0; val = record { at = 0; len = 0 } }
    ∷ record { kind = Text; name = name; dist = 1; size = 1; asize = 1; id = 1; val = val } ∷ []

its_lines : (names : List Name) (values : List ℕ) (name : ℕ) (val : ValueRef) → name_at names name ≡ name_of [] [] [] → value_at values val ≡ codes "words" → lines_of names values (its_rows name val) ≡ flatten words
its_lines names values name val named valued = λ i.
    record { label = record { kind = Doc; id = 0; name = named i; value = [] }; dist = 0; size = 2; asize = 1 }
    ∷ record { label = record { kind = Text; id = 1; name = named i; value = valued i }; dist = 1; size = 1; asize = 1 } ∷ []

its_placed : (names : List Name) (values : List ℕ) (name : ℕ) (val : ValueRef) → name < length names → val.at + val.len ≤ length values → ArePlaced names values (its_rows name val)
its_placed names values name val lt le = (lt, omega arith, (lt, le, tt))

record Stands (names : List Name) (values : List ℕ) (rows : List Row) : Type 0 where
  forest : view_forest (view_of rows names values) ≡ words
  trees : KeepsTrees (view_of rows names values)

stands : (names : List Name) (values : List ℕ) (rows : List Row) (name : ℕ) (val : ValueRef) → rows ≡ its_rows name val → HasNumber names (name_of [] [] []) name → values ≡ codes "words" → val.at ≡ 0 → val.len ≡ 5 → Stands names values rows
stands names values rows name val rows_are number values_are at len =
    let valued : value_at values val ≡ codes "words" = λ i. slice_range (values_are i) (at i) (at i + len i) in
    let are : lines_of names values rows ≡ flatten words = ap (lines_of names values) rows_are ∙ its_lines names values name val number.1 valued in
    let forest : view_forest (view_of rows names values) ≡ words = grove_is (lines_of names values rows) words are in
    record {
      forest = forest;
      trees = record {
        flat = is_flat (lines_of names values rows) words are;
        placed = subst (ArePlaced names values) (sym rows_are) (its_placed names values name val number.0 (omega (arith, at, len, ap length values_are)));
        kinds = subst HasKinds (sym forest) (refl, (refl, tt), (refl, tt, tt, tt), tt);
      };
    }

its : (c : goal.In_ok-rows) → Stands c.intern_parts.new.self c.append.new.self c.in_ok-rows.rows.items
its c =
    stands c.intern_parts.new.self c.append.new.self c.in_ok-rows.rows.items c.in_ok-name.name c.in_ok-val.val c.in_ok-rows.ensures.items c.in_ok-name.ensures.number
    (c.in_ok-val.ensures.grown ∙ ap (λ l. l ++ codes "words") c.new-heap.ensures) (c.in_ok-val.ensures.at ∙ ap length c.new-heap.ensures) c.in_ok-val.ensures.len

pub returns-clause-trees : goal.returns-clause-trees
returns-clause-trees c = (its c).trees

pub returns-clause-len : goal.returns-clause-len
returns-clause-len c = ap length c.in_ok-rows.ensures.items

pub returns-clause-forest : goal.returns-clause-forest
returns-clause-forest c = (its c).forest
