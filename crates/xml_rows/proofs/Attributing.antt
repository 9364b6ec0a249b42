-- The rows of a tag's attributes, one after the other.
use Rattle.std.proofs.Common.{◌≡◌, ℕ, suc, ◌+◌, ◌-◌, ◌<◌, ◌≤◌, Bool, true, false, List, [], ◌∷◌, ◌++◌, length, map, ◌||◌, refl, sym, ap, ◌∙◌, subst, arith, append_assoc, append-nil}
use Rattle.std.specs.List.{list_any}
use Rattle.std.specs.Option.{is_none}
use Rattle.std.proofs.Math.Bool.{or_assoc, or-false}
use Rattle.tree_model.specs.Forest.{Line, attr_lines}
use Rattle.tree_model.specs.Labels.{Label, numbered_attrs}
use Rattle.tree_model.specs.Rows.{lines_of, ArePlaced}
use Rattle.tree_model.specs.XmlMeaning.{Scope, is_declaration, declared_prefix, attr_uri, attr_label, attr_labels, plain_attrs, has_unbound, expanded}
use Rattle.tree_model.specs.declared.row.Row.{Row}
use Rattle.tree_model.specs.declared.text.Name.{Name}
use Rattle.xml_rows.specs.Tagging.{pair_of, pairs_of, all_expanded, expanded_all, AreNamed, AreWithin}
use Rattle.xml_rows.specs.Work.{leaf}
use Rattle.xml_rows.specs.declared.tag.Pair as code
use Rattle.xml_rows.specs.declared.tag.Expanded.{Expanded}
use Rattle.xml_rows.proofs.Declaring.{declared_yes, declared_no, plain_declared, plain_plain, plain_none}

-- the lines of the attributes that are left
abbrev lines_left : Scope → List ℕ → ℕ → ℕ → List code.Pair → List (Line Label)
lines_left inside values place n rest = attr_lines (n - place) (numbered_attrs n (attr_labels inside (pairs_of values rest)))

-- what is kept before the attributes that are left: of all of them, with names and rows as they were at first and as they are
pub record IsAlong (inside : Scope) (uris : List (List ℕ)) (place : ℕ) (pairs rest : List code.Pair) (names0 names : List Name) (rows0 rows : List Row) (unbound : Bool) (found0 found : List Expanded) : Type 0 where
  pub named : AreNamed rest
  pub within : (values : List ℕ) → AreWithin (length values) pairs → AreWithin (length values) rest
  pub placed : (values : List ℕ) → ArePlaced names0 values rows0 → AreWithin (length values) pairs → ArePlaced names values rows
  pub lines : (values : List ℕ) → ArePlaced names0 values rows0 → AreWithin (length values) pairs
      → lines_of names values rows ++ lines_left inside values place (length rows) rest ≡ lines_of names0 values rows0 ++ lines_left inside values place (length rows0) pairs
  pub bad : (values : List ℕ) → (unbound || has_unbound inside (pairs_of values rest)) ≡ has_unbound inside (pairs_of values pairs)
  pub expands : (values : List ℕ) → all_expanded uris found ++ expanded_all inside (plain_attrs (pairs_of values rest)) ≡ all_expanded uris found0 ++ expanded_all inside (plain_attrs (pairs_of values pairs))

-- an attribute that is a declaration
pub along_declared : (inside : Scope) (uris : List (List ℕ)) (place : ℕ) (pairs rest tail : List code.Pair) (pair : code.Pair) (names0 names : List Name) (rows0 rows : List Row) (unbound : Bool) (found0 found : List Expanded)
    → rest ≡ pair ∷ tail → is_declaration pair.name.now ≡ true → IsAlong inside uris place pairs rest names0 names rows0 rows unbound found0 found → IsAlong inside uris place pairs tail names0 names rows0 rows unbound found0 found
along_declared inside uris place pairs rest tail pair names0 names rows0 rows unbound found0 found is declared along =
    let left : (values : List ℕ) → plain_attrs (pairs_of values rest) ≡ plain_attrs (pairs_of values tail) = λ values. ap (λ l. plain_attrs (pairs_of values l)) is ∙ plain_declared (pair_of values pair) (pairs_of values tail) (declared_prefix pair.name.now) (sym (declared_yes pair.name.now declared)) in
    let named : AreNamed (pair ∷ tail) = subst (λ l. AreNamed l) is along.named in
    record {
      named = named.1;
      within = λ values within. let both : AreWithin (length values) (pair ∷ tail) = subst (λ l. AreWithin (length values) l) is (along.within values within) in both.1;
      placed = along.placed;
      lines = λ values placed within. ap (λ l. lines_of names values rows ++ attr_lines (length rows - place) (numbered_attrs (length rows) (map (attr_label inside) l))) (sym (left values)) ∙ along.lines values placed within;
      bad = λ values. ap (λ l. unbound || list_any (λ a. is_none (attr_uri inside a.0)) l) (sym (left values)) ∙ along.bad values;
      expands = λ values. ap (λ l. all_expanded uris found ++ expanded_all inside l) (sym (left values)) ∙ along.expands values;
    }

-- and one that is none, whose row was made
pub along_plain : (inside : Scope) (uris : List (List ℕ)) (place : ℕ) (pairs rest tail : List code.Pair) (pair : code.Pair) (names0 names more : List Name) (rows0 rows grown : List Row) (unbound here : Bool) (found0 found wider : List Expanded)
    → rest ≡ pair ∷ tail → is_declaration pair.name.now ≡ false → place < length rows → length grown ≡ length rows + 1
    → here ≡ is_none (attr_uri inside pair.name.now)
    → ((values : List ℕ) → ArePlaced names values rows → lines_of more values grown ≡ lines_of names values rows ++ leaf (length rows) (length rows - place) (attr_label inside (pair_of values pair)) ∷ [])
    → ((values : List ℕ) → ArePlaced names values rows → pair.val.at + pair.val.len ≤ length values → ArePlaced more values grown)
    → all_expanded uris wider ≡ all_expanded uris found ++ expanded inside pair.name.now ∷ []
    → IsAlong inside uris place pairs rest names0 names rows0 rows unbound found0 found → IsAlong inside uris place pairs tail names0 more rows0 grown (unbound || here) found0 wider
along_plain inside uris place pairs rest tail pair names0 names more rows0 rows grown unbound here found0 found wider is plain lt len here_is lines placed expands along =
    let left : (values : List ℕ) → plain_attrs (pairs_of values rest) ≡ pair_of values pair ∷ plain_attrs (pairs_of values tail) = λ values. ap (λ l. plain_attrs (pairs_of values l)) is ∙ plain_plain (pair_of values pair) (pairs_of values tail) (sym (declared_no pair.name.now plain)) in
    let named : AreNamed (pair ∷ tail) = subst (λ l. AreNamed l) is along.named in
    let front : (values : List ℕ) → AreWithin (length values) pairs → AreWithin (length values) (pair ∷ tail) = λ values within. subst (λ l. AreWithin (length values) l) is (along.within values within) in
    record {
      named = named.1;
      within = λ values within. (front values within).1;
      placed = λ values all within. placed values (along.placed values all within) (front values within).0;
      lines = λ values all within. one_line values (lines values (along.placed values all within)) (left values) ∙ along.lines values all within;
      bad = λ values. or_assoc unbound here (has_unbound inside (pairs_of values tail)) ∙ ap (λ b. unbound || (b || has_unbound inside (pairs_of values tail))) here_is
          ∙ ap (λ l. unbound || list_any (λ a. is_none (attr_uri inside a.0)) l) (sym (left values)) ∙ along.bad values;
      expands = λ values. ap (λ l. l ++ expanded_all inside (plain_attrs (pairs_of values tail))) expands ∙ append_assoc (all_expanded uris found) (expanded inside pair.name.now ∷ []) (expanded_all inside (plain_attrs (pairs_of values tail)))
          ∙ ap (λ l. all_expanded uris found ++ expanded_all inside l) (sym (left values)) ∙ along.expands values;
    }
  where
    one_line : (values : List ℕ) → lines_of more values grown ≡ lines_of names values rows ++ leaf (length rows) (length rows - place) (attr_label inside (pair_of values pair)) ∷ []
        → plain_attrs (pairs_of values rest) ≡ pair_of values pair ∷ plain_attrs (pairs_of values tail)
        → lines_of more values grown ++ lines_left inside values place (length grown) tail ≡ lines_of names values rows ++ lines_left inside values place (length rows) rest
    one_line values made split =
        let n : length grown ≡ suc (length rows) = omega (arith, len) in
        let d : length grown - place ≡ suc (length rows - place) = omega (arith, len, lt) in
        let e1 : lines_left inside values place (length grown) tail ≡ attr_lines (suc (length rows - place)) (numbered_attrs (suc (length rows)) (attr_labels inside (pairs_of values tail))) =
        ap (λ m. attr_lines (length grown - place) (numbered_attrs m (attr_labels inside (pairs_of values tail)))) n ∙ ap (λ m. attr_lines m (numbered_attrs (suc (length rows)) (attr_labels inside (pairs_of values tail)))) d in
        ap (λ l. l ++ lines_left inside values place (length grown) tail) made
        ∙ append_assoc (lines_of names values rows) (leaf (length rows) (length rows - place) (attr_label inside (pair_of values pair)) ∷ []) (lines_left inside values place (length grown) tail)
        ∙ ap (λ l. lines_of names values rows ++ leaf (length rows) (length rows - place) (attr_label inside (pair_of values pair)) ∷ l) e1
        ∙ ap (λ l. lines_of names values rows ++ attr_lines (length rows - place) (numbered_attrs (length rows) (map (attr_label inside) l))) (sym split)

-- none is left
pub along_last : (inside : Scope) (uris : List (List ℕ)) (place : ℕ) (pairs rest : List code.Pair) (names0 names : List Name) (rows0 rows : List Row) (unbound : Bool) (found0 found : List Expanded) → rest ≡ []
    → IsAlong inside uris place pairs rest names0 names rows0 rows unbound found0 found → IsAlong inside uris place pairs [] names0 names rows0 rows unbound found0 found
along_last inside uris place pairs rest names0 names rows0 rows unbound found0 found is along = subst (λ l. IsAlong inside uris place pairs l names0 names rows0 rows unbound found0 found) is along

pub last_lines : (inside : Scope) (uris : List (List ℕ)) (place : ℕ) (pairs : List code.Pair) (names0 names : List Name) (rows0 rows : List Row) (unbound : Bool) (found0 found : List Expanded)
    → IsAlong inside uris place pairs [] names0 names rows0 rows unbound found0 found → (values : List ℕ) → ArePlaced names0 values rows0 → AreWithin (length values) pairs
    → lines_of names values rows ≡ lines_of names0 values rows0 ++ attr_lines (length rows0 - place) (numbered_attrs (length rows0) (attr_labels inside (pairs_of values pairs)))
last_lines inside uris place pairs names0 names rows0 rows unbound found0 found along values placed within =
    sym (ap (λ l. lines_of names values rows ++ attr_lines (length rows - place) (numbered_attrs (length rows) (map (attr_label inside) l))) (plain_none values [] refl) ∙ append-nil (lines_of names values rows)) ∙ along.lines values placed within

pub last_bad : (inside : Scope) (uris : List (List ℕ)) (place : ℕ) (pairs : List code.Pair) (names0 names : List Name) (rows0 rows : List Row) (unbound : Bool) (found0 found : List Expanded)
    → IsAlong inside uris place pairs [] names0 names rows0 rows unbound found0 found → (values : List ℕ) → unbound ≡ has_unbound inside (pairs_of values pairs)
last_bad inside uris place pairs names0 names rows0 rows unbound found0 found along values =
    sym (ap (λ l. unbound || list_any (λ a. is_none (attr_uri inside a.0)) l) (plain_none values [] refl) ∙ or-false unbound) ∙ along.bad values

pub last_expands : (inside : Scope) (uris : List (List ℕ)) (place : ℕ) (pairs : List code.Pair) (names0 names : List Name) (rows0 rows : List Row) (unbound : Bool) (found0 found : List Expanded)
    → IsAlong inside uris place pairs [] names0 names rows0 rows unbound found0 found → (values : List ℕ) → all_expanded uris found ≡ all_expanded uris found0 ++ expanded_all inside (plain_attrs (pairs_of values pairs))
last_expands inside uris place pairs names0 names rows0 rows unbound found0 found along values =
    sym (ap (λ l. all_expanded uris found ++ expanded_all inside l) (plain_none values [] refl) ∙ append-nil (all_expanded uris found)) ∙ along.expands values
