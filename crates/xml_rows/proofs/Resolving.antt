-- Names with the URIs of their prefixes, and the rows of a tag.
use Rattle.std.proofs.Common.{◌≡◌, ℕ, ◌-◌, ◌<◌, List, [], ◌∷◌, ◌++◌, length, Option, Some, None, sym, ap, ◌∙◌, subst}
use Rattle.std.specs.Option.{option_map, unwrap_or, IfSome}
use Rattle.tree_model.specs.Rows.{name_at, value_at, lines_of, ArePlaced}
use Rattle.tree_model.specs.XmlMeaning.{Scope, or_empty, attr_uri, element_uri, attr_label, element_name}
use Rattle.tree_model.specs.declared.row.Kind.TheVariants.{Attr, Elem}
use Rattle.tree_model.specs.declared.row.Row.{Row}
use Rattle.tree_model.specs.declared.row.ValueRef.{ValueRef}
use Rattle.tree_model.specs.declared.text.Name.{Name}
use Rattle.tree_model.proofs.Tables.{lines_named, placed_named}
use Rattle.xml_rows.specs.Numbers.{Begins, uri_at, name_in, IsNumber}
use Rattle.xml_rows.specs.Table.{label_at, element_line}
use Rattle.xml_rows.specs.Tagging.{pair_of}
use Rattle.xml_rows.specs.Texts.{valued_label}
use Rattle.xml_rows.specs.Work.{leaf}
use Rattle.xml_rows.specs.declared.tag.Pair.{Pair}
use Rattle.xml_rows.proofs.Growing.{begins_more}

-- ---- rows, as more names are met

pub lines_begun : (names more : List Name) (values : List ℕ) (rows : List Row) → Begins names more → ArePlaced names values rows → lines_of more values rows ≡ lines_of names values rows
lines_begun names more values rows begins placed = ap (λ l. lines_of l values rows) (begins_more names more begins) ∙ lines_named names _ values rows placed

pub placed_begun : (names more : List Name) (values : List ℕ) (rows : List Row) → Begins names more → ArePlaced names values rows → ArePlaced more values rows
placed_begun names more values rows begins placed = subst (λ l. ArePlaced l values rows) (sym (begins_more names more begins)) (placed_named names _ values rows placed)

-- ---- the number of a URI, or that of the URI without bytes

pub or_within : (found : Option ℕ) (no_uri count : ℕ) → IfSome found (λ n. n < count) → no_uri < count → unwrap_or found no_uri < count
or_within None no_uri count found lt = lt
or_within (Some n) no_uri count found lt = found

pub uri_or : (uris : List (List ℕ)) (found : Option ℕ) (no_uri : ℕ) (uri : Option (List ℕ)) → uri ≡ option_map (uri_at uris) found → uri_at uris no_uri ≡ [] → uri_at uris (unwrap_or found no_uri) ≡ or_empty uri
uri_or uris None no_uri uri is empty = empty ∙ sym (ap or_empty is)
uri_or uris (Some n) no_uri uri is empty = sym (ap or_empty is)

-- ---- the row of an attribute, and of an element

name_is : (names : List Name) (uris more : List (List ℕ)) (n number : ℕ) (uri written : List ℕ) → IsNumber names more number written n → more ≡ uris → uri_at uris number ≡ uri → name_at names n ≡ name_in uri written
name_is names uris more n number uri written is same at = is.name ∙ ap (λ l. name_in (uri_at l number) written) same ∙ ap (λ u. name_in u written) at

pub attribute_lines : (names more : List Name) (uris others : List (List ℕ)) (values : List ℕ) (old new : List Row) (place n number : ℕ) (pair : Pair) (inside : Scope) → Begins names more → ArePlaced names values old
    → IsNumber more others number pair.name.now n → others ≡ uris → uri_at uris number ≡ or_empty (attr_uri inside pair.name.now)
    → lines_of more values new ≡ lines_of more values old ++ leaf (length old) (length old - place) (label_at more values Attr n pair.val) ∷ []
    → lines_of more values new ≡ lines_of names values old ++ leaf (length old) (length old - place) (attr_label inside (pair_of values pair)) ∷ []
attribute_lines names more uris others values old new place n number pair inside begins placed is same at lines =
    let e1 = name_is more uris others n number (or_empty (attr_uri inside pair.name.now)) pair.name.now is same at in
    let e2 = lines_begun names more values old begins placed in
    lines ∙ ap (λ (name : Name). lines_of more values old ++ leaf (length old) (length old - place) (record { kind = Attr; id = 0; name = name; value = (pair_of values pair).1 }) ∷ []) e1
    ∙ ap (λ l. l ++ leaf (length old) (length old - place) (attr_label inside (pair_of values pair)) ∷ []) e2

pub element_lines : (names more : List Name) (uris others : List (List ℕ)) (values : List ℕ) (old new : List Row) (place attributes n number : ℕ) (val : ValueRef) (written : List ℕ) (inside : Scope) → Begins names more → ArePlaced names values old
    → IsNumber more others number written n → others ≡ uris → uri_at uris number ≡ or_empty (element_uri inside written)
    → lines_of more values new ≡ lines_of more values old ++ element_line (length old) (length old - place) (label_at more values Elem n val) attributes ∷ []
    → lines_of more values new ≡ lines_of names values old ++ element_line (length old) (length old - place) (valued_label Elem (element_name inside written) (value_at values val)) attributes ∷ []
element_lines names more uris others values old new place attributes n number val written inside begins placed is same at lines =
    let e1 = name_is more uris others n number (or_empty (element_uri inside written)) written is same at in
    let e2 = lines_begun names more values old begins placed in
    lines ∙ ap (λ (name : Name). lines_of more values old ++ element_line (length old) (length old - place) (valued_label Elem name (value_at values val)) attributes ∷ []) e1
    ∙ ap (λ l. l ++ element_line (length old) (length old - place) (valued_label Elem (element_name inside written) (value_at values val)) attributes ∷ []) e2
