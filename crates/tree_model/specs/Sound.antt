-- What the documents of a database keep: the rules of the data model (XDM, section 6) and of names.
use Rattle.std.specs.Prelude.{◌≡◌, ℕ, ◌<◌, ◌≤◌, ◌^◌, Bool, true, false, not, ◌&&◌, ◌||◌, ◌==◌, nat_le, List, [], ◌∷◌, ◌++◌, map, filter, length, All, count_by, nat_eq, codes, if◌then◌else◌}
use Rattle.std.specs.List.{list_all, list_any}
use Rattle.std.specs.Str.{bytes_eq, chars, is_utf8}
use Rattle.std.specs.Char.{to_ascii_lowercase, is_ascii_alphanumeric}
use Rattle.tree_model.specs.Declarations.{Binding, declarations_of, declarations_value}
use Rattle.tree_model.specs.Forest.{Forest, none, tree, walk, count}
use Rattle.tree_model.specs.Labels.{Label}
use Rattle.tree_model.specs.XmlChars.{is_xml_char, is_xml_ncname, first_is, has_word}
use Rattle.tree_model.specs.declared.row.Kind.{Kind}
use Rattle.tree_model.specs.declared.row.Kind.TheVariants.{Doc, Elem, Text, Attr, Comm, Pi}
use Rattle.tree_model.specs.declared.text.Name.{Name}

abbrev pub is_empty : List ℕ → Bool
is_empty [] = true
is_empty (c ∷ bytes) = false

-- ---- names (Namespaces in XML 1.0, sections 2 to 6)

abbrev pub xml_uri : List ℕ
xml_uri = codes "http://www.w3.org/XML/1998/namespace"

abbrev pub xmlns_uri : List ℕ
xmlns_uri = codes "http://www.w3.org/2000/xmlns/"

-- the local part is an NCName and so is the prefix, where there is one; no uri goes with no prefix; `xml` and `xmlns` have their uris alone
abbrev pub is_good_name : Name → Bool
is_good_name name =
    is_xml_ncname name.local && (is_empty name.prefix || is_xml_ncname name.prefix) && (not (is_empty name.uri) || is_empty name.prefix)
    && (if bytes_eq name.prefix (codes "xml") then bytes_eq name.uri xml_uri else not (bytes_eq name.uri xml_uri))
    && not (bytes_eq name.prefix (codes "xmlns")) && not (bytes_eq name.uri xmlns_uri)

-- two names are the same where uri and local part are
abbrev pub is_same_name : Name → Name → Bool
is_same_name a b = bytes_eq a.uri b.uri && bytes_eq a.local b.local

abbrev pub are_distinct_names : List Name → Bool
are_distinct_names [] = true
are_distinct_names (name ∷ names) = not (list_any (is_same_name name) names) && are_distinct_names names

-- ---- each node by itself

abbrev pub has_no_name : Name → Bool
has_no_name name = is_empty name.uri && is_empty name.prefix && is_empty name.local

-- a text in UTF-8 whose characters are all Chars
abbrev pub are_chars : List ℕ → Bool
are_chars bytes = is_utf8 bytes && list_all is_xml_char (chars bytes)

-- an attribute without prefix is in no namespace and isn't named `xmlns`
abbrev pub is_attr_name : Name → Bool
is_attr_name name = is_good_name name && (not (is_empty name.prefix) || (is_empty name.uri && not (bytes_eq name.local (codes "xmlns"))))

-- a target is an NCName other than `xml` in any letter case
abbrev pub is_target : Name → Bool
is_target name = is_empty name.uri && is_empty name.prefix && is_xml_ncname name.local && not (bytes_eq (map to_ascii_lowercase name.local) (codes "xml"))

-- a comment has no --, also not with the - that follows it
abbrev pub is_comment : List ℕ → Bool
is_comment value = not (has_word (codes "--") (value ++ codes "-"))

-- the prefix is empty or an NCName other than `xml` and `xmlns`; the uri is empty only with the empty prefix, and is neither that of `xml` nor
-- that of `xmlns`
abbrev pub is_good_declaration : Binding → Bool
is_good_declaration d =
    (is_empty d.0 || is_xml_ncname d.0) && not (bytes_eq d.0 (codes "xml")) && not (bytes_eq d.0 (codes "xmlns")) && (not (is_empty d.1) || is_empty d.0)
    && not (bytes_eq d.1 xml_uri) && not (bytes_eq d.1 xmlns_uri) && are_chars d.1

-- the value is the text of good declarations
unfoldable pub spells_declarations : List ℕ → Bool
spells_declarations value = bytes_eq (declarations_value (declarations_of value)) value && list_all is_good_declaration (declarations_of value)

-- name and value are those that a node of the kind may have
abbrev pub is_good_node : Kind → Name → List ℕ → Bool
is_good_node Doc name value = has_no_name name
is_good_node Elem name value = is_good_name name && spells_declarations value
is_good_node Text name value = has_no_name name && not (is_empty value)
is_good_node Attr name value = is_attr_name name
is_good_node Comm name value = has_no_name name && is_comment value
is_good_node Pi name value = is_target name && not (has_word (codes "?>") value)

-- the characters of a value are Chars; in an element's value those of its declarations are
abbrev pub has_chars : Kind → List ℕ → Bool
has_chars Doc value = are_chars value
has_chars Elem value = true
has_chars Text value = are_chars value
has_chars Attr value = are_chars value
has_chars Comm value = are_chars value
has_chars Pi value = are_chars value

abbrev pub is_good_label : Label → Bool
is_good_label label = is_good_node label.kind label.name label.value && are_chars label.name.uri && has_chars label.kind label.value

-- ---- what stands where

abbrev pub is_doc : Label → Bool
is_doc label = by label.kind
  where
    by : Kind → Bool
    by Doc = true
    by Elem = false
    by Text = false
    by Attr = false
    by Comm = false
    by Pi = false

abbrev pub is_elem : Label → Bool
is_elem label = by label.kind
  where
    by : Kind → Bool
    by Doc = false
    by Elem = true
    by Text = false
    by Attr = false
    by Comm = false
    by Pi = false

abbrev pub is_text : Label → Bool
is_text label = by label.kind
  where
    by : Kind → Bool
    by Doc = false
    by Elem = false
    by Text = true
    by Attr = false
    by Comm = false
    by Pi = false

abbrev pub is_attr : Label → Bool
is_attr label = by label.kind
  where
    by : Kind → Bool
    by Doc = false
    by Elem = false
    by Text = false
    by Attr = true
    by Comm = false
    by Pi = false

abbrev pub is_comm : Label → Bool
is_comm label = by label.kind
  where
    by : Kind → Bool
    by Doc = false
    by Elem = false
    by Text = false
    by Attr = false
    by Comm = true
    by Pi = false

abbrev pub is_pi : Label → Bool
is_pi label = by label.kind
  where
    by : Kind → Bool
    by Doc = false
    by Elem = false
    by Text = false
    by Attr = false
    by Comm = false
    by Pi = true

-- documents and elements have children, which are neither documents nor attributes
abbrev pub fits : Label → Label → Bool
fits parent child = (is_doc parent || is_elem parent) && not (is_doc child || is_attr child)

-- the names that bind prefixes in an element: its own, and those of its attributes with a prefix
abbrev pub prefixed_names : Label → List Label → List Name
prefixed_names label attrs = label.name ∷ filter (λ (name : Name). not (is_empty name.prefix)) (map (λ (a : Label). a.name) attrs)

-- a name binds its prefix, also the empty one, to its uri
abbrev pub binding_of : Name → Binding
binding_of name = (name.prefix, name.uri)

-- what an element binds: what it declares, and the prefixes of those names
abbrev pub bindings_of : Label → List Label → List Binding
bindings_of label attrs = declarations_of label.value ++ map binding_of (prefixed_names label attrs)

-- each prefix has one uri
abbrev pub has_one_uri : Binding → Binding → Bool
has_one_uri a b = not (bytes_eq a.0 b.0) || bytes_eq a.1 b.1

abbrev pub have_one_uri : List Binding → Bool
have_one_uri [] = true
have_one_uri (binding ∷ bindings) = list_all (has_one_uri binding) bindings && have_one_uri bindings

abbrev pub are_distinct : List (List ℕ) → Bool
are_distinct [] = true
are_distinct (x ∷ xs) = not (list_any (bytes_eq x) xs) && are_distinct xs

-- no prefix is declared twice, and each prefix in the element has one uri
unfoldable pub binds_well : Label → List Label → Bool
binds_well label attrs = are_distinct (map (λ (d : Binding). d.0) (declarations_of label.value)) && have_one_uri (bindings_of label attrs)

-- only an element has attributes; their names differ, and it binds well, also where it has none
abbrev pub owns : Label → List Label → Bool
owns label [] = not (is_elem label) || binds_well label []
owns label (a ∷ attrs) = is_elem label && list_all is_attr (a ∷ attrs) && are_distinct_names (map (λ (b : Label). b.name) (a ∷ attrs)) && binds_well label (a ∷ attrs)

abbrev pub AllRoots : {A : Type 0} → (A → Bool) → Forest A → Type 0
AllRoots test none = Unit {0}
AllRoots test (tree label attrs kids rest) = (test label ≡ true) × AllRoots test rest

-- each tree may have its attributes, and its children may stand below it
abbrev pub Kept : {A : Type 0} → (A → A → Bool) → (A → List A → Bool) → Forest A → Type 0
Kept fits owns none = Unit {0}
Kept fits owns (tree label attrs kids rest) = (owns label attrs ≡ true) × AllRoots (fits label) kids × Kept fits owns kids × Kept fits owns rest

-- no text stands right before the trees
abbrev pub begins_no_text : Forest Label → Bool
begins_no_text none = true
begins_no_text (tree label attrs kids rest) = not (is_text label)

-- no two texts are neighbours
abbrev pub are_texts_apart : Forest Label → Bool
are_texts_apart none = true
are_texts_apart (tree label attrs kids rest) = (not (is_text label) || begins_no_text rest) && are_texts_apart kids && are_texts_apart rest

-- ---- paths of documents

abbrev pub is_path_char : ℕ → Bool
is_path_char c = is_ascii_alphanumeric c || c == 95 || c == 45 || c == 46 || c == 47

-- 1 to 255 letters, digits, _ - . or /, with no / at an end and no two in a row
abbrev pub is_path : List ℕ → Bool
is_path path =
    not (is_empty path) && nat_le (length path) 255 && list_all is_path_char path && not (first_is (λ c. c == 47) path) && not (has_word (codes "//") (path ++ codes "/"))

abbrev pub top_values : Forest Label → List (List ℕ)
top_values none = []
top_values (tree label attrs kids rest) = label.value ∷ top_values rest

-- ---- the whole

-- how many nodes have the id
abbrev pub with_id_count : ℕ → List Label → ℕ
with_id_count id labels = count_by (λ (label : Label). nat_eq label.id id) labels

-- all rules but the limit on the number of nodes
pub record KeepsRules (f : Forest Label) (next : ℕ) : Type 0 where
  pub roots : AllRoots is_doc f
  pub places : Kept fits owns f
  pub nodes : list_all is_good_label (walk f) ≡ true
  pub ids_once : (id : ℕ) → with_id_count id (walk f) ≤ 1
  pub ids_below : All (λ (label : Label). label.id < next) (walk f)
  pub texts : are_texts_apart f ≡ true
  pub paths : list_all is_path (top_values f) ≡ true
  pub paths_differ : are_distinct (top_values f) ≡ true

pub record IsSound (f : Forest Label) (next : ℕ) : Type 0 where
  pub rules : KeepsRules f next
  pub few : count f ≤ 2 ^ 24

-- ---- while an update is applied

-- a text may be empty
abbrev pub is_loose_node : Kind → Name → List ℕ → Bool
is_loose_node Doc name value = is_good_node Doc name value
is_loose_node Elem name value = is_good_node Elem name value
is_loose_node Text name value = has_no_name name
is_loose_node Attr name value = is_good_node Attr name value
is_loose_node Comm name value = is_good_node Comm name value
is_loose_node Pi name value = is_good_node Pi name value

abbrev pub is_loose_label : Label → Bool
is_loose_label label = is_loose_node label.kind label.name label.value && are_chars label.name.uri && has_chars label.kind label.value

-- only an element has attributes; their names may be the same, and a prefix may have two uris
abbrev pub bears : Label → List Label → Bool
bears label [] = true
bears label (a ∷ attrs) = is_elem label && list_all is_attr (a ∷ attrs)

-- what holds of documents whose update isn't complete: texts may also be neighbours, and two documents may have one path
pub record IsLoose (f : Forest Label) (next : ℕ) : Type 0 where
  pub roots : AllRoots is_doc f
  pub places : Kept fits bears f
  pub nodes : list_all is_loose_label (walk f) ≡ true
  pub ids_once : (id : ℕ) → with_id_count id (walk f) ≤ 1
  pub ids_below : All (λ (label : Label). label.id < next) (walk f)
  pub few : count f ≤ 2 ^ 24

-- documents that keep all rules keep these
abbrev pub SoundIsLoose : Type 0
SoundIsLoose = (f : Forest Label) (next : ℕ) → IsSound f next → IsLoose f next
