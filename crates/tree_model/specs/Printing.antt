-- Nodes as XML text (XSLT 2.0 and XQuery 1.0 Serialization, section 5, as far as this kernel keeps it).
use Rattle.std.specs.Prelude.{ℕ, Bool, true, false, ◌==◌, List, [], ◌∷◌, ◌++◌, codes, map, Option, Some, None, if◌then◌else◌}
use Rattle.std.specs.List.{flat_map, join_with_byte}
use Rattle.std.specs.Str.{bytes_eq}
use Rattle.tree_model.specs.Declarations.{declarations_of, declared_name}
use Rattle.tree_model.specs.Forest.{Forest, none, tree}
use Rattle.tree_model.specs.Labels.{Label}
use Rattle.tree_model.specs.Nodes.{Node}
use Rattle.tree_model.specs.Sound.{prefixed_names, binding_of}
use Rattle.tree_model.specs.XmlMeaning.{Pair, Scope, uri_of, first_scope}
use Rattle.tree_model.specs.declared.row.Kind.{Kind}
use Rattle.tree_model.specs.declared.row.Kind.TheVariants.{Doc, Elem, Text, Attr, Comm, Pi}
use Rattle.tree_model.specs.declared.text.Name.{Name}

-- ---- characters

-- &, <, > and CR in character data
abbrev pub escape_data : ℕ → List ℕ
escape_data c = if c == 38 then codes "&amp;" else if c == 60 then codes "&lt;" else if c == 62 then codes "&gt;" else if c == 13 then codes "&#13;" else c ∷ []

-- and also the quote, TAB and LF in the value of an attribute
abbrev pub escape_value : ℕ → List ℕ
escape_value c = if c == 34 then codes "&quot;" else if c == 9 then codes "&#9;" else if c == 10 then codes "&#10;" else escape_data c

abbrev pub data_text : List ℕ → List ℕ
data_text value = flat_map escape_data value

abbrev pub value_text : List ℕ → List ℕ
value_text value = flat_map escape_value value

-- ---- declarations

-- whether a prefix, the empty one too, stands for a URI
abbrev pub is_uri : List ℕ → Option (List ℕ) → Bool
is_uri uri None = false
is_uri uri (Some bound) = bytes_eq bound uri

unfoldable pub is_bound : Scope → Name → Bool
is_bound scope name = is_uri name.uri (uri_of name.prefix scope)

-- the declarations that names want, one after the other: each only where what stands before doesn't bind its prefix so
abbrev pub wanted : Scope → List Name → List Pair
wanted scope [] = []
wanted scope (name ∷ names) = if is_bound scope name then wanted scope names else binding_of name ∷ wanted (binding_of name ∷ scope) names

-- what is in scope behind declarations, the last of them first
abbrev pub behind : List Pair → Scope → Scope
behind [] scope = scope
behind (binding ∷ bindings) scope = behind bindings (binding ∷ scope)

-- those that are added to an element's own: for its prefix, also the empty one, then for each prefix of its attributes
abbrev pub added : Scope → Label → List Label → List Pair
added scope label attrs = wanted (behind (declarations_of label.value) scope) (prefixed_names label attrs)

-- its own, then those that are added
abbrev pub declarations : Scope → Label → List Label → List Pair
declarations scope label attrs = declarations_of label.value ++ added scope label attrs

-- what is in scope in a node: only an element declares
abbrev pub scope_in : Scope → Label → List Label → Scope
scope_in scope label attrs = by label.kind
  where
    by : Kind → Scope
    by Doc = scope
    by Elem = behind (declarations scope label attrs) scope
    by Text = scope
    by Attr = scope
    by Comm = scope
    by Pi = scope

abbrev pub declaration_text : Pair → List ℕ
declaration_text binding = 32 ∷ (declared_name binding.0 ++ (codes "=\"" ++ (value_text binding.1 ++ codes "\"")))

-- ---- nodes

-- a name as it is written: prefix:local, or the local part alone
unfoldable pub written_name : Name → List ℕ
written_name name = by name.prefix
  where
    by : List ℕ → List ℕ
    by [] = name.local
    by (c ∷ prefix) = (c ∷ prefix) ++ 58 ∷ name.local

abbrev pub attr_text : Label → List ℕ
attr_text attr = written_name attr.name ++ (codes "=\"" ++ (value_text attr.value ++ codes "\""))

-- < and the name, the declarations, and each attribute behind a space
abbrev pub start_text : Scope → Label → List Label → List ℕ
start_text scope label attrs =
    60 ∷ (written_name label.name ++ (flat_map declaration_text (declarations scope label attrs) ++ flat_map (λ attr. 32 ∷ attr_text attr) attrs))

abbrev pub end_text : Label → List ℕ
end_text label = 60 ∷ 47 ∷ (written_name label.name ++ 62 ∷ [])

-- a processing instruction, whose value stands behind a space where it isn't empty
abbrev pub pi_text : Label → List ℕ
pi_text label = codes "<?" ++ (written_name label.name ++ by label.value)
  where
    by : List ℕ → List ℕ
    by [] = codes "?>"
    by (c ∷ value) = 32 ∷ ((c ∷ value) ++ codes "?>")

-- an element, with the text of its children where it has some
abbrev pub elem_text : Scope → Label → List Label → Bool → List ℕ → List ℕ
elem_text scope label attrs true kids = start_text scope label attrs ++ (62 ∷ (kids ++ end_text label))
elem_text scope label attrs false kids = start_text scope label attrs ++ codes "/>"

-- a node by its kind, with the text of its children
abbrev pub tree_text : Scope → Label → List Label → Bool → List ℕ → List ℕ
tree_text scope label attrs has_kids kids = by label.kind
  where
    by : Kind → List ℕ
    by Doc = kids
    by Elem = elem_text scope label attrs has_kids kids
    by Text = data_text label.value
    by Attr = attr_text label
    by Comm = codes "<!--" ++ (label.value ++ codes "-->")
    by Pi = pi_text label

abbrev pub has_trees : {A : Type 0} → Forest A → Bool
has_trees none = false
has_trees (tree a attrs kids rest) = true

-- trees, one after the other, where this is in scope about them
abbrev pub trees_text : Scope → Forest Label → List ℕ
trees_text scope none = []
trees_text scope (tree label attrs kids rest) =
    tree_text scope label attrs (has_trees kids) (trees_text (scope_in scope label attrs) kids) ++ trees_text scope rest

-- a node by itself: about it no prefix is bound but `xml`, and the default is empty
abbrev pub node_text : Node Label → List ℕ
node_text node = tree_text first_scope node.label node.attrs (has_trees node.kids) (trees_text (scope_in first_scope node.label node.attrs) node.kids)

-- documents, one after the other
abbrev pub documents_text : Forest Label → List ℕ
documents_text f = trees_text first_scope f

-- an answer: its nodes, joined by LF
abbrev pub answer_text : List (Node Label) → List ℕ
answer_text found = join_with_byte 10 (map node_text found)
