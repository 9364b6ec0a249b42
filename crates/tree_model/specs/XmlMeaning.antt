-- What a cut text stands for: its trees, and its faults in the order of the text.
use Rattle.std.specs.Prelude.{ℕ, ◌+◌, Bool, true, false, not, ◌&&◌, ◌||◌, ◌==◌, List, [], ◌∷◌, ◌++◌, map, length, Option, Some, None, codes, if◌then◌else◌}
use Rattle.std.specs.List.{flat_map, list_all, list_any}
use Rattle.std.specs.Option.{option_map_or, is_none}
use Rattle.std.specs.Str.{bytes_eq}
use Rattle.std.specs.Char.{encode_utf8}
use Rattle.tree_model.specs.Declarations.{declarations_value}
use Rattle.tree_model.specs.Forest.{Forest, none, tree, join}
use Rattle.tree_model.specs.Labels.{Label, doc_label, text_label, local_name, numbered}
use Rattle.tree_model.specs.Sound.{is_empty, xml_uri, xmlns_uri}
use Rattle.tree_model.specs.XmlChars.{is_space, has_colon, before_colon, behind_colon, prefix_of, local_of}
use Rattle.tree_model.specs.XmlSource.{Part, run, entity, decimal, hexadecimal, part_text, Attr, attr_head, attr_source, Content, done, element, empty, part, cdata, comm, pi, start_source, close_source, cdata_source, comm_source, pi_source, content_text, Source, before_root}
use Rattle.tree_model.specs.XmlGood.{number_from}
use Rattle.tree_model.specs.declared.row.Kind.TheVariants.{Elem, Attr as AttrKind, Comm, Pi}
use Rattle.tree_model.specs.declared.text.Name.{Name}

-- ---- texts

-- CR LF and a single CR become LF (section 2.11); whether a CR stands before
abbrev pub line_ends_from : Bool → List ℕ → List ℕ
line_ends_from was [] = []
line_ends_from was (c ∷ bytes) = if c == 13 then 10 ∷ line_ends_from true bytes else if was && c == 10 then line_ends_from false bytes else c ∷ line_ends_from false bytes

unfoldable pub line_ends : List ℕ → List ℕ
line_ends bytes = line_ends_from false bytes

-- in a value, TAB and LF then become spaces (section 3.3.3)
abbrev pub value_byte : ℕ → ℕ
value_byte c = if c == 9 || c == 10 then 32 else c

unfoldable pub spaced : List ℕ → List ℕ
spaced bytes = map value_byte (line_ends bytes)

-- the predefined entities (section 4.6)
unfoldable pub entity_char : List ℕ → Option ℕ
entity_char name =
    if bytes_eq name (codes "lt") then Some 60 else if bytes_eq name (codes "gt") then Some 62 else if bytes_eq name (codes "amp") then Some 38
    else if bytes_eq name (codes "quot") then Some 34 else if bytes_eq name (codes "apos") then Some 39 else None

-- the bytes of a known entity's character; an unknown reference is left as it is written
unfoldable pub entity_value : List ℕ → List ℕ
entity_value name = option_map_or (λ c. c ∷ []) (entity_char name) (part_text (entity name))

unfoldable pub char_value : ℕ → List ℕ → List ℕ
char_value base digits = encode_utf8 (number_from base 0 digits)

abbrev pub value_in_text : Part → List ℕ
value_in_text (run bytes) = line_ends bytes
value_in_text (entity name) = entity_value name
value_in_text (decimal digits) = char_value 10 digits
value_in_text (hexadecimal digits) = char_value 16 digits

abbrev pub value_in_attr : Part → List ℕ
value_in_attr (run bytes) = spaced bytes
value_in_attr (entity name) = entity_value name
value_in_attr (decimal digits) = char_value 10 digits
value_in_attr (hexadecimal digits) = char_value 16 digits

-- an attribute: its name as it is written, and its value
abbrev pub Pair : Type 0
Pair = List ℕ × List ℕ

abbrev pub pair_of : Attr → Pair
pair_of a = (a.name, flat_map value_in_attr a.value)

-- ---- namespaces (Namespaces in XML 1.0, sections 3 to 6)

-- prefixes and their URIs, the innermost first; the empty prefix is the default
abbrev pub Scope : Type 0
Scope = List Pair

abbrev pub uri_of : List ℕ → Scope → Option (List ℕ)
uri_of prefix [] = None
uri_of prefix (bound ∷ scope) = if bytes_eq bound.0 prefix then Some bound.1 else uri_of prefix scope

abbrev pub first_scope : Scope
first_scope = ([], []) ∷ (codes "xml", xml_uri) ∷ []

-- the attributes `xmlns` and `xmlns:p`
unfoldable pub is_declaration : List ℕ → Bool
is_declaration name = if has_colon name then bytes_eq (before_colon name) (codes "xmlns") else bytes_eq name (codes "xmlns")

unfoldable pub declared_prefix : List ℕ → List ℕ
declared_prefix name = if has_colon name then behind_colon name else []

-- the declarations of a tag before what is in scope, the last of them first
unfoldable pub with_attrs : List Pair → Scope → Scope
with_attrs [] scope = scope
with_attrs (a ∷ attrs) scope = if is_declaration a.0 then with_attrs attrs ((declared_prefix a.0, a.1) ∷ scope) else with_attrs attrs scope

unfoldable pub is_bad_binding : List ℕ → List ℕ → Bool
is_bad_binding prefix uri =
    bytes_eq prefix (codes "xmlns") || bytes_eq uri xmlns_uri || (if bytes_eq prefix (codes "xml") then not (bytes_eq uri xml_uri) else bytes_eq uri xml_uri) || (not (is_empty prefix) && is_empty uri)

-- an attribute without prefix is in no namespace
unfoldable pub attr_uri : Scope → List ℕ → Option (List ℕ)
attr_uri scope name = if has_colon name then uri_of (before_colon name) scope else Some []

-- the prefix `xmlns` is none of an element's
unfoldable pub element_uri : Scope → List ℕ → Option (List ℕ)
element_uri scope name = if bytes_eq (prefix_of name) (codes "xmlns") then None else uri_of (prefix_of name) scope

abbrev pub or_empty : Option (List ℕ) → List ℕ
or_empty None = []
or_empty (Some uri) = uri

-- the attributes that are no declarations
unfoldable pub plain_attrs : List Pair → List Pair
plain_attrs [] = []
plain_attrs (a ∷ attrs) = if is_declaration a.0 then plain_attrs attrs else a ∷ plain_attrs attrs

abbrev pub attr_name : Scope → List ℕ → Name
attr_name scope name = record { uri = or_empty (attr_uri scope name); prefix = prefix_of name; local = local_of name }

abbrev pub element_name : Scope → List ℕ → Name
element_name scope name = record { uri = or_empty (element_uri scope name); prefix = prefix_of name; local = local_of name }

-- an expanded name: a URI and a local part
abbrev pub expanded : Scope → List ℕ → Pair
expanded scope name = (or_empty (attr_uri scope name), local_of name)

abbrev pub is_same_pair : Pair → Pair → Bool
is_same_pair a b = bytes_eq a.0 b.0 && bytes_eq a.1 b.1

abbrev pub is_pair_in : Pair → List Pair → Bool
is_pair_in p ps = list_any (is_same_pair p) ps

-- an expanded name stands among those before it
abbrev pub has_twice : List Pair → List Pair → Bool
has_twice before [] = false
has_twice before (p ∷ ps) = is_pair_in p before || has_twice (p ∷ before) ps

abbrev pub has_bad_binding : List Pair → Bool
has_bad_binding attrs = list_any (λ (a : Pair). is_declaration a.0 && is_bad_binding (declared_prefix a.0) a.1) attrs

abbrev pub has_unbound : Scope → List Pair → Bool
has_unbound scope attrs = list_any (λ (a : Pair). is_none (attr_uri scope a.0)) (plain_attrs attrs)

-- a tag that breaks a rule of namespaces; the scope is that of the tag's inside
unfoldable pub is_bad_tag : Scope → List ℕ → List Pair → Bool
is_bad_tag inside name attrs =
    has_bad_binding attrs || is_none (element_uri inside name) || has_unbound inside attrs || has_twice [] (map (λ (a : Pair). expanded inside a.0) (plain_attrs attrs))

-- ---- trees

-- what an element keeps of its tag's declarations: all but those of `xml`, in the order written
unfoldable pub kept_declarations : List Pair → List Pair
kept_declarations [] = []
kept_declarations (a ∷ attrs) =
    if is_declaration a.0 && not (bytes_eq (declared_prefix a.0) (codes "xml")) then (declared_prefix a.0, a.1) ∷ kept_declarations attrs else kept_declarations attrs

abbrev pub attr_label : Scope → Pair → Label
attr_label scope a = record { kind = AttrKind; id = 0; name = attr_name scope a.0; value = a.1 }

abbrev pub attr_labels : Scope → List Pair → List Label
attr_labels scope attrs = map (attr_label scope) (plain_attrs attrs)

abbrev pub tag_label : Scope → List ℕ → List Pair → Label
tag_label scope name attrs = record { kind = Elem; id = 0; name = element_name scope name; value = declarations_value (kept_declarations attrs) }

abbrev pub comm_label : List ℕ → Label
comm_label bytes = record { kind = Comm; id = 0; name = local_name []; value = line_ends bytes }

abbrev pub pi_label : List ℕ → List ℕ → Label
pi_label target bytes = record { kind = Pi; id = 0; name = local_name target; value = line_ends bytes }

-- a text is kept where it isn't empty and, where `strip` is asked for, isn't white space alone
abbrev pub is_kept_text : Bool → List ℕ → Bool
is_kept_text strip value = not (is_empty value || (strip && list_all is_space value))

-- the text that was gathered before the trees
abbrev pub with_gathered : Bool → List ℕ → Forest Label → Forest Label
with_gathered strip value more = if is_kept_text strip value then tree (text_label value) [] none more else more

-- the trees of content, with the text before them that was gathered so far: data, references and CDATA sections are one text
abbrev pub content_trees : Bool → Scope → List ℕ → Content → Forest Label
content_trees strip scope gathered done = with_gathered strip gathered none
content_trees strip scope gathered (element name attrs gap inner last more) =
    let pairs = map pair_of attrs in
    let inside = with_attrs pairs scope in
    with_gathered strip gathered (tree (tag_label inside name pairs) (attr_labels inside pairs) (content_trees strip inside [] inner) (content_trees strip scope [] more))
content_trees strip scope gathered (empty name attrs gap more) =
    let pairs = map pair_of attrs in
    let inside = with_attrs pairs scope in
    with_gathered strip gathered (tree (tag_label inside name pairs) (attr_labels inside pairs) none (content_trees strip scope [] more))
content_trees strip scope gathered (part p more) = content_trees strip scope (gathered ++ value_in_text p) more
content_trees strip scope gathered (cdata bytes more) = content_trees strip scope (gathered ++ line_ends bytes) more
content_trees strip scope gathered (comm bytes more) = with_gathered strip gathered (tree (comm_label bytes) [] none (content_trees strip scope [] more))
content_trees strip scope gathered (pi target gap bytes more) = with_gathered strip gathered (tree (pi_label target bytes) [] none (content_trees strip scope [] more))

-- comments and instructions outside the root, before other trees; white space there isn't kept
abbrev pub misc_trees : Content → Forest Label → Forest Label
misc_trees (comm bytes more) after = tree (comm_label bytes) [] none (misc_trees more after)
misc_trees (pi target gap bytes more) after = tree (pi_label target bytes) [] none (misc_trees more after)
misc_trees (part p more) after = misc_trees more after
misc_trees other after = after

-- a document without a path, with ids from 0 in document order
abbrev pub source_tree : Bool → Source → Forest Label
source_tree strip d =
    numbered 0 (tree (doc_label []) [] (misc_trees d.first (misc_trees d.second (join (content_trees strip first_scope [] d.root) (misc_trees d.last none)))) none)

-- ---- faults, in the order of the text, each with the place of its byte

pub data Fault : Type 0 where
  unknown_entity : (at : ℕ) → Fault
  bad_namespace : (at : ℕ) → Fault

unfoldable pub part_faults : ℕ → Part → List Fault
part_faults at (entity name) = option_map_or (λ c. []) (entity_char name) (unknown_entity at ∷ [])
part_faults at other = []

abbrev pub parts_faults : ℕ → List Part → List Fault
parts_faults at [] = []
parts_faults at (p ∷ parts) = part_faults at p ++ parts_faults (at + length (part_text p)) parts

abbrev pub attrs_faults : ℕ → List Attr → List Fault
attrs_faults at [] = []
attrs_faults at (a ∷ attrs) = parts_faults (at + length (attr_head a)) a.value ++ attrs_faults (at + length (attr_source a)) attrs

-- at the < of its tag
unfoldable pub tag_faults : Scope → ℕ → List ℕ → List Pair → List Fault
tag_faults inside at name attrs = if is_bad_tag inside name attrs then bad_namespace at ∷ [] else []

-- a tag's own fault stands before those in its attributes
abbrev pub content_faults : Scope → ℕ → Content → List Fault
content_faults scope at done = []
content_faults scope at (element name attrs gap inner last more) =
    let pairs = map pair_of attrs in
    let inside = with_attrs pairs scope in
    let within = at + length (start_source name attrs) + length (gap ++ 62 ∷ []) in
    tag_faults inside at name pairs
    ++ (attrs_faults (at + length (60 ∷ name)) attrs
    ++ (content_faults inside within inner ++ content_faults scope (within + length (content_text inner) + length (close_source name last)) more))
content_faults scope at (empty name attrs gap more) =
    let pairs = map pair_of attrs in
    let inside = with_attrs pairs scope in
    tag_faults inside at name pairs
    ++ (attrs_faults (at + length (60 ∷ name)) attrs ++ content_faults scope (at + length (start_source name attrs) + length (gap ++ 47 ∷ 62 ∷ [])) more)
content_faults scope at (part p more) = part_faults at p ++ content_faults scope (at + length (part_text p)) more
content_faults scope at (cdata bytes more) = content_faults scope (at + length (cdata_source bytes)) more
content_faults scope at (comm bytes more) = content_faults scope (at + length (comm_source bytes)) more
content_faults scope at (pi target gap bytes more) = content_faults scope (at + length (pi_source target gap bytes)) more

abbrev pub source_faults : Source → List Fault
source_faults d = content_faults first_scope (length (before_root d)) d.root
