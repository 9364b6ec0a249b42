-- The attributes of a tag, as the code keeps them.
use Rattle.std.specs.Prelude.{◌≡◌, ℕ, ◌+◌, ◌≤◌, true, List, [], ◌∷◌, codes, length, map, Option, Some, None, if◌then◌else◌}
use Rattle.std.specs.Str.{bytes_eq, IsUtf8}
use Rattle.tree_model.specs.Declarations.{Binding, declarations_value}
use Rattle.tree_model.specs.Rows.{value_at}
use Rattle.tree_model.specs.XmlChars.{is_xml_qname}
use Rattle.tree_model.specs.XmlMeaning as meaning
use Rattle.tree_model.specs.XmlMeaning.{Scope, is_declaration, declared_prefix, kept_declarations, expanded}
use Rattle.xml_rows.specs.Numbers.{uri_at}
use Rattle.xml_rows.specs.declared.tag.Pair.{Pair}
use Rattle.xml_rows.specs.declared.tag.Expanded.{Expanded}

-- the prefix that an attribute declares, where it does
abbrev pub declared_of : List ℕ → Option (List ℕ)
declared_of name = if is_declaration name then Some (declared_prefix name) else None

-- the name of an attribute as it is written, and its value
abbrev pub pair_of : List ℕ → Pair → meaning.Pair
pair_of values pair = (pair.name.now, value_at values pair.val)

abbrev pub pairs_of : List ℕ → List Pair → List meaning.Pair
pairs_of values pairs = map (pair_of values) pairs

-- what an element keeps of one declaration: nothing of that of `xml`
abbrev pub kept_binding : List ℕ → List ℕ → List Binding
kept_binding prefix uri = if bytes_eq prefix (codes "xml") then [] else (prefix, uri) ∷ []

-- the text of the declarations that an element keeps of its tag
abbrev pub kept_value : List ℕ → List Pair → List ℕ
kept_value values pairs = declarations_value (kept_declarations (pairs_of values pairs))

-- each value lies among the bytes and is text, and each name is one
pub record IsPair (values : List ℕ) (pair : Pair) : Type 0 where
  pub within : pair.val.at + pair.val.len ≤ length values
  pub text : IsUtf8 (value_at values pair.val)
  pub named : is_xml_qname pair.name.now ≡ true

abbrev pub ArePairs : List ℕ → List Pair → Type 0
ArePairs values [] = Unit {0}
ArePairs values (pair ∷ pairs) = IsPair values pair × ArePairs values pairs

-- an expanded name
abbrev pub expanded_of : List (List ℕ) → Expanded → meaning.Pair
expanded_of uris found = (uri_at uris found.uri, found.local.now)

abbrev pub all_expanded : List (List ℕ) → List Expanded → List meaning.Pair
all_expanded uris found = map (expanded_of uris) found

-- the expanded names of attributes
abbrev pub expanded_all : Scope → List meaning.Pair → List meaning.Pair
expanded_all scope attrs = map (λ (a : meaning.Pair). expanded scope a.0) attrs

-- each attribute's name is one, as it is written
abbrev pub AreNamed : List Pair → Type 0
AreNamed [] = Unit {0}
AreNamed (pair ∷ pairs) = (is_xml_qname pair.name.now ≡ true) × AreNamed pairs

-- each value lies among the bytes
abbrev pub AreWithin : ℕ → List Pair → Type 0
AreWithin count [] = Unit {0}
AreWithin count (pair ∷ pairs) = (pair.val.at + pair.val.len ≤ count) × AreWithin count pairs
