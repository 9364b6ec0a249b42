-- The namespace declarations that an element keeps (Namespaces in XML 1.0, section 3), and their text, which is the element's value: for
-- each the prefix, a byte 0, the URI, a byte 0.
use Rattle.std.specs.Prelude.{ℕ, ◌==◌, List, [], ◌∷◌, ◌++◌, codes, if◌then◌else◌}

-- a prefix, which is empty for the default, and its URI
abbrev pub Binding : Type 0
Binding = List ℕ × List ℕ

-- the text of declarations, one behind the other
abbrev pub declarations_value : List Binding → List ℕ
declarations_value [] = []
declarations_value (d ∷ ds) = d.0 ++ (0 ∷ (d.1 ++ (0 ∷ declarations_value ds)))

-- the texts that end by a byte 0, where the first was gathered so far
abbrev pub texts_from : List ℕ → List ℕ → List (List ℕ)
texts_from gathered [] = []
texts_from gathered (c ∷ bytes) = if c == 0 then gathered ∷ texts_from [] bytes else texts_from (gathered ++ c ∷ []) bytes

abbrev pub in_pairs : List (List ℕ) → List Binding
in_pairs [] = []
in_pairs (prefix ∷ []) = []
in_pairs (prefix ∷ uri ∷ texts) = (prefix, uri) ∷ in_pairs texts

-- the declarations whose text a value is
unfoldable pub declarations_of : List ℕ → List Binding
declarations_of value = in_pairs (texts_from [] value)

-- the name of the attribute that declares a prefix: `xmlns:p` or, for the default, `xmlns`
abbrev pub declared_name : List ℕ → List ℕ
declared_name [] = codes "xmlns"
declared_name (c ∷ prefix) = codes "xmlns:" ++ c ∷ prefix
