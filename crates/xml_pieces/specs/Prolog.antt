-- What stands before the root, as plain readers on lists give it: the XML declaration and the DOCTYPE.
use Rattle.std.specs.Prelude.{ℕ, Bool, not, ◌&&◌, ◌==◌, List, [], ◌∷◌, drop, Option, Some, None, codes, if◌then◌else◌}
use Rattle.tree_model.specs.XmlChars.{is_space, is_name_byte, is_xml_qname, first_is, begins_with}
use Rattle.tree_model.specs.XmlSource.{Setting, Decl, Literal, External, Doctype}
use Rattle.tree_model.specs.XmlGood.{is_quote, is_version, is_encoding, is_yes_or_no, is_pubid_char, is_any}
use Rattle.xml_pieces.specs.Readers.{Read, read, span, one, tested, word_of, both, chain, maybe, as_read}

-- some white space
abbrev pub gap_of : List ℕ → Read (List ℕ)
gap_of bytes = tested (first_is is_space) (span is_space bytes)

abbrev pub up_to : ℕ → ℕ → Bool
up_to delim c = not (c == delim)

-- a value that passes, between two quotes that are alike
abbrev pub quoted : (List ℕ → Bool) → List ℕ → Read (ℕ × (List ℕ × Unit {0}))
quoted passes bytes = chain (one is_quote) (λ d. both (λ b. tested passes (span (up_to d) b)) (word_of (d ∷ []))) bytes

abbrev pub SettingParts : Type 0
SettingParts = List ℕ × (Unit {0} × (List ℕ × (Unit {0} × (List ℕ × (ℕ × (List ℕ × Unit {0}))))))

abbrev pub setting_of : SettingParts → Setting
setting_of x = record { gap = x.0; before = x.1.1.0; behind = x.1.1.1.1.0; delim = x.1.1.1.1.1.0; value = x.1.1.1.1.1.1.0 }

-- white space, a word, `=` and a value
unfoldable pub setting : List ℕ → (List ℕ → Bool) → List ℕ → Read Setting
setting word passes bytes = as_read setting_of (both gap_of (both (word_of word) (both (span is_space) (both (word_of (61 ∷ [])) (both (span is_space) (quoted passes))))) bytes)

abbrev pub DeclParts : Type 0
DeclParts = Unit {0} × (Setting × (Option Setting × (Option Setting × (List ℕ × Unit {0}))))

abbrev pub decl_of : DeclParts → Decl
decl_of x = record { version = x.1.0; encoding = x.1.1.0; standalone = x.1.1.1.0; gap = x.1.1.1.1.0 }

-- the XML declaration
unfoldable pub decl : List ℕ → Read Decl
decl bytes =
    as_read decl_of
    (both (word_of (codes "<?xml"))
    (both (setting (codes "version") is_version)
    (both (maybe (setting (codes "encoding") is_encoding))
    (both (maybe (setting (codes "standalone") is_yes_or_no))
    (both (span is_space) (word_of (codes "?>"))))))
    bytes)

abbrev pub in_literal : (ℕ → Bool) → ℕ → ℕ → Bool
in_literal passes delim c = passes c && not (c == delim)

abbrev pub LiteralParts : Type 0
LiteralParts = List ℕ × (ℕ × (List ℕ × Unit {0}))

abbrev pub literal_of : LiteralParts → Literal
literal_of x = record { gap = x.0; delim = x.1.0; value = x.1.1.0 }

-- white space, and a literal between two quotes
unfoldable pub literal : (ℕ → Bool) → List ℕ → Read Literal
literal passes bytes = as_read literal_of (both gap_of (chain (one is_quote) (λ d. both (span (in_literal passes d)) (word_of (d ∷ [])))) bytes)

-- SYSTEM, or PUBLIC and a literal
unfoldable pub pubid : List ℕ → Read (Option Literal)
pubid bytes =
    if begins_with (codes "SYSTEM") bytes then read None (drop 6 bytes)
    else as_read (λ (x : Unit {0} × Literal). Some x.1) (both (word_of (codes "PUBLIC")) (literal is_pubid_char) bytes)

abbrev pub external_of : List ℕ × (Option Literal × Literal) → External
external_of x = record { gap = x.0; pubid = x.1.0; system = x.1.1 }

unfoldable pub external : List ℕ → Read External
external bytes = as_read external_of (both gap_of (both pubid (literal is_any)) bytes)

abbrev pub DoctypeParts : Type 0
DoctypeParts = Unit {0} × (List ℕ × (List ℕ × (Option External × List ℕ)))

abbrev pub doctype_of : DoctypeParts → Doctype
doctype_of x = record { gap = x.1.0; name = x.1.1.0; external = x.1.1.1.0; last = x.1.1.1.1 }

-- a DOCTYPE behind its < and !, up to what ends it
unfoldable pub doctype_front : List ℕ → Read Doctype
doctype_front bytes =
    as_read doctype_of
    (both (word_of (codes "DOCTYPE"))
    (both gap_of
    (both (λ b. tested is_xml_qname (span is_name_byte b))
    (both (maybe external) (span is_space))))
    bytes)
