-- The place of the encoding in an XML declaration, and the encoding of a whole text.
use Rattle.std.specs.Prelude.{ℕ, ◌+◌, Bool, true, false, List, length, drop, map, Option, Some, None, codes, if◌then◌else◌}
use Rattle.std.specs.Borrow.{Bor}
use Rattle.std.specs.Option.{option_map, option_and_then}
use Rattle.std.specs.Str.{bytes_eq}
use Rattle.std.specs.Char.{to_ascii_lowercase}
use Rattle.tree_model.specs.XmlChars.{begins_with}
use Rattle.tree_model.specs.XmlSource.{Setting, Decl, mark_text}
use Rattle.tree_model.specs.XmlReads.{before_encoding}
use Rattle.xml_pieces.specs.Prolog.{decl}
use Rattle.xml_pieces.specs.declared.prolog.EncodingName.{EncodingName}
use Rattle.xml_pieces.specs.declared.prolog.Declaration.{Declaration}

-- where the name of the encoding begins, and the name
abbrev pub place_of : Decl → Setting → ℕ × List ℕ
place_of d s = (length (before_encoding d s), s.value)

abbrev pub encoding_of : Decl → Option (ℕ × List ℕ)
encoding_of d = option_map (place_of d) d.encoding

abbrev pub name_view : EncodingName → ℕ × List ℕ
name_view e = (e.at, e.name.now)

abbrev pub declaration_read : Declaration × Bor (List ℕ) → Option (ℕ × List ℕ) × List ℕ
declaration_read x = (option_map name_view x.0.encoding, x.1.now)

abbrev pub encoding_read : Decl × List ℕ → Option (ℕ × List ℕ) × List ℕ
encoding_read x = (encoding_of x.0, x.1)

-- UTF-8, in any letter case
abbrev pub is_utf_8_name : List ℕ → Bool
is_utf_8_name name = bytes_eq (map to_ascii_lowercase name) (codes "utf-8")

-- whether a byte order mark stands first, and what follows it
abbrev pub behind_mark : List ℕ → Bool × List ℕ
behind_mark text = if begins_with (mark_text true) text then (true, drop 3 text) else (false, text)

abbrev pub other_at : ℕ → ℕ × List ℕ → Option ℕ
other_at mark_len e = if is_utf_8_name e.1 then None else Some (mark_len + e.0)

-- where the name of the encoding begins, if a whole XML declaration stands first and its encoding isn't UTF-8
unfoldable pub other_encoding : List ℕ → Option ℕ
other_encoding text =
    option_and_then (other_at (length (mark_text (behind_mark text).0))) (option_and_then (λ (x : Option (ℕ × List ℕ) × List ℕ). x.0) (option_map encoding_read (decl (behind_mark text).1)))
