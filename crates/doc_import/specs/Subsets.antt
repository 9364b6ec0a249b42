-- An internal subset at the front of bytes.
use Rattle.std.specs.Prelude.{ℕ, ◌-◌, Bool, ◌==◌, List, length, drop, Option, Some, None, codes, if◌then◌else◌}
use Rattle.tree_model.specs.XmlChars.{first_is, begins_with}
use Rattle.tree_model.specs.XmlSource.{Doctype}
use Rattle.xml_pieces.specs.Readers.{Read}
use Rattle.xml_pieces.specs.Prolog.{doctype_front}

abbrev pub is_bracket : ℕ → Bool
is_bracket c = c == 91

-- how many bytes stand before the [, where a DOCTYPE was read up to it
abbrev pub len_before : List ℕ → Read Doctype → Option ℕ
len_before bytes None = None
len_before bytes (Some x) = if first_is is_bracket x.1 then Some (length bytes - length x.1) else None

-- of bytes that begin with a DOCTYPE, so many stand before the [ of its internal subset
unfoldable pub subset_len : List ℕ → Option ℕ
subset_len bytes = if begins_with (codes "<!") bytes then len_before bytes (doctype_front (drop 2 bytes)) else None
