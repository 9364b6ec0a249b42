-- The pieces of a text, as plain readers on lists give them.
use Rattle.std.specs.Prelude.{◌≡◌, ℕ, Bool, true, false, not, ◌&&◌, ◌==◌, List, [], ◌∷◌, take, drop, Some, None, ⊤, codes, if◌then◌else◌}
use Rattle.std.specs.List.{prefix_len}
use Rattle.std.specs.Char.{is_ascii_digit, is_ascii_hexdigit}
use Rattle.tree_model.specs.XmlChars.{is_space, is_name_byte, is_xml_ncname, is_xml_qname, first_is, has_word, is_free}
use Rattle.tree_model.specs.XmlSource.{run, entity, decimal, hexadecimal, Doctype, doctype_text}
use Rattle.tree_model.specs.XmlGood.{AreSpace, IsGap, is_quote, is_decimal, is_hexadecimal, in_value, in_data, IsDataPart, IsValuePart, IsComm, is_pi_target, IsPi, IsDoctype}
use Rattle.xml_pieces.specs.Tokens.{Token, part_token, cdata_token, comm_token, pi_token, doctype_token, open_token, attr_token, quote_token, go_token, shut_token, close_token}
use Rattle.xml_pieces.specs.Readers.{Read, read, span, one, tested, until, word_of, both, chain, as_read}
use Rattle.xml_pieces.specs.Prolog.{doctype_front}

-- where the reader is: among content or outside the root, in a tag behind its name, or between the quotes of a value
pub data Where : Type 0 where
  content : Where
  a_tag : Where
  a_value : (delim : ℕ) → Where

abbrev pub ncname : List ℕ → Read (List ℕ)
ncname bytes = tested is_xml_ncname (span is_name_byte bytes)

abbrev pub qname : List ℕ → Read (List ℕ)
qname bytes = tested is_xml_qname (span is_name_byte bytes)

-- ---- references

abbrev pub Ended : Type 0
Ended = List ℕ × Unit {0}

-- behind "&": a name
unfoldable pub entity_reference : List ℕ → Read Ended
entity_reference bytes = both ncname (word_of (59 ∷ [])) bytes

-- behind "&#": decimal digits
unfoldable pub decimal_reference : List ℕ → Read Ended
decimal_reference bytes = both (λ b. tested is_decimal (span is_ascii_digit b)) (word_of (59 ∷ [])) bytes

-- behind "&#x": hexadecimal digits
unfoldable pub hexadecimal_reference : List ℕ → Read Ended
hexadecimal_reference bytes = both (λ b. tested is_hexadecimal (span is_ascii_hexdigit b)) (word_of (59 ∷ [])) bytes

-- behind "&#"
unfoldable pub char_reference : List ℕ → Read Token
char_reference [] = None
char_reference (c ∷ bytes) =
    if c == 120 then as_read (λ (x : Ended). part_token (hexadecimal x.0)) (hexadecimal_reference bytes)
    else as_read (λ (x : Ended). part_token (decimal x.0)) (decimal_reference (c ∷ bytes))

-- behind "&"
unfoldable pub reference : List ℕ → Read Token
reference [] = None
reference (c ∷ bytes) = if c == 35 then char_reference bytes else as_read (λ (x : Ended). part_token (entity x.0)) (entity_reference (c ∷ bytes))

-- ---- runs

abbrev pub is_data_run : List ℕ → Bool
is_data_run bytes = first_is in_data bytes && not (has_word (codes "]]>") bytes)

unfoldable pub data_run : List ℕ → Read (List ℕ)
data_run bytes = tested is_data_run (span in_data bytes)

unfoldable pub value_run : ℕ → List ℕ → Read (List ℕ)
value_run delim bytes = tested (first_is (in_value delim)) (span (in_value delim) bytes)

abbrev pub run_token : List ℕ → Token
run_token bytes = part_token (run bytes)

-- ---- markup

-- behind "</"
unfoldable pub close_tag : List ℕ → Read (List ℕ × (List ℕ × Unit {0}))
close_tag bytes = both qname (both (span is_space) (word_of (62 ∷ []))) bytes

-- behind "<!": a comment
unfoldable pub comment : List ℕ → Read (Unit {0} × (List ℕ × Unit {0}))
comment bytes = both (word_of (codes "--")) (both (until (codes "--")) (word_of (62 ∷ []))) bytes

-- behind "<!": a CDATA section
unfoldable pub cdata_section : List ℕ → Read (Unit {0} × List ℕ)
cdata_section bytes = both (word_of (codes "[CDATA[")) (until (codes "]]>")) bytes

-- behind "<!": a whole DOCTYPE
unfoldable pub doctype : List ℕ → Read (Doctype × Unit {0})
doctype bytes = both doctype_front (word_of (62 ∷ [])) bytes

-- behind the target of an instruction, and white space: the rest up to its end
abbrev pub pi_rest : List ℕ → List ℕ → Read (List ℕ)
pi_rest [] bytes = as_read (λ (u : Unit {0}). []) (word_of (codes "?>") bytes)
pi_rest (c ∷ gap) bytes = until (codes "?>") bytes

-- behind "<?"
unfoldable pub instruction : List ℕ → Read (List ℕ × (List ℕ × List ℕ))
instruction bytes = both (λ b. tested is_pi_target (span is_name_byte b)) (chain (span is_space) pi_rest) bytes

-- behind "<!"
unfoldable pub declaration : List ℕ → Read Token
declaration [] = None
declaration (c ∷ bytes) =
    if c == 45 then as_read (λ (x : Unit {0} × (List ℕ × Unit {0})). comm_token x.1.0) (comment (c ∷ bytes))
    else if c == 91 then as_read (λ (x : Unit {0} × List ℕ). cdata_token x.1) (cdata_section (c ∷ bytes))
    else as_read (λ (x : Doctype × Unit {0}). doctype_token (doctype_text x.0)) (doctype (c ∷ bytes))

abbrev pub close_of : List ℕ × (List ℕ × Unit {0}) → Token
close_of x = close_token x.0 x.1.0

abbrev pub pi_of : List ℕ × (List ℕ × List ℕ) → Token
pi_of x = pi_token x.0 x.1.0 x.1.1

-- behind "<"
unfoldable pub markup : List ℕ → Read Token
markup [] = None
markup (c ∷ bytes) =
    if c == 47 then as_read close_of (close_tag bytes) else if c == 33 then declaration bytes
    else if c == 63 then as_read pi_of (instruction bytes) else as_read open_token (qname (c ∷ bytes))

unfoldable pub in_content : List ℕ → Read Token
in_content [] = None
in_content (c ∷ bytes) = if c == 60 then markup bytes else if c == 38 then reference bytes else as_read run_token (data_run (c ∷ bytes))

-- ---- tags and values

-- an attribute behind white space, up to the first quote of its value
unfoldable pub attr_start : List ℕ → Read (List ℕ × (List ℕ × (Unit {0} × (List ℕ × ℕ))))
attr_start bytes = both qname (both (span is_space) (both (word_of (61 ∷ [])) (both (span is_space) (one is_quote)))) bytes

abbrev pub attr_of : List ℕ → List ℕ × (List ℕ × (Unit {0} × (List ℕ × ℕ))) → Token
attr_of gap x = attr_token gap x.0 x.1.0 x.1.1.1.0 x.1.1.1.1

unfoldable pub behind_gap : List ℕ → List ℕ → Read Token
behind_gap gap [] = None
behind_gap gap (c ∷ bytes) =
    if c == 62 then read (go_token gap) bytes else if c == 47 then as_read (λ (u : Unit {0}). shut_token gap) (word_of (62 ∷ []) bytes)
    else if first_is is_space gap then as_read (attr_of gap) (attr_start (c ∷ bytes)) else None

unfoldable pub in_quotes : ℕ → List ℕ → Read Token
in_quotes delim [] = None
in_quotes delim (c ∷ bytes) = if c == delim then read (quote_token delim) bytes else if c == 38 then reference bytes else as_read run_token (value_run delim (c ∷ bytes))

-- the piece at the front
abbrev pub item : Where → List ℕ → Read Token
item content bytes = in_content bytes
item a_tag bytes = behind_gap (take (prefix_len is_space bytes) bytes) (drop (prefix_len is_space bytes) bytes)
item (a_value delim) bytes = in_quotes delim bytes

-- what a piece keeps
abbrev pub IsToken : Where → Token → Type 0
IsToken content (part_token p) = IsDataPart p
IsToken content (cdata_token bytes) = is_free (codes "]]>") bytes ≡ true
IsToken content (comm_token bytes) = IsComm bytes
IsToken content (pi_token target gap bytes) = IsPi target gap bytes
IsToken content (doctype_token bytes) = (d : Doctype) × IsDoctype d × (bytes ≡ doctype_text d)
IsToken content (open_token name) = is_xml_qname name ≡ true
IsToken content (close_token name last) = (is_xml_qname name ≡ true) × AreSpace last
IsToken a_tag (attr_token gap name before behind delim) = IsGap gap × (is_xml_qname name ≡ true) × AreSpace before × AreSpace behind × (is_quote delim ≡ true)
IsToken a_tag (go_token gap) = AreSpace gap
IsToken a_tag (shut_token gap) = AreSpace gap
IsToken (a_value delim) (part_token p) = IsValuePart delim p
IsToken (a_value delim) (quote_token d) = delim ≡ d
IsToken place t = ⊥

-- what follows a piece that has no end of its own
abbrev pub Stops : Where → Token → List ℕ → Type 0
Stops content (part_token (run bytes)) rest = first_is in_data rest ≡ false
Stops content (open_token name) rest = first_is is_name_byte rest ≡ false
Stops (a_value delim) (part_token (run bytes)) rest = first_is (in_value delim) rest ≡ false
Stops place t rest = ⊤

-- where the reader is behind a piece. Behind a quote it is in the tag again; a reference or a run leaves it where it is
abbrev pub next : Where → Token → Where
next place (part_token p) = place
next place (cdata_token bytes) = content
next place (comm_token bytes) = content
next place (pi_token target gap bytes) = content
next place (doctype_token bytes) = content
next place (open_token name) = a_tag
next place (attr_token gap name before behind delim) = a_value delim
next place (quote_token delim) = a_tag
next place (go_token gap) = content
next place (shut_token gap) = content
next place (close_token name last) = content

-- the bytes are these pieces
abbrev pub Lexes : Where → List Token → List ℕ → Type 0
Lexes place [] bytes = bytes ≡ []
Lexes place (t ∷ ts) bytes = (after : List ℕ) × (item place bytes ≡ Some (t, after)) × Lexes (next place t) ts after
