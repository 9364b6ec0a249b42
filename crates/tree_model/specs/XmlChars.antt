-- Classes of characters, and names as they are written (XML 1.0, sections 2.2 and 2.3; Namespaces in XML 1.0, section 4). Texts are bytes
-- in UTF-8.
use Rattle.std.specs.Prelude.{ℕ, Bool, true, false, not, ◌&&◌, ◌||◌, ◌==◌, nat_le, List, [], ◌∷◌, ◌++◌, take, drop, if◌then◌else◌}
use Rattle.std.specs.List.{list_all, list_any, prefix_len}
use Rattle.std.specs.Str.{chars, is_utf8}
use Rattle.std.specs.Char.{is_ascii_alphabetic, is_ascii_digit}

abbrev pub is_between : ℕ → ℕ → ℕ → Bool
is_between low high c = nat_le low c && nat_le c high

-- white space
abbrev pub is_space : ℕ → Bool
is_space c = c == 32 || c == 9 || c == 10 || c == 13

-- Char
abbrev pub is_xml_char : ℕ → Bool
is_xml_char c = c == 9 || c == 10 || c == 13 || is_between 32 0xD7FF c || is_between 0xE000 0xFFFD c || is_between 0x1_0000 0x10_FFFF c

-- NameStartChar and NameChar, without the colon
unfoldable pub is_name_start_char : ℕ → Bool
is_name_start_char c =
    is_ascii_alphabetic c || c == 95 || is_between 0xC0 0xD6 c || is_between 0xD8 0xF6 c || is_between 0xF8 0x2FF c || is_between 0x370 0x37D c || is_between 0x37F 0x1FFF c
    || is_between 0x200C 0x200D c || is_between 0x2070 0x218F c || is_between 0x2C00 0x2FEF c || is_between 0x3001 0xD7FF c || is_between 0xF900 0xFDCF c || is_between 0xFDF0 0xFFFD c
    || is_between 0x1_0000 0xE_FFFF c

unfoldable pub is_inner_name_char : ℕ → Bool
is_inner_name_char c = is_name_start_char c || is_ascii_digit c || c == 45 || c == 46 || c == 0xB7 || is_between 0x300 0x36F c || is_between 0x203F 0x2040 c

-- a byte of a name, colon included: the ASCII ones, and each byte of a longer character
abbrev pub is_name_byte : ℕ → Bool
is_name_byte c = is_ascii_alphabetic c || is_ascii_digit c || c == 95 || c == 45 || c == 46 || c == 58 || nat_le 128 c

-- the first byte passes
abbrev pub first_is : (ℕ → Bool) → List ℕ → Bool
first_is p [] = false
first_is p (c ∷ bytes) = p c

-- some bytes of names, in UTF-8
abbrev pub is_name_run : List ℕ → Bool
is_name_run bytes = first_is is_name_byte bytes && list_all is_name_byte bytes && is_utf8 bytes

-- NCName, by its characters
abbrev pub is_ncname_text : List ℕ → Bool
is_ncname_text cs = first_is is_name_start_char cs && list_all is_inner_name_char cs

unfoldable pub is_xml_ncname : List ℕ → Bool
is_xml_ncname name = is_name_run name && is_ncname_text (chars name)

abbrev pub is_no_colon : ℕ → Bool
is_no_colon c = not (c == 58)

abbrev pub has_colon : List ℕ → Bool
has_colon name = list_any (λ c. c == 58) name

abbrev pub before_colon : List ℕ → List ℕ
before_colon name = take (prefix_len is_no_colon name) name

abbrev pub behind_colon : List ℕ → List ℕ
behind_colon name = drop 1 (drop (prefix_len is_no_colon name) name)

-- the parts of a name: before its colon, if it has one, and behind it
abbrev pub prefix_of : List ℕ → List ℕ
prefix_of name = if has_colon name then before_colon name else []

abbrev pub local_of : List ℕ → List ℕ
local_of name = if has_colon name then behind_colon name else name

-- QName: an NCName, or two with a colon between
unfoldable pub is_xml_qname : List ℕ → Bool
is_xml_qname name = is_name_run name && is_xml_ncname (local_of name) && (not (has_colon name) || is_xml_ncname (before_colon name))

-- the word begins the bytes
abbrev pub begins_with : List ℕ → List ℕ → Bool
begins_with [] bytes = true
begins_with (c ∷ word) [] = false
begins_with (c ∷ word) (b ∷ bytes) = b == c && begins_with word bytes

-- it occurs in them
abbrev pub has_word : List ℕ → List ℕ → Bool
has_word word [] = begins_with word []
has_word word (b ∷ bytes) = begins_with word (b ∷ bytes) || has_word word bytes

-- it begins nowhere in the bytes, also not together with the word itself behind them
abbrev pub is_free : List ℕ → List ℕ → Bool
is_free word [] = true
is_free word (c ∷ bytes) = not (begins_with word (c ∷ (bytes ++ word))) && is_free word bytes
