-- Texts in UTF-8 that are joined and cut, and what stands for them: line ends, white space in values, and references.
use Rattle.std.proofs.Common.{◌≡◌, inl, inr, ℕ, suc, ◌+◌, ◌<◌, ◌≤◌, Bool, true, false, cond, ◌&&◌, ◌||◌, ◌==◌, nat_le, List, [], ◌∷◌, ◌++◌, length, get_or, map, Some, None, refl, sym, ap, ap₂, ◌∙◌, subst, arith, append_assoc, append-nil, length-append, take_at, drop_at}
use Rattle.std.specs.Prelude.{codes}
use Rattle.std.specs.List.{list_all}
use Rattle.std.specs.Option.{option_map_or}
use Rattle.std.specs.Str.{IsUtf8, is_utf8, bytes_eq, chars, all_scalars, encode_utf8_all}
use Rattle.std.specs.Char.{IsScalar, encode_utf8, is_ascii}
use Rattle.std.proofs.lemmas.Bool.{and_parts, and_from, and_right, cond-false, cases_lt, ltb-true, leb-true, le-leb}
use Rattle.std.proofs.lemmas.Bool.Decides.{nat_tests}
use Rattle.std.proofs.lemmas.List.{get_or_at, map-append}
use Rattle.std.proofs.lemmas.List.Folds.{list_all-append}
use Rattle.std.proofs.lemmas.Str.{IsUtf8-nil, IsUtf8-append, IsUtf8-encode, IsUtf8-take, IsUtf8-drop, IsUtf8-from_is_utf8, is_utf8-from_IsUtf8, IsCharBoundary-before_ascii, IsCharBoundary-from_take, IsCharBoundary-after_ascii, chars-append, chars-encodes, chars-nil, chars_from_encodes, encode_ascii, length-encode, len_utf8_bounds, encodes-chars, scalars-chars, inside_one}
use lib.Utf8.{scalar, low_scalar}
use Rattle.tree_model.specs.XmlChars.{is_xml_char, is_name_start_char, is_inner_name_char, is_name_run, is_ncname_text, is_xml_ncname}
use Rattle.tree_model.specs.Sound.{are_chars}
use Rattle.tree_model.specs.XmlSource.{entity, part_text}
use Rattle.tree_model.specs.XmlGood.{AreChars, number_from, is_decimal, is_hexadecimal}
use Rattle.tree_model.specs.XmlMeaning.{line_ends_from, line_ends, value_byte, spaced, entity_char, entity_value, char_value}

-- ---- joined and cut

pub utf8_append : (a b : List ℕ) → IsUtf8 a → IsUtf8 b → IsUtf8 (a ++ b)
utf8_append a b u v = IsUtf8-append a b u v

pub utf8_append_chars : (a b : List ℕ) → IsUtf8 a → chars (a ++ b) ≡ chars a ++ chars b
utf8_append_chars a b u = chars-append a b u

-- both parts are texts, and their characters are those of the whole
pub record IsCut (a b : List ℕ) : Type 0 where
  pub first : IsUtf8 a
  pub second : IsUtf8 b
  pub characters : chars (a ++ b) ≡ chars a ++ chars b

cut_from : (a b : List ℕ) → IsUtf8 a → IsUtf8 b → IsCut a b
cut_from a b u v = record { first = u; second = v; characters = chars-append a b u }

-- empty, or the first byte is ASCII
abbrev pub begins_ascii : List ℕ → Bool
begins_ascii [] = true
begins_ascii (c ∷ bytes) = is_ascii c

-- a text may be cut before an ASCII byte
pub utf8_cut : (a b : List ℕ) → begins_ascii b ≡ true → IsUtf8 (a ++ b) → IsCut a b
utf8_cut a [] h u = cut_from a [] (subst IsUtf8 (append-nil a) u) IsUtf8-nil
utf8_cut a (c ∷ b) h u =
    let low : c < 128 = ltb-true c 128 h in
    let here : get_or (a ++ c ∷ b) (length a) 0 ≡ c = get_or_at a c b 0 (length a) refl in
    let boundary = IsCharBoundary-before_ascii (a ++ c ∷ b) (length a) (omega (arith, length-append a (c ∷ b))) (omega (arith, here)) in
    cut_from a (c ∷ b)
    (subst IsUtf8 (take_at a (c ∷ b) (length a) refl) (IsUtf8-take (a ++ c ∷ b) (length a) u boundary))
    (subst IsUtf8 (drop_at a (c ∷ b) (length a) refl) (IsUtf8-drop (a ++ c ∷ b) (length a) u boundary))

-- and behind one
pub utf8_cut_behind : (a : List ℕ) (c : ℕ) (b : List ℕ) → c < 128 → IsUtf8 ((a ++ c ∷ []) ++ b) → IsCut (a ++ c ∷ []) b
utf8_cut_behind a c b low u =
    let whole : List ℕ = (a ++ c ∷ []) ++ b in
    let size : length (a ++ c ∷ []) ≡ length a + 1 = omega (arith, length-append a (c ∷ [])) in
    let here : get_or whole (length a) 0 ≡ c = rw append_assoc (get_or_at a c b 0 (length a) refl) in
    let boundary = IsCharBoundary-after_ascii whole (length a) u (omega (arith, length-append (a ++ c ∷ []) b)) (omega (arith, here)) in
    cut_from (a ++ c ∷ []) b
    (subst IsUtf8 (take_at (a ++ c ∷ []) b (length a + 1) size) (IsUtf8-take whole (length a + 1) u boundary))
    (subst IsUtf8 (drop_at (a ++ c ∷ []) b (length a + 1) size) (IsUtf8-drop whole (length a + 1) u boundary))

-- what stands behind the first byte of a text, where that is ASCII
pub utf8_behind_first : (c : ℕ) (b : List ℕ) → c < 128 → IsUtf8 (c ∷ b) → IsCut (c ∷ []) b
utf8_behind_first c b low u = utf8_cut_behind [] c b low u

-- and behind a text
pub utf8_behind : (a b : List ℕ) → IsUtf8 a → IsUtf8 (a ++ b) → IsCut a b
utf8_behind a b u w =
    let within : length a ≤ length (a ++ b) = omega (arith, length-append a b) in
    let boundary = IsCharBoundary-from_take (a ++ b) (length a) w within (subst IsUtf8 (sym (take_at a b (length a) refl)) u) in
    cut_from a b u (subst IsUtf8 (drop_at a b (length a) refl) (IsUtf8-drop (a ++ b) (length a) w boundary))

-- ---- ASCII

pub ascii_byte : (c : ℕ) → c < 128 → IsUtf8 (c ∷ [])
ascii_byte c low = subst IsUtf8 (encode_ascii c low) (IsUtf8-encode c (low_scalar c (omega arith)))

pub utf8_ascii : (bytes : List ℕ) → list_all is_ascii bytes ≡ true → IsUtf8 bytes
utf8_ascii [] h = IsUtf8-nil
utf8_ascii (c ∷ bytes) h =
    let p = and_parts (is_ascii c) (list_all is_ascii bytes) h in
    IsUtf8-append (c ∷ []) bytes (ascii_byte c (ltb-true c 128 p.0)) (utf8_ascii bytes p.1)

chars_of_one : (c : ℕ) → c < 128 → chars (c ∷ []) ≡ c ∷ []
chars_of_one c low = ap chars (sym (ap (λ (bytes : List ℕ). bytes ++ []) (encode_ascii c low))) ∙ chars-encodes (c ∷ []) (and_from _ _ (low_scalar c (omega arith)) refl)

pub chars_ascii : (bytes : List ℕ) → list_all is_ascii bytes ≡ true → chars bytes ≡ bytes
chars_ascii [] h = chars-nil
chars_ascii (c ∷ bytes) h =
    let p = and_parts (is_ascii c) (list_all is_ascii bytes) h in
    let low : c < 128 = ltb-true c 128 p.0 in
    chars-append (c ∷ []) bytes (ascii_byte c low) ∙ ap₂ (λ (x y : List ℕ). x ++ y) (chars_of_one c low) (chars_ascii bytes p.1)

-- ---- texts whose characters are all Chars

pub record IsTextOfChars (bytes : List ℕ) : Type 0 where
  pub utf8 : IsUtf8 bytes
  pub chars : AreChars bytes

pub text_nil : IsTextOfChars []
text_nil = record { utf8 = IsUtf8-nil; chars = subst (λ (cs : List ℕ). list_all is_xml_char cs ≡ true) (sym chars-nil) refl }

pub text_append : (a b : List ℕ) → IsTextOfChars a → IsTextOfChars b → IsTextOfChars (a ++ b)
text_append a b t s = record {
  utf8 = IsUtf8-append a b t.utf8 s.utf8;
  chars = rw (chars-append a b t.utf8, list_all-append is_xml_char (chars a) (chars b)) (and_from _ _ t.chars s.chars);
}

pub are_chars_from : (bytes : List ℕ) → IsTextOfChars bytes → are_chars bytes ≡ true
are_chars_from bytes t = and_from _ _ (is_utf8-from_IsUtf8 bytes t.utf8) t.chars

pub record AreTexts (a b : List ℕ) : Type 0 where
  pub first : IsTextOfChars a
  pub second : IsTextOfChars b

texts_from : (a b : List ℕ) → IsCut a b → AreChars (a ++ b) → AreTexts a b
texts_from a b cut h =
    let both : (list_all is_xml_char (chars a) && list_all is_xml_char (chars b)) ≡ true = sym (list_all-append is_xml_char (chars a) (chars b)) ∙ ap (list_all is_xml_char) (sym cut.characters) ∙ h in
    let p = and_parts _ _ both in
    record { first = record { utf8 = cut.first; chars = p.0 }; second = record { utf8 = cut.second; chars = p.1 } }

pub text_cut : (a b : List ℕ) → begins_ascii b ≡ true → IsTextOfChars (a ++ b) → AreTexts a b
text_cut a b h t = texts_from a b (utf8_cut a b h t.utf8) t.chars

pub text_cut_behind : (a : List ℕ) (c : ℕ) (b : List ℕ) → c < 128 → IsTextOfChars ((a ++ c ∷ []) ++ b) → AreTexts (a ++ c ∷ []) b
text_cut_behind a c b low t = texts_from (a ++ c ∷ []) b (utf8_cut_behind a c b low t.utf8) t.chars

pub text_behind : (a b : List ℕ) → IsUtf8 a → IsTextOfChars (a ++ b) → IsTextOfChars b
text_behind a b u t = (texts_from a b (utf8_behind a b u t.utf8) t.chars).second

pub text_behind_first : (c : ℕ) (b : List ℕ) → c < 128 → IsTextOfChars (c ∷ b) → IsTextOfChars b
text_behind_first c b low t = (text_cut_behind [] c b low t).second

-- ---- line ends and white space in values

-- each character of a longer encoding is written in bytes beyond ASCII
abbrev is_high : ℕ → Bool
is_high c = nat_le 128 c

are_high : (bytes : List ℕ) → ((k : ℕ) → k < length bytes → 128 ≤ get_or bytes k 0) → list_all is_high bytes ≡ true
are_high [] h = refl
are_high (c ∷ bytes) h = and_from _ _ (le-leb 128 c (h 0 (omega arith))) (are_high bytes (λ k below. h (suc k) (omega arith)))

high_bytes : (c : ℕ) → 128 ≤ c → list_all is_high (encode_utf8 c) ≡ true
high_bytes c high = are_high (encode_utf8 c) (λ k below. elim (cases_lt (get_or (encode_utf8 c) k 0) 128) [
  | inl low ↦ absurd (omega (arith, inside_one c [] (encode_utf8 c) k (sym (append-nil _)) below low))
  | inr h ↦ h
])

some_bytes : (c : ℕ) → 0 < length (encode_utf8 c)
some_bytes c = omega (arith, length-encode c, (len_utf8_bounds c).0)

-- a byte that is no line end stays
line_byte : (was : Bool) (c : ℕ) (bytes : List ℕ) → 128 ≤ c → line_ends_from was (c ∷ bytes) ≡ c ∷ line_ends_from false bytes
line_byte was c bytes high =
    let no_cr : (c == 13) ≡ false = grind (arith, nat_tests) in
    let no_lf : (c == 10) ≡ false = grind (arith, nat_tests) in
    cond-false _ _ _ no_cr ∙ cond-false _ _ _ (and_right was _ no_lf)

line_high : (bytes rest : List ℕ) → list_all is_high bytes ≡ true → line_ends_from false (bytes ++ rest) ≡ bytes ++ line_ends_from false rest
line_high [] rest h = refl
line_high (c ∷ bytes) rest h =
    let p = and_parts (is_high c) (list_all is_high bytes) h in
    line_byte false c (bytes ++ rest) (leb-true 128 c p.0) ∙ ap (λ l. c ∷ l) (line_high bytes rest p.1)

line_first_high : (was : Bool) (bytes rest : List ℕ) → 0 < length bytes → list_all is_high bytes ≡ true → line_ends_from was (bytes ++ rest) ≡ bytes ++ line_ends_from false rest
line_first_high was [] rest some h = absurd (omega arith)
line_first_high was (c ∷ bytes) rest some h =
    let p = and_parts (is_high c) (list_all is_high bytes) h in
    line_byte was c (bytes ++ rest) (leb-true 128 c p.0) ∙ ap (λ l. c ∷ l) (line_high bytes rest p.1)

encode_newline : (cs : List ℕ) → encode_utf8_all (10 ∷ cs) ≡ 10 ∷ encode_utf8_all cs
encode_newline cs = ap (λ (bytes : List ℕ). bytes ++ encode_utf8_all cs) (encode_ascii 10 (omega arith))

-- the line ends of a text are those of its characters
encodes_line_ends : (was : Bool) (cs : List ℕ) → encode_utf8_all (line_ends_from was cs) ≡ line_ends_from was (encode_utf8_all cs)
encodes_line_ends was [] = refl
encodes_line_ends was (c ∷ cs) = elim (cases_lt c 128) [
  | inl low ↦ low_case low (encodes_line_ends true cs) (encodes_line_ends false cs)
  | inr high ↦
      ap encode_utf8_all (line_byte was c cs high)
      ∙ ap (λ l. encode_utf8 c ++ l) (encodes_line_ends false cs)
      ∙ sym (line_first_high was (encode_utf8 c) (encode_utf8_all cs) (some_bytes c) (high_bytes c high))
]
  where
    by : (b d : Bool) → encode_utf8 c ≡ c ∷ [] → encode_utf8_all (line_ends_from true cs) ≡ line_ends_from true (encode_utf8_all cs) → encode_utf8_all (line_ends_from false cs) ≡ line_ends_from false (encode_utf8_all cs) → encode_utf8_all (cond b (10 ∷ line_ends_from true cs) (cond d (line_ends_from false cs) (c ∷ line_ends_from false cs)))
        ≡ cond b (10 ∷ line_ends_from true (encode_utf8_all cs)) (cond d (line_ends_from false (encode_utf8_all cs)) (c ∷ line_ends_from false (encode_utf8_all cs)))
    by true d one a b = encode_newline _ ∙ ap (λ l. 10 ∷ l) a
    by false true one a b = b
    by false false one a b = ap₂ (λ (x y : List ℕ). x ++ y) one b

    low_case : c < 128 → encode_utf8_all (line_ends_from true cs) ≡ line_ends_from true (encode_utf8_all cs) → encode_utf8_all (line_ends_from false cs) ≡ line_ends_from false (encode_utf8_all cs) → encode_utf8_all (line_ends_from was (c ∷ cs)) ≡ line_ends_from was (encode_utf8_all (c ∷ cs))
    low_case low a b =
        by (c == 13) (was && c == 10) (encode_ascii c low) a b ∙ sym (ap (λ (bytes : List ℕ). line_ends_from was (bytes ++ encode_utf8_all cs)) (encode_ascii c low))

-- what holds of each character and of LF holds of each behind the change of line ends
all_line_ends : (test : ℕ → Bool) → test 10 ≡ true → (was : Bool) (cs : List ℕ) → list_all test cs ≡ true → list_all test (line_ends_from was cs) ≡ true
all_line_ends test lf was [] h = refl
all_line_ends test lf was (c ∷ cs) h =
    let p = and_parts (test c) (list_all test cs) h in
    by (c == 13) (was && c == 10) p.0 (all_line_ends test lf true cs p.1) (all_line_ends test lf false cs p.1)
  where
    by : (b d : Bool) → test c ≡ true → list_all test (line_ends_from true cs) ≡ true → list_all test (line_ends_from false cs) ≡ true → list_all test (cond b (10 ∷ line_ends_from true cs) (cond d (line_ends_from false cs) (c ∷ line_ends_from false cs))) ≡ true
    by true d ok a b = and_from _ _ lf a
    by false true ok a b = b
    by false false ok a b = and_from _ _ ok b

value_low : (c : ℕ) → c < 128 → value_byte c < 128
value_low c low = grind (arith, nat_tests)

value_high : (c : ℕ) → 128 ≤ c → value_byte c ≡ c
value_high c high = grind (arith, nat_tests)

map_high : (bytes : List ℕ) → list_all is_high bytes ≡ true → map value_byte bytes ≡ bytes
map_high [] h = refl
map_high (c ∷ bytes) h =
    let p = and_parts (is_high c) (list_all is_high bytes) h in
    ap₂ (λ (x : ℕ) (l : List ℕ). x ∷ l) (value_high c (leb-true 128 c p.0)) (map_high bytes p.1)

encodes_value_byte : (c : ℕ) → encode_utf8 (value_byte c) ≡ map value_byte (encode_utf8 c)
encodes_value_byte c = elim (cases_lt c 128) [
  | inl low ↦ encode_ascii (value_byte c) (value_low c low) ∙ sym (ap (map value_byte) (encode_ascii c low))
  | inr high ↦ ap encode_utf8 (value_high c high) ∙ sym (map_high (encode_utf8 c) (high_bytes c high))
]

encodes_spaced : (cs : List ℕ) → encode_utf8_all (map value_byte cs) ≡ map value_byte (encode_utf8_all cs)
encodes_spaced [] = refl
encodes_spaced (c ∷ cs) =
    ap₂ (λ (x y : List ℕ). x ++ y) (encodes_value_byte c) (encodes_spaced cs) ∙ sym (map-append value_byte (encode_utf8 c) (encode_utf8_all cs))

all_spaced : (test : ℕ → Bool) → test 32 ≡ true → (cs : List ℕ) → list_all test cs ≡ true → list_all test (map value_byte cs) ≡ true
all_spaced test space [] h = refl
all_spaced test space (c ∷ cs) h =
    let p = and_parts (test c) (list_all test cs) h in
    and_from _ _ (by (c == 9 || c == 10) p.0) (all_spaced test space cs p.1)
  where
    by : (b : Bool) → test c ≡ true → test (cond b 32 c) ≡ true
    by true ok = space
    by false ok = ok

scalars_all : (cs : List ℕ) → all_scalars cs ≡ list_all scalar cs
scalars_all [] = refl
scalars_all (c ∷ cs) = ap (λ b. scalar c && b) (scalars_all cs)

-- the bytes of characters that are scalar values
from_chars : (bytes cs : List ℕ) → list_all scalar cs ≡ true → encode_utf8_all cs ≡ bytes → IsUtf8 bytes
from_chars bytes cs ok is = (cs, (scalars_all cs ∙ ok, is))

to_chars : (bytes : List ℕ) → IsUtf8 bytes → list_all scalar (chars bytes) ≡ true
to_chars bytes u = sym (scalars_all (chars bytes)) ∙ scalars-chars bytes u

lines_spelled : (v : List ℕ) → IsUtf8 v → encode_utf8_all (line_ends_from false (chars v)) ≡ line_ends v
unfolding line_ends
lines_spelled v u = encodes_line_ends false (chars v) ∙ ap (line_ends_from false) (encodes-chars v u)

pub utf8_line_ends : (v : List ℕ) → IsUtf8 v → IsUtf8 (line_ends v)
utf8_line_ends v u = from_chars (line_ends v) (line_ends_from false (chars v)) (all_line_ends scalar refl false (chars v) (to_chars v u)) (lines_spelled v u)

pub chars_line_ends : (v : List ℕ) → IsUtf8 v → chars (line_ends v) ≡ line_ends (chars v)
unfolding line_ends
chars_line_ends v u = sym (chars_from_encodes (line_ends_from false (chars v)) (line_ends v) (utf8_line_ends v u) (lines_spelled v u))

pub text_line_ends : (v : List ℕ) → IsTextOfChars v → IsTextOfChars (line_ends v)
unfolding line_ends
text_line_ends v t = record { utf8 = utf8_line_ends v t.utf8; chars = ap (list_all is_xml_char) (chars_line_ends v t.utf8) ∙ all_line_ends is_xml_char refl false (chars v) t.chars }

spaced_spelled : (v : List ℕ) → IsUtf8 v → encode_utf8_all (map value_byte (chars (line_ends v))) ≡ spaced v
unfolding spaced
spaced_spelled v u = encodes_spaced (chars (line_ends v)) ∙ ap (map value_byte) (encodes-chars (line_ends v) (utf8_line_ends v u))

pub utf8_spaced : (v : List ℕ) → IsUtf8 v → IsUtf8 (spaced v)
utf8_spaced v u = from_chars (spaced v) (map value_byte (chars (line_ends v))) (all_spaced scalar refl (chars (line_ends v)) (to_chars (line_ends v) (utf8_line_ends v u))) (spaced_spelled v u)

pub chars_spaced : (v : List ℕ) → IsUtf8 v → chars (spaced v) ≡ spaced (chars v)
unfolding spaced
chars_spaced v u =
    sym (chars_from_encodes (map value_byte (chars (line_ends v))) (spaced v) (utf8_spaced v u) (spaced_spelled v u)) ∙ ap (map value_byte) (chars_line_ends v u)

pub text_spaced : (v : List ℕ) → IsTextOfChars v → IsTextOfChars (spaced v)
text_spaced v t =
    let lines : IsTextOfChars (line_ends v) = text_line_ends v t in
    record { utf8 = utf8_spaced v t.utf8; chars = ap (list_all is_xml_char) (chars_are v t.utf8) ∙ all_spaced is_xml_char refl (chars (line_ends v)) lines.chars }
  where
    chars_are : (v : List ℕ) → IsUtf8 v → chars (spaced v) ≡ map value_byte (chars (line_ends v))
    chars_are v u = sym (chars_from_encodes (map value_byte (chars (line_ends v))) (spaced v) (utf8_spaced v u) (spaced_spelled v u))

-- ---- references

pub xml_char_is_scalar : (c : ℕ) → is_xml_char c ≡ true → IsScalar c
xml_char_is_scalar c h = grind (arith, nat_tests)

pub text_of_char : (c : ℕ) → is_xml_char c ≡ true → IsTextOfChars (encode_utf8 c)
text_of_char c h =
    let scalar_c = xml_char_is_scalar c h in
    let one : chars (encode_utf8 c) ≡ c ∷ [] = ap chars (sym (append-nil (encode_utf8 c))) ∙ chars-encodes (c ∷ []) (and_from _ _ scalar_c refl) in
    record { utf8 = IsUtf8-encode c scalar_c; chars = ap (list_all is_xml_char) one ∙ and_from _ _ h refl }

-- an ASCII Char
pub text_of_byte : (c : ℕ) → c < 128 → is_xml_char c ≡ true → IsTextOfChars (c ∷ [])
text_of_byte c low h = subst IsTextOfChars (encode_ascii c low) (text_of_char c h)

pub text_ascii : (bytes : List ℕ) → list_all is_ascii bytes ≡ true → list_all is_xml_char bytes ≡ true → IsTextOfChars bytes
text_ascii bytes h k = record { utf8 = utf8_ascii bytes h; chars = ap (list_all is_xml_char) (chars_ascii bytes h) ∙ k }

pub text_decimal : (digits : List ℕ) → is_decimal digits ≡ true → IsTextOfChars (char_value 10 digits)
unfolding is_decimal char_value
text_decimal digits h = text_of_char (number_from 10 0 digits) (and_parts _ _ h).1

pub text_hexadecimal : (digits : List ℕ) → is_hexadecimal digits ≡ true → IsTextOfChars (char_value 16 digits)
unfolding is_hexadecimal char_value
text_hexadecimal digits h = text_of_char (number_from 16 0 digits) (and_parts _ _ h).1

name_char_is_char : (c : ℕ) → is_inner_name_char c ≡ true → is_xml_char c ≡ true
unfolding is_inner_name_char is_name_start_char
name_char_is_char c h = grind (arith, nat_tests)

pub all_weaker : (p q : ℕ → Bool) → ((c : ℕ) → p c ≡ true → q c ≡ true) → (cs : List ℕ) → list_all p cs ≡ true → list_all q cs ≡ true
all_weaker p q f [] h = refl
all_weaker p q f (c ∷ cs) h =
    let both = and_parts (p c) (list_all p cs) h in
    and_from _ _ (f c both.0) (all_weaker p q f cs both.1)

pub text_ncname : (name : List ℕ) → is_xml_ncname name ≡ true → IsTextOfChars name
unfolding is_xml_ncname
text_ncname name h =
    let both = and_parts (is_name_run name) (is_ncname_text (chars name)) h in
    let spelled = and_parts _ (is_utf8 name) both.0 in
    let named = and_parts _ (list_all is_inner_name_char (chars name)) both.1 in
    record { utf8 = IsUtf8-from_is_utf8 name spelled.1; chars = all_weaker is_inner_name_char is_xml_char name_char_is_char (chars name) named.1 }

pub text_entity : (name : List ℕ) → is_xml_ncname name ≡ true → IsTextOfChars (entity_value name)
unfolding entity_value entity_char
text_entity name h =
    by (bytes_eq name (codes "lt")) (bytes_eq name (codes "gt")) (bytes_eq name (codes "amp")) (bytes_eq name (codes "quot")) (bytes_eq name (codes "apos"))
    (text_append (38 ∷ []) (name ++ 59 ∷ []) (text_of_byte 38 (omega arith) refl) (text_append name (59 ∷ []) (text_ncname name h) (text_of_byte 59 (omega arith) refl)))
  where
    by : (lt gt amp quot apos : Bool) → IsTextOfChars (part_text (entity name)) → IsTextOfChars (option_map_or (λ c. c ∷ []) (cond lt (Some 60) (cond gt (Some 62) (cond amp (Some 38) (cond quot (Some 34) (cond apos (Some 39) None))))) (part_text (entity name)))
    by true gt amp quot apos other = text_of_byte 60 (omega arith) refl
    by false true amp quot apos other = text_of_byte 62 (omega arith) refl
    by false false true quot apos other = text_of_byte 38 (omega arith) refl
    by false false false true apos other = text_of_byte 34 (omega arith) refl
    by false false false false true other = text_of_byte 39 (omega arith) refl
    by false false false false false other = other
