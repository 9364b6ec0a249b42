-- The characters of XML at the front of a text.
use Rattle.std.proofs.Common.{◌≡◌, ℕ, ◌+◌, ◌-◌, ◌≤◌, Bool, true, false, if◌then◌else◌, [], ◌∷◌, ◌++◌, length, drop, Option, Some, None, refl, ap, sym, ◌∙◌, subst, arith, length-append, zero-add}
use Rattle.std.specs.Str.{IsUtf8, chars}
use Rattle.std.specs.Char.{len_utf8}
use Rattle.std.proofs.lemmas.Bool.{and_parts}
use Rattle.std.proofs.lemmas.Str.{encodes-chars, scalars-chars, chars-encodes, drop_past_char, length-encode, len_utf8_bounds}
use lib.Utf8.{encode, encodes, scalar, scalars}
use Rattle.tree_model.specs.XmlChars.{is_xml_char}
use Rattle.query_terms.specs.Rule.{Text, first, first_before}
use Rattle.query_terms.specs.Parse.{front_len}
use Rattle.query_tokens.specs.Reads.{IsRestOf}
use Rattle.query_tokens.proofs.Tokens.{rest_of_rest}

pub front_end : (s : Text) → first s ≡ None → front_len (chars s) ≡ 0
unfolding first
front_end s e = by (chars s) e where
  by : (cs : Text) → first_before cs s ≡ None → front_len cs ≡ 0
  by [] e = refl
  by (c ∷ cs) e = absurd (cc)

-- what the first character takes, and what is left behind it
pub record Turn (s : Text) (c : ℕ) (next : Text) : Type 0 where
  pub rest : next ≡ drop (len_utf8 c) s
  pub size : length s ≡ len_utf8 c + length next
  pub some : 1 ≤ len_utf8 c
  pub counts : front_len (chars s) ≡ (if is_xml_char c then len_utf8 c + front_len (chars next) else 0)

code_in : Option (ℕ × Text) → ℕ
code_in None = 0
code_in (Some x) = x.0

rest_in : Option (ℕ × Text) → Text
rest_in None = []
rest_in (Some x) = x.1

pub front_turn : (s : Text) (c : ℕ) (next : Text) → IsUtf8 s → first s ≡ Some (c, next) → Turn s c next
unfolding first code_in rest_in
front_turn s c next utf8 e = by (chars s) refl e where
  by : (cs : Text) → chars s ≡ cs → first_before cs s ≡ Some (c, next) → Turn s c next
  by [] are e = absurd (cc)
  by (d ∷ cs) are e =
      let is : d ≡ c = ap code_in e in
      let goes : drop (len_utf8 d) s ≡ next = ap rest_in e in
      let scalar_parts = and_parts (scalar d) (scalars cs) (ap scalars (sym are) ∙ scalars-chars s utf8) in
      let begins : s ≡ encode d ++ encodes cs = sym (encodes-chars s utf8) ∙ ap encodes are in
      let behind : next ≡ encodes cs = sym goes ∙ sym (ap (λ (n : ℕ). drop n s) (zero-add (len_utf8 d))) ∙ drop_past_char s (encodes cs) 0 d begins in
      let left : chars next ≡ cs = ap chars behind ∙ chars-encodes cs scalar_parts.1 in
      record {
        rest = sym goes ∙ ap (λ (x : ℕ). drop (len_utf8 x) s) is;
        size = ap length begins ∙ length-append (encode d) (encodes cs) ∙ ap (λ (n : ℕ). n + length (encodes cs)) (length-encode d ∙ ap len_utf8 is) ∙ ap (λ (l : Text). len_utf8 c + length l) (sym behind);
        some = (len_utf8_bounds c).0;
        counts = ap front_len are ∙ ap (λ (x : ℕ). if is_xml_char x then len_utf8 x + front_len cs else 0) is ∙ ap (λ (l : Text). if is_xml_char c then len_utf8 c + front_len l else 0) (sym left);
      }

-- no more bytes than the text has
pub front_fits : (s : Text) → IsUtf8 s → front_len (chars s) ≤ length s
front_fits s utf8 = subst (λ (t : Text). front_len (chars s) ≤ length t) (encodes-chars s utf8) (by (chars s)) where
  by : (cs : Text) → front_len cs ≤ length (encodes cs)
  by [] = omega arith
  by (c ∷ cs) =
      let below = by cs in
      let size = length-append (encode c) (encodes cs) ∙ ap (λ (n : ℕ). n + length (encodes cs)) (length-encode c) in
      test (is_xml_char c) below size
    where
      test : (b : Bool) → front_len cs ≤ length (encodes cs) → length (encode c ++ encodes cs) ≡ len_utf8 c + length (encodes cs) → (if b then len_utf8 c + front_len cs else 0) ≤ length (encode c ++ encodes cs)
      test true below size = omega (arith, below, size)
      test false below size = omega arith

pub stopped : (text rest : Text) → length text - length rest + front_len (chars rest) ≡ front_len (chars text) → front_len (chars rest) ≡ 0 → length text - length rest ≡ front_len (chars text)
stopped text rest e none = omega (arith, e, none)

pub bad_front : (s : Text) (c : ℕ) (next : Text) → Turn s c next → is_xml_char c ≡ false → front_len (chars s) ≡ 0
bad_front s c next turn bad = turn.counts ∙ ap (λ (b : Bool). if b then len_utf8 c + front_len (chars next) else 0) bad

pub went_on : (text s : Text) (c : ℕ) (next : Text) → Turn s c next → is_xml_char c ≡ true → IsRestOf text s → length s ≤ length text
    → length text - length s + front_len (chars s) ≡ front_len (chars text)
    → IsRestOf text next × (length next ≤ length text) × (length text - length next + front_len (chars next) ≡ front_len (chars text))
went_on text s c next turn good rest fits counts =
    let one : front_len (chars s) ≡ len_utf8 c + front_len (chars next) = turn.counts ∙ ap (λ (b : Bool). if b then len_utf8 c + front_len (chars next) else 0) good in
    (rest_of_rest text s next rest (len_utf8 c, turn.rest), omega (arith, turn.size, fits), omega (arith, turn.size, fits, counts, one))
