-- Classes of bytes, and the bytes of names and digits.
use Rattle.std.proofs.Common.{◌≡◌, ℕ, Bool, true, false, not, ◌&&◌, ◌||◌, eqb, List, [], ◌∷◌, ◌++◌, map, refl, sym, ap, ◌∙◌, subst}
use Rattle.std.specs.Prelude.{codes}
use Rattle.std.specs.List.{list_all}
use Rattle.std.specs.Str.{is_utf8, chars, bytes_eq}
use Rattle.std.specs.Char.{is_ascii_digit, is_ascii_hexdigit, to_ascii_lowercase}
use Rattle.std.proofs.lemmas.Bool.{false≢true, eqb-true}
use Rattle.tree_model.specs.XmlChars.{is_space, is_xml_char, is_name_byte, is_name_run, is_ncname_text, is_xml_ncname, is_xml_qname, local_of, has_colon, before_colon, first_is}
use Rattle.tree_model.specs.XmlGood.{AreSpace, is_quote, number_from, is_decimal, is_hexadecimal, is_pi_target}
use Rattle.xml_pieces.proofs.Spans.{both_true}

-- ---- classes of bytes

-- no byte is white space and part of a name
pub space_no_name : (c : ℕ) → is_space c ≡ true → is_name_byte c ≡ false
space_no_name c is = by (eqb c 32) (eqb c 9) (eqb c 10) (eqb c 13) refl refl refl refl is
  where
    by : (a b d f : Bool) → eqb c 32 ≡ a → eqb c 9 ≡ b → eqb c 10 ≡ d → eqb c 13 ≡ f → (a || b || d || f) ≡ true → is_name_byte c ≡ false
    by true b d f e1 e2 e3 e4 h = ap is_name_byte (eqb-true c 32 e1)
    by false true d f e1 e2 e3 e4 h = ap is_name_byte (eqb-true c 9 e2)
    by false false true f e1 e2 e3 e4 h = ap is_name_byte (eqb-true c 10 e3)
    by false false false true e1 e2 e3 e4 h = ap is_name_byte (eqb-true c 13 e4)
    by false false false false e1 e2 e3 e4 h = absurd (false≢true h)

-- a quote is one of two bytes
pub quote_cases : (d : ℕ) → is_quote d ≡ true → (P : ℕ → Type 0) → P 34 → P 39 → P d
quote_cases d is P double single = by (eqb d 34) refl (eqb d 39) refl is
  where
    by : (a : Bool) → eqb d 34 ≡ a → (b : Bool) → eqb d 39 ≡ b → (a || b) ≡ true → P d
    by true e b g h = subst P (sym (eqb-true d 34 e)) double
    by false e true g h = subst P (sym (eqb-true d 39 g)) single
    by false e false g h = absurd (false≢true h)

pub quote_no_space : (d : ℕ) → is_quote d ≡ true → is_space d ≡ false
quote_no_space d is = quote_cases d is (λ c. is_space c ≡ false) refl refl

-- a byte that passes isn't one that fails
pub apart : (p : ℕ → Bool) (c d : ℕ) → p c ≡ true → p d ≡ false → eqb c d ≡ false
apart p c d is misses = by (eqb c d) refl
  where
    by : (b : Bool) → eqb c d ≡ b → b ≡ false
    by true e = absurd (false≢true (sym misses ∙ sym (ap p (eqb-true c d e)) ∙ is))
    by false e = refl

pub not_true : (b : Bool) → (b ≡ true → ⊥) → b ≡ false
not_true true misses = absurd (misses refl)
not_true false misses = refl

-- white space before something else
pub space_before : (p : ℕ → Bool) → ((c : ℕ) → is_space c ≡ true → p c ≡ false) → (space rest : List ℕ) → AreSpace space → first_is p rest ≡ false → first_is p (space ++ rest) ≡ false
space_before p misses [] rest are stop = stop
space_before p misses (c ∷ space) rest are stop = misses c (both_true (is_space c) _ are).0

pub name_no_space : (v rest : List ℕ) → first_is is_name_byte v ≡ true → first_is is_space (v ++ rest) ≡ false
name_no_space [] rest is = absurd (false≢true is)
name_no_space (c ∷ v) rest is = not_true (is_space c) (λ e. false≢true (sym (space_no_name c e) ∙ is))

-- ---- names and digits

run_bytes : (v : List ℕ) → is_name_run v ≡ true → (first_is is_name_byte v ≡ true) × (list_all is_name_byte v ≡ true)
run_bytes v is = both_true (first_is is_name_byte v) (list_all is_name_byte v) (both_true (first_is is_name_byte v && list_all is_name_byte v) (is_utf8 v) is).0

pub ncname_bytes : (v : List ℕ) → is_xml_ncname v ≡ true → (first_is is_name_byte v ≡ true) × (list_all is_name_byte v ≡ true)
unfolding is_xml_ncname
ncname_bytes v is = run_bytes v (both_true (is_name_run v) (is_ncname_text (chars v)) is).0

pub qname_bytes : (v : List ℕ) → is_xml_qname v ≡ true → (first_is is_name_byte v ≡ true) × (list_all is_name_byte v ≡ true)
unfolding is_xml_qname
qname_bytes v is = run_bytes v (both_true (is_name_run v) (is_xml_ncname (local_of v)) (both_true (is_name_run v && is_xml_ncname (local_of v)) (not (has_colon v) || is_xml_ncname (before_colon v)) is).0).0

pub target_bytes : (v : List ℕ) → is_pi_target v ≡ true → list_all is_name_byte v ≡ true
unfolding is_pi_target
target_bytes v is = (ncname_bytes v (both_true (is_xml_ncname v) (not (bytes_eq (map to_ascii_lowercase v) (codes "xml"))) is).0).1

pub decimal_digits : (v : List ℕ) → is_decimal v ≡ true → (first_is is_ascii_digit v ≡ true) × (list_all is_ascii_digit v ≡ true)
unfolding is_decimal
decimal_digits v is = both_true (first_is is_ascii_digit v) (list_all is_ascii_digit v) (both_true (first_is is_ascii_digit v && list_all is_ascii_digit v) (is_xml_char (number_from 10 0 v)) is).0

pub hexadecimal_digits : (v : List ℕ) → is_hexadecimal v ≡ true → list_all is_ascii_hexdigit v ≡ true
unfolding is_hexadecimal
hexadecimal_digits v is =
    (both_true (first_is is_ascii_hexdigit v) (list_all is_ascii_hexdigit v) (both_true (first_is is_ascii_hexdigit v && list_all is_ascii_hexdigit v) (is_xml_char (number_from 16 0 v)) is).0).1
