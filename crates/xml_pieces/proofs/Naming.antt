-- Names: those of ASCII characters, those with others, and the parts round a colon.
use Rattle.std.proofs.Common.{◌≡◌, ℕ, suc, ◌+◌, ◌<◌, ◌≤◌, Bool, true, false, not, ◌&&◌, ◌||◌, cond, eqb, List, [], ◌∷◌, ◌++◌, length, take, drop, Some, None, refl, sym, ap, ◌∙◌, arith, one-add, append-nil}
use Rattle.std.specs.Prelude.{nat_le}
use Rattle.std.specs.List.{list_all, prefix_len}
use Rattle.std.specs.Str.{chars, is_utf8, IsUtf8, IsAscii}
use Rattle.std.proofs.lemmas.Bool.{false≢true, lt-leb, eqb-true}
use Rattle.std.proofs.lemmas.Bool.Decides.{nat_tests}
use Rattle.std.proofs.lemmas.Str.{chars-IsAscii, IsUtf8-from_ascii, is_utf8-from_IsUtf8, IsUtf8-from_is_utf8, IsUtf8-append}
use Rattle.std.proofs.lemmas.Str.Ascii.{IsAscii-nil, IsAscii-cons}
use Rattle.std.proofs.lemmas.List.Folds.{list_all-append}
use Rattle.std.specs.Char.{is_ascii_alphabetic, is_ascii_digit}
use Rattle.tree_model.specs.XmlChars.{is_between, is_name_start_char, is_inner_name_char, is_name_byte, first_is, is_name_run, is_ncname_text, is_xml_ncname, is_no_colon, has_colon, is_xml_qname}
use Rattle.xml_pieces.specs.Plain.{is_plain_start, is_plain_inner, is_plain}
use Rattle.xml_pieces.specs.Readers.{read}
use Rattle.xml_pieces.specs.Item.{qname}
use Rattle.xml_pieces.proofs.Spans.{both_true, front, skip, front_all, skip_all, front_skip, front_passes, skip_stops}

-- ---- one character

between_no : (low high c : ℕ) → c < low → is_between low high c ≡ false
between_no low high c lt = ap (λ b. b && nat_le c high) (lt-leb low c lt)

equal_no : (c d : ℕ) → c < d → eqb c d ≡ false
equal_no c d lt = grind (arith, nat_tests)

start_is : (c : ℕ) → c < 128 → is_name_start_char c ≡ is_plain_start c
unfolding is_name_start_char
start_is c lt =
    rw (
      between_no 0xC0 0xD6 c (omega arith),
      between_no 0xD8 0xF6 c (omega arith),
      between_no 0xF8 0x2FF c (omega arith),
      between_no 0x370 0x37D c (omega arith),
      between_no 0x37F 0x1FFF c (omega arith),
      between_no 0x200C 0x200D c (omega arith),
      between_no 0x2070 0x218F c (omega arith),
      between_no 0x2C00 0x2FEF c (omega arith),
      between_no 0x3001 0xD7FF c (omega arith),
      between_no 0xF900 0xFDCF c (omega arith),
      between_no 0xFDF0 0xFFFD c (omega arith),
      between_no 0x1_0000 0xE_FFFF c (omega arith),
    )
    (by (is_plain_start c))
  where
    by : (b : Bool) → (b || false || false || false || false || false || false || false || false || false || false || false || false) ≡ b
    by true = refl
    by false = refl

inner_is : (c : ℕ) → c < 128 → is_inner_name_char c ≡ is_plain_inner c
unfolding is_inner_name_char
inner_is c lt =
    rw (start_is c lt, equal_no c 0xB7 (omega arith), between_no 0x300 0x36F c (omega arith), between_no 0x203F 0x2040 c (omega arith))
    (by (is_plain_inner c))
  where
    by : (b : Bool) → (b || false || false || false) ≡ b
    by true = refl
    by false = refl

plain_low : (c : ℕ) → is_plain_inner c ≡ true → c < 128
plain_low c is = grind (arith, nat_tests)

plain_byte : (c : ℕ) → is_plain_inner c ≡ true → is_name_byte c ≡ true
plain_byte c is = by (is_ascii_alphabetic c) (eqb c 95) (is_ascii_digit c) (eqb c 45) (eqb c 46) (eqb c 58) (nat_le 128 c) is
  where
    by : (a u d m p x y : Bool) → (a || u || d || m || p) ≡ true → (a || d || u || m || p || x || y) ≡ true
    by true u d m p x y e = refl
    by false true true m p x y e = refl
    by false true false m p x y e = refl
    by false false true m p x y e = refl
    by false false false true p x y e = refl
    by false false false false true x y e = refl
    by false false false false false x y e = absurd (false≢true e)

start_inner : (c : ℕ) → is_plain_start c ≡ true → is_plain_inner c ≡ true
start_inner c is = ap (λ b. b || is_ascii_digit c || eqb c 45 || eqb c 46) is

-- ---- names of ASCII characters

first_of : (p q : ℕ → Bool) → ((c : ℕ) → p c ≡ true → q c ≡ true) → (v : List ℕ) → first_is p v ≡ true → first_is q v ≡ true
first_of p q on [] is = is
first_of p q on (c ∷ v) is = on c is

all_of : (p q : ℕ → Bool) → ((c : ℕ) → p c ≡ true → q c ≡ true) → (v : List ℕ) → list_all p v ≡ true → list_all q v ≡ true
all_of p q on [] is = refl
all_of p q on (c ∷ v) is = let parts = both_true (p c) (list_all p v) is in ap (λ b. b && list_all q v) (on c parts.0) ∙ all_of p q on v parts.1

first_same : (v : List ℕ) → IsAscii v → first_is is_name_start_char v ≡ first_is is_plain_start v
first_same [] ascii = refl
first_same (c ∷ v) ascii = start_is c (ascii 0)

all_same : (v : List ℕ) → IsAscii v → list_all is_inner_name_char v ≡ list_all is_plain_inner v
all_same [] ascii = refl
all_same (c ∷ v) ascii = ap (λ b. b && list_all is_inner_name_char v) (inner_is c (ascii 0)) ∙ ap (λ b. is_plain_inner c && b) (all_same v (λ i. ascii (suc i)))

plain_ascii : (v : List ℕ) → list_all is_plain_inner v ≡ true → IsAscii v
plain_ascii [] is = IsAscii-nil
plain_ascii (c ∷ v) is = let parts = both_true (is_plain_inner c) (list_all is_plain_inner v) is in IsAscii-cons c v (plain_low c parts.0) (plain_ascii v parts.1)

-- the characters of such a name are its bytes
plain_is : (name : List ℕ) → IsAscii name → is_xml_ncname name ≡ is_plain name
unfolding is_xml_ncname is_plain
plain_is name ascii =
    rw (chars-IsAscii name ascii, is_utf8-from_IsUtf8 name (IsUtf8-from_ascii name ascii), first_same name ascii, all_same name ascii)
    (by (first_is is_plain_start name) (list_all is_plain_inner name) refl refl)
  where
    by : (a b : Bool) → first_is is_plain_start name ≡ a → list_all is_plain_inner name ≡ b
        → ((first_is is_name_byte name && list_all is_name_byte name && true) && (a && b)) ≡ (a && b)
    by true true e f =
        let first : first_is is_name_byte name ≡ true = first_of is_plain_start is_name_byte (λ c is. plain_byte c (start_inner c is)) name e in
        let all : list_all is_name_byte name ≡ true = all_of is_plain_inner is_name_byte plain_byte name f in
        rw (first, all) refl
    by true false e f = no (first_is is_name_byte name && list_all is_name_byte name && true)
      where
        no : (x : Bool) → (x && false) ≡ false
        no true = refl
        no false = refl
    by false b e f = no (first_is is_name_byte name && list_all is_name_byte name && true)
      where
        no : (x : Bool) → (x && false) ≡ false
        no true = refl
        no false = refl

pub plain_yes : (name : List ℕ) → is_plain name ≡ true → is_xml_ncname name ≡ true
unfolding is_plain
plain_yes name is = plain_is name (plain_ascii name (both_true (first_is is_plain_start name) (list_all is_plain_inner name) is).1) ∙ is

pub plain_no : (name : List ℕ) → is_plain name ≡ false → IsAscii name → is_xml_ncname name ≡ false
plain_no name is ascii = plain_is name ascii ∙ is

-- ---- names with other characters

pub decoded_yes : (name : List ℕ) → IsUtf8 name → is_xml_ncname name ≡ (first_is is_name_byte name && list_all is_name_byte name && is_ncname_text (chars name))
unfolding is_xml_ncname
decoded_yes name text = rw (is_utf8-from_IsUtf8 name text) (by (first_is is_name_byte name) (list_all is_name_byte name) (is_ncname_text (chars name)))
  where
    by : (a b c : Bool) → ((a && b && true) && c) ≡ (a && b && c)
    by true true c = refl
    by true false c = refl
    by false b c = refl

pub decoded_no : (name : List ℕ) → ¬ (IsUtf8 name) → is_xml_ncname name ≡ false
unfolding is_xml_ncname
decoded_no name misses = by (first_is is_name_byte name) (list_all is_name_byte name) (is_utf8 name) refl
  where
    by : (a b d : Bool) → is_utf8 name ≡ d → ((a && b && d) && is_ncname_text (chars name)) ≡ false
    by a b true e = absurd (misses (IsUtf8-from_is_utf8 name e))
    by true true false e = refl
    by true false false e = refl
    by false b false e = refl

-- ---- names with a colon

abbrev is_some : List ℕ → Bool
is_some [] = false
is_some (c ∷ v) = true

colon_is : (name : List ℕ) → has_colon name ≡ is_some (skip is_no_colon name)
colon_is [] = refl
colon_is (c ∷ name) = by (colon_is name) (eqb c 58)
  where
    by : has_colon name ≡ is_some (skip is_no_colon name) → (b : Bool) → (b || has_colon name) ≡ is_some (drop (cond (not b) (1 + prefix_len is_no_colon name) 0) (c ∷ name))
    by on true = refl
    by on false = rw one-add on

name_run : (name : List ℕ) → is_xml_ncname name ≡ true → is_name_run name ≡ true
unfolding is_xml_ncname
name_run name is = (both_true (is_name_run name) (is_ncname_text (chars name)) is).0

pub qname_alone : (name : List ℕ) → length (drop (prefix_len is_no_colon name) name) < 1 → is_xml_qname name ≡ is_xml_ncname (take (prefix_len is_no_colon name) name)
unfolding is_xml_qname
qname_alone name short = by (skip is_no_colon name) refl short
  where
    by : (rest : List ℕ) → skip is_no_colon name ≡ rest → length rest < 1 → is_xml_qname name ≡ is_xml_ncname (front is_no_colon name)
    by (c ∷ rest) is short = absurd (omega arith)
    by [] is short =
        let whole : name ≡ front is_no_colon name = front_skip is_no_colon name ∙ ap (λ l. front is_no_colon name ++ l) is ∙ append-nil (front is_no_colon name) in
        rw (colon_is name ∙ ap is_some is) (same (is_xml_ncname name) refl) ∙ ap is_xml_ncname whole
      where
        same : (b : Bool) → is_xml_ncname name ≡ b → (is_name_run name && b && true) ≡ b
        same true e = rw (name_run name e) refl
        same false e = no (is_name_run name)
          where
            no : (x : Bool) → (x && false && true) ≡ false
            no true = refl
            no false = refl

first_more : (p : ℕ → Bool) (v rest : List ℕ) → first_is p v ≡ true → first_is p (v ++ rest) ≡ true
first_more p [] rest is = absurd (false≢true is)
first_more p (c ∷ v) rest is = is

-- two names with a colon between are a run of bytes of names
two_run : (a b : List ℕ) → is_name_run a ≡ true → is_name_run b ≡ true → is_name_run (a ++ 58 ∷ b) ≡ true
two_run a b left right =
    let one = both_true (first_is is_name_byte a && list_all is_name_byte a) (is_utf8 a) left in
    let two = both_true (first_is is_name_byte b && list_all is_name_byte b) (is_utf8 b) right in
    let one_bytes = both_true (first_is is_name_byte a) (list_all is_name_byte a) one.0 in
    let two_bytes = both_true (first_is is_name_byte b) (list_all is_name_byte b) two.0 in
    let colon : IsUtf8 (58 ∷ b) = IsUtf8-append (58 ∷ []) b (IsUtf8-from_ascii (58 ∷ []) (IsAscii-cons 58 [] (omega arith) IsAscii-nil)) (IsUtf8-from_is_utf8 b two.1) in
    let text : is_utf8 (a ++ 58 ∷ b) ≡ true = is_utf8-from_IsUtf8 (a ++ 58 ∷ b) (IsUtf8-append a (58 ∷ b) (IsUtf8-from_is_utf8 a one.1) colon) in
    let first : first_is is_name_byte (a ++ 58 ∷ b) ≡ true = first_more is_name_byte a (58 ∷ b) one_bytes.0 in
    let all : list_all is_name_byte (a ++ 58 ∷ b) ≡ true = list_all-append is_name_byte a (58 ∷ b) ∙ ap (λ x. x && list_all is_name_byte b) one_bytes.1 ∙ two_bytes.1 in
    rw (first, all, text) refl

not_false : (b : Bool) → not b ≡ false → b ≡ true
not_false true e = refl
not_false false e = absurd (false≢true (sym e))

qname_at : (name : List ℕ) (c : ℕ) (local : List ℕ) → skip is_no_colon name ≡ c ∷ local → is_xml_qname name ≡ (is_xml_ncname (front is_no_colon name) && is_xml_ncname local)
unfolding is_xml_qname
qname_at name c local is = rw (colon_is name ∙ ap is_some is, ap (drop 1) is) (by (is_xml_ncname (front is_no_colon name)) (is_xml_ncname local) refl refl)
  where
    is_colon : c ≡ 58
    is_colon = eqb-true c 58 (not_false (eqb c 58) (ap (first_is is_no_colon) (sym is) ∙ skip_stops is_no_colon name))

    parts : name ≡ front is_no_colon name ++ 58 ∷ local
    parts = front_skip is_no_colon name ∙ ap (λ l. front is_no_colon name ++ l) is ∙ ap (λ (x : ℕ). front is_no_colon name ++ x ∷ local) is_colon

    by : (a b : Bool) → is_xml_ncname (front is_no_colon name) ≡ a → is_xml_ncname local ≡ b → (is_name_run name && b && a) ≡ (a && b)
    by true true e f = ap (λ x. x && true && true) (ap is_name_run parts ∙ two_run (front is_no_colon name) local (name_run (front is_no_colon name) e) (name_run local f))
    by true false e f = no (is_name_run name)
      where
        no : (x : Bool) → (x && false && true) ≡ false
        no true = refl
        no false = refl
    by false b e f = no (is_name_run name) b
      where
        no : (x y : Bool) → (x && y && false) ≡ false
        no true true = refl
        no true false = refl
        no false y = refl

pub qname_two : (name : List ℕ) → 1 ≤ length (drop (prefix_len is_no_colon name) name)
    → is_xml_qname name ≡ (is_xml_ncname (take (prefix_len is_no_colon name) name) && is_xml_ncname (drop 1 (drop (prefix_len is_no_colon name) name)))
qname_two name long = by (skip is_no_colon name) refl long
  where
    by : (rest : List ℕ) → skip is_no_colon name ≡ rest → 1 ≤ length rest → is_xml_qname name ≡ (is_xml_ncname (front is_no_colon name) && is_xml_ncname (drop 1 rest))
    by [] is long = absurd (omega arith)
    by (c ∷ local) is long = qname_at name c local is

-- ---- a name of ASCII characters without a colon, in one pass

plain_no_colon : (c : ℕ) → is_plain_inner c ≡ true → is_no_colon c ≡ true
plain_no_colon c is = by (eqb c 58) refl
  where
    by : (b : Bool) → eqb c 58 ≡ b → not b ≡ true
    by true e = absurd (false≢true (sym (ap is_plain_inner (eqb-true c 58 e)) ∙ is))
    by false e = refl

plain_name : (v : List ℕ) → list_all is_plain_inner v ≡ true → is_xml_qname v ≡ first_is is_plain_start v
unfolding is_plain
plain_name v all =
    let free : list_all is_no_colon v ≡ true = all_of is_plain_inner is_no_colon plain_no_colon v all in
    let none : skip is_no_colon v ≡ [] = ap (skip is_no_colon) (sym (append-nil v)) ∙ skip_all is_no_colon v [] free refl in
    let whole : front is_no_colon v ≡ v = ap (front is_no_colon) (sym (append-nil v)) ∙ front_all is_no_colon v [] free refl in
    qname_alone v (rw none (omega arith)) ∙ ap is_xml_ncname whole ∙ plain_is v (plain_ascii v all) ∙ ap (λ b. first_is is_plain_start v && b) all ∙ and_true (first_is is_plain_start v)
  where
    and_true : (b : Bool) → (b && true) ≡ b
    and_true true = refl
    and_true false = refl

abbrev plain_front : List ℕ → List ℕ
plain_front bytes = take (prefix_len is_plain_inner bytes) bytes

abbrev plain_rest : List ℕ → List ℕ
plain_rest bytes = drop (prefix_len is_plain_inner bytes) bytes

qname_is : (bytes : List ℕ) → first_is is_name_byte (plain_rest bytes) ≡ false → qname bytes ≡ cond (first_is is_plain_start (plain_front bytes)) (read (plain_front bytes) (plain_rest bytes)) None
qname_is bytes stop =
    let all : list_all is_plain_inner (plain_front bytes) ≡ true = front_passes is_plain_inner bytes in
    let named : list_all is_name_byte (plain_front bytes) ≡ true = all_of is_plain_inner is_name_byte plain_byte (plain_front bytes) all in
    let parts : bytes ≡ plain_front bytes ++ plain_rest bytes = front_skip is_plain_inner bytes in
    let name : front is_name_byte bytes ≡ plain_front bytes = ap (front is_name_byte) parts ∙ front_all is_name_byte (plain_front bytes) (plain_rest bytes) named stop in
    let rest : skip is_name_byte bytes ≡ plain_rest bytes = ap (skip is_name_byte) parts ∙ skip_all is_name_byte (plain_front bytes) (plain_rest bytes) named stop in
    ap (λ l. cond (is_xml_qname l) (read l (skip is_name_byte bytes)) None) name ∙ ap (λ l. cond (is_xml_qname (plain_front bytes)) (read (plain_front bytes) l) None) rest
    ∙ ap (λ b. cond b (read (plain_front bytes) (plain_rest bytes)) None) (plain_name (plain_front bytes) all)

pub plain_qname : (bytes : List ℕ) → first_is is_name_byte (drop (prefix_len is_plain_inner bytes) bytes) ≡ false → first_is is_plain_start (take (prefix_len is_plain_inner bytes) bytes) ≡ true
    → qname bytes ≡ Some (take (prefix_len is_plain_inner bytes) bytes, drop (prefix_len is_plain_inner bytes) bytes)
plain_qname bytes stop is = qname_is bytes stop ∙ ap (λ b. cond b (read (plain_front bytes) (plain_rest bytes)) None) is

pub no_qname : (bytes : List ℕ) → first_is is_name_byte (drop (prefix_len is_plain_inner bytes) bytes) ≡ false → first_is is_plain_start (take (prefix_len is_plain_inner bytes) bytes) ≡ false → qname bytes ≡ None
no_qname bytes stop is = qname_is bytes stop ∙ ap (λ b. cond b (read (plain_front bytes) (plain_rest bytes)) None) is
