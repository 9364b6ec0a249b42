-- Names as they are written: an NCName has no colon, so the colon of a written name parts its prefix from its local part.
use Rattle.std.proofs.Common.{◌≡◌, inl, inr, ℕ, suc, ◌<◌, ◌≤◌, true, false, cond, not, ◌||◌, List, [], ◌∷◌, ◌++◌, length, get_or, drop, refl, sym, ap, ◌∙◌, subst, arith, append-nil}
use Rattle.std.specs.Prelude.{codes}
use Rattle.std.specs.List.{list_all}
use Rattle.std.specs.Str.{bytes_eq, is_utf8, chars, encode_utf8_all}
use Rattle.std.specs.Char.{encode_utf8}
use Rattle.std.proofs.lemmas.Bool.{and_parts, and_from, or_from, or_right, cases_lt, not-true}
use Rattle.std.proofs.lemmas.Bool.Decides.{nat_tests}
use Rattle.std.proofs.lemmas.List.Folds.{list_all-append}
use Rattle.std.proofs.lemmas.Str.{IsUtf8-from_is_utf8, is_utf8-from_IsUtf8, encode_ascii, encodes-chars, inside_one}
use Rattle.tree_model.specs.Declarations.{declared_name}
use Rattle.tree_model.specs.Sound.{is_empty, xml_uri, xmlns_uri, is_good_name}
use Rattle.tree_model.specs.XmlChars.{is_name_start_char, is_inner_name_char, is_name_run, is_ncname_text, is_xml_ncname, is_no_colon, has_colon, before_colon, behind_colon, prefix_of, local_of, is_xml_qname}
use Rattle.tree_model.specs.XmlMeaning.{is_declaration, declared_prefix}
use Rattle.tree_model.specs.Printing.{written_name}
use Rattle.tree_model.specs.declared.text.Name.{Name}
use Rattle.tree_model.proofs.XmlUtf8.{utf8_ascii, chars_ascii}
use Rattle.xml_pieces.proofs.Spans.{front, skip, front_all, skip_all}
use Rattle.xml_pieces.proofs.Naming.{qname_alone, qname_two}

-- ---- an NCName has no colon

inner_no_colon : (c : ℕ) → is_inner_name_char c ≡ true → is_no_colon c ≡ true
unfolding is_inner_name_char is_name_start_char
inner_no_colon c h = grind (arith, nat_tests)

high_no_colon : (c : ℕ) → 128 ≤ c → is_no_colon c ≡ true
high_no_colon c h = grind (arith, nat_tests)

each_high : (bytes : List ℕ) → ((k : ℕ) → k < length bytes → 128 ≤ get_or bytes k 0) → list_all is_no_colon bytes ≡ true
each_high [] h = refl
each_high (c ∷ bytes) h = and_from _ _ (high_no_colon c (h 0 (omega arith))) (each_high bytes (λ k below. h (suc k) (omega arith)))

-- a longer character is written in bytes beyond ASCII
encoded_no_colon : (c : ℕ) → is_inner_name_char c ≡ true → list_all is_no_colon (encode_utf8 c) ≡ true
encoded_no_colon c h = elim (cases_lt c 128) [
  | inl low ↦ subst (λ (bytes : List ℕ). list_all is_no_colon bytes ≡ true) (sym (encode_ascii c low)) (and_from _ _ (inner_no_colon c h) refl)
  | inr high ↦ each_high (encode_utf8 c) (λ k below. elim (cases_lt (get_or (encode_utf8 c) k 0) 128) [
    | inl low ↦ absurd (omega (arith, inside_one c [] (encode_utf8 c) k (sym (append-nil _)) below low))
    | inr beyond ↦ beyond
  ])
]

all_no_colon : (cs : List ℕ) → list_all is_inner_name_char cs ≡ true → list_all is_no_colon (encode_utf8_all cs) ≡ true
all_no_colon [] h = refl
all_no_colon (c ∷ cs) h =
    let p = and_parts (is_inner_name_char c) (list_all is_inner_name_char cs) h in
    list_all-append is_no_colon (encode_utf8 c) (encode_utf8_all cs) ∙ and_from _ _ (encoded_no_colon c p.0) (all_no_colon cs p.1)

pub ncname_no_colon : (name : List ℕ) → is_xml_ncname name ≡ true → list_all is_no_colon name ≡ true
unfolding is_xml_ncname
ncname_no_colon name h =
    let both = and_parts (is_name_run name) (is_ncname_text (chars name)) h in
    let spelled = and_parts _ (is_utf8 name) both.0 in
    let inner = and_parts _ (list_all is_inner_name_char (chars name)) both.1 in
    subst (λ (bytes : List ℕ). list_all is_no_colon bytes ≡ true) (encodes-chars name (IsUtf8-from_is_utf8 name spelled.1)) (all_no_colon (chars name) inner.1)

no_colon_in : (name : List ℕ) → list_all is_no_colon name ≡ true → has_colon name ≡ false
no_colon_in [] h = refl
no_colon_in (c ∷ name) h =
    let p = and_parts (is_no_colon c) (list_all is_no_colon name) h in
    or_from _ _ (not-true _ p.0) (no_colon_in name p.1)

colon_in : (prefix local : List ℕ) → has_colon (prefix ++ 58 ∷ local) ≡ true
colon_in [] local = refl
colon_in (c ∷ prefix) local = or_right _ _ (colon_in prefix local)

-- ---- the parts of a name as it is written

pub record IsParted (prefix local written : List ℕ) : Type 0 where
  pub named : is_xml_qname written ≡ true
  pub colon : has_colon written ≡ not (is_empty prefix)
  pub prefix_is : prefix_of written ≡ prefix
  pub local_is : local_of written ≡ local

alone : (local : List ℕ) → is_xml_ncname local ≡ true → IsParted [] local local
alone local h =
    let free = ncname_no_colon local h in
    let no_colon : has_colon local ≡ false = no_colon_in local free in
    let rest : skip is_no_colon local ≡ [] = ap (skip is_no_colon) (sym (append-nil local)) ∙ skip_all is_no_colon local [] free refl in
    let whole : front is_no_colon local ≡ local = ap (front is_no_colon) (sym (append-nil local)) ∙ front_all is_no_colon local [] free refl in
    record {
      named = qname_alone local (rw rest (omega arith)) ∙ ap is_xml_ncname whole ∙ h;
      colon = no_colon;
      prefix_is = ap (λ b. cond b (before_colon local) []) no_colon;
      local_is = ap (λ b. cond b (behind_colon local) local) no_colon;
    }

pub record AreBeside (prefix local written : List ℕ) : Type 0 where
  pub named : is_xml_qname written ≡ true
  pub colon : has_colon written ≡ true
  pub before : before_colon written ≡ prefix
  pub behind : behind_colon written ≡ local

pub beside : (prefix local : List ℕ) → is_xml_ncname prefix ≡ true → is_xml_ncname local ≡ true → AreBeside prefix local (prefix ++ 58 ∷ local)
beside prefix local p l =
    let free = ncname_no_colon prefix p in
    let rest : skip is_no_colon (prefix ++ 58 ∷ local) ≡ 58 ∷ local = skip_all is_no_colon prefix (58 ∷ local) free refl in
    let first : front is_no_colon (prefix ++ 58 ∷ local) ≡ prefix = front_all is_no_colon prefix (58 ∷ local) free refl in
    record {
      named = qname_two (prefix ++ 58 ∷ local) (rw rest (omega arith)) ∙ and_from _ _ (ap is_xml_ncname first ∙ p) (ap (λ (bytes : List ℕ). is_xml_ncname (drop 1 bytes)) rest ∙ l);
      colon = colon_in prefix local;
      before = first;
      behind = ap (drop 1) rest;
    }

parted : (c : ℕ) (prefix local : List ℕ) → is_xml_ncname (c ∷ prefix) ≡ true → is_xml_ncname local ≡ true → IsParted (c ∷ prefix) local ((c ∷ prefix) ++ 58 ∷ local)
parted c prefix local p l =
    let b = beside (c ∷ prefix) local p l in
    let written : List ℕ = (c ∷ prefix) ++ 58 ∷ local in
    record {
      named = b.named;
      colon = b.colon;
      prefix_is = ap (λ t. cond t (before_colon written) []) b.colon ∙ b.before;
      local_is = ap (λ t. cond t (behind_colon written) written) b.colon ∙ b.behind;
    }

-- ---- good names

-- what is_good_name says, part by part
pub record IsFit (name : Name) : Type 0 where
  pub local : is_xml_ncname name.local ≡ true
  pub prefix : (is_empty name.prefix || is_xml_ncname name.prefix) ≡ true
  pub no_xmlns : bytes_eq name.prefix (codes "xmlns") ≡ false

pub good_parts : (name : Name) → is_good_name name ≡ true → IsFit name
good_parts name h =
    let all_but_last = and_parts _ (not (bytes_eq name.uri xmlns_uri)) h in
    let all_but_two = and_parts _ (not (bytes_eq name.prefix (codes "xmlns"))) all_but_last.0 in
    let all_but_three = and_parts _ (cond (bytes_eq name.prefix (codes "xml")) (bytes_eq name.uri xml_uri) (not (bytes_eq name.uri xml_uri))) all_but_two.0 in
    let all_but_four = and_parts _ (not (is_empty name.uri) || is_empty name.prefix) all_but_three.0 in
    let names = and_parts (is_xml_ncname name.local) (is_empty name.prefix || is_xml_ncname name.prefix) all_but_four.0 in
    record { local = names.0; prefix = names.1; no_xmlns = not-true _ all_but_two.1 }

pub written_parts : (name : Name) → is_good_name name ≡ true → IsParted name.prefix name.local (written_name name)
unfolding written_name
written_parts name h = by name.prefix (good_parts name h).prefix
  where
    by : (prefix : List ℕ) → (is_empty prefix || is_xml_ncname prefix) ≡ true → IsParted prefix name.local (written_name (record name { prefix = prefix }))
    by [] k = alone name.local (good_parts name h).local
    by (c ∷ prefix) k = parted c prefix name.local k (good_parts name h).local

-- ---- names of declarations

xmlns_named : is_xml_ncname (codes "xmlns") ≡ true
unfolding is_xml_ncname is_inner_name_char is_name_start_char
xmlns_named = and_from _ _ (and_from _ _ refl (is_utf8-from_IsUtf8 (codes "xmlns") (utf8_ascii (codes "xmlns") refl))) (subst (λ (cs : List ℕ). is_ncname_text cs ≡ true) (sym (chars_ascii (codes "xmlns") refl)) refl)

-- such a name declares the prefix, and is a name
pub record IsDeclared (prefix : List ℕ) : Type 0 where
  pub named : is_xml_qname (declared_name prefix) ≡ true
  pub declares : is_declaration (declared_name prefix) ≡ true
  pub prefix_is : declared_prefix (declared_name prefix) ≡ prefix

pub declared_parts : (prefix : List ℕ) → (is_empty prefix || is_xml_ncname prefix) ≡ true → IsDeclared prefix
unfolding is_declaration declared_prefix
declared_parts [] h = record { named = (alone (codes "xmlns") xmlns_named).named; declares = refl; prefix_is = refl }
declared_parts (c ∷ prefix) h =
    let b = beside (codes "xmlns") (c ∷ prefix) xmlns_named h in
    record { named = b.named; declares = refl; prefix_is = refl }

-- one prefix for each name
pub declared_once : (a b : List ℕ) → declared_name a ≡ declared_name b → a ≡ b
declared_once [] [] e = refl
declared_once [] (c ∷ b) e = cc
declared_once (c ∷ a) [] e = cc
declared_once (c ∷ a) (d ∷ b) e = cc
