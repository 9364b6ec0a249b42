-- What the scopes of a text without faults bind, and the names of its tags.
use Rattle.std.proofs.Common.{◌≡◌, ℕ, Bool, true, false, cond, not, ◌&&◌, ◌||◌, List, [], ◌∷◌, ◌++◌, map, Some, None, refl, sym, ap, ap₂, ◌∙◌, subst, zero, suc, ◌==◌, append_assoc, arith, one-add}
use Rattle.std.specs.Prelude.{⊤, codes, filter}
use Rattle.std.specs.List.{list_all, list_any, flat_map}
use Rattle.std.specs.Option.{is_none}
use Rattle.std.specs.Str.{bytes_eq}
use Rattle.std.proofs.lemmas.Bool.{and_parts, and_from, or_parts, or_from, or_left, or_right, true≢false, false≢true, not_from_false, false_from_ne_true, not-true, cond-false, cond-true}
use Rattle.std.proofs.lemmas.List.Folds.{list_any-append}
use Rattle.std.proofs.lemmas.Slice.Eq.{bytes_eq-Decides}
use Rattle.std.proofs.lemmas.Bool.Decides.{nat_tests}
use Rattle.tree_model.specs.Declarations.{Binding, declarations_of, declarations_value}
use Rattle.tree_model.specs.Labels.{Label}
use Rattle.tree_model.specs.Sound.{is_empty, xml_uri, is_good_name, is_same_name, are_distinct_names, is_attr_name, is_good_declaration, spells_declarations, is_good_label, is_elem, is_attr, binding_of, has_one_uri, have_one_uri, are_distinct, binds_well, owns}
use Rattle.tree_model.specs.XmlChars.{has_colon, before_colon, behind_colon, prefix_of, local_of, is_name_byte, is_name_run, is_xml_char, is_xml_ncname, is_xml_qname}
use Rattle.tree_model.specs.XmlSource.{Part, run, entity, decimal, hexadecimal, Attr}
use Rattle.tree_model.specs.XmlGood.{IsValue, EachIsAttr, is_in, are_new, names_of}
use Rattle.tree_model.specs.XmlMeaning.{value_in_attr, Pair, pair_of, Scope, uri_of, first_scope, is_declaration, declared_prefix, with_attrs, is_bad_binding, attr_uri, element_uri, or_empty, plain_attrs, attr_name, element_name, expanded, is_same_pair, is_pair_in, has_twice, has_bad_binding, has_unbound, is_bad_tag, attr_label, attr_labels, kept_declarations, tag_label}
use Rattle.tree_model.specs.declared.text.Name.{Name}
use Rattle.tree_model.proofs.Declared.{has_no_zero, HaveNoZero, declarations_back}
use Rattle.tree_model.proofs.XmlUtf8.{chars_ascii, all_weaker, text_cut, text_cut_behind, IsTextOfChars, text_nil, text_append, text_ascii, text_spaced, text_entity, text_decimal, text_hexadecimal, are_chars_from}
use Rattle.tree_model.proofs.XmlSoundTexts.{ArePartTexts, AreValueTexts}

-- ---- scopes

-- a prefix may stand for the uri, whose characters are Chars
pub record IsGoodBinding (prefix uri : List ℕ) : Type 0 where
  pub allowed : is_bad_binding prefix uri ≡ false
  pub text : IsTextOfChars uri

abbrev pub IsGoodScope : Scope → Type 0
IsGoodScope [] = ⊤
IsGoodScope (bound ∷ scope) = IsGoodBinding bound.0 bound.1 × IsGoodScope scope

-- no prefix stands for no namespace, and `xml` for its own
pub empty_binding : IsGoodBinding [] []
unfolding is_bad_binding
empty_binding = record { allowed = refl; text = text_nil }

pub first_scope_good : IsGoodScope first_scope
unfolding is_bad_binding
first_scope_good = (empty_binding, (record { allowed = refl; text = text_ascii xml_uri refl refl }, tt))

-- an attribute's name is a name, and its value has Chars alone
pub record IsPair (a : Pair) : Type 0 where
  pub named : is_xml_qname a.0 ≡ true
  pub text : IsTextOfChars a.1

abbrev pub ArePairs : List Pair → Type 0
ArePairs [] = ⊤
ArePairs (a ∷ attrs) = IsPair a × ArePairs attrs

pub with_attrs_good : (attrs : List Pair) (scope : Scope) → ArePairs attrs → has_bad_binding attrs ≡ false → IsGoodScope scope → IsGoodScope (with_attrs attrs scope)
unfolding with_attrs
with_attrs_good [] scope pairs h g = g
with_attrs_good (a ∷ attrs) scope pairs h g =
    let apart = or_parts _ _ h in
    by (is_declaration a.0) apart.0 (λ b. with_attrs_good attrs ((declared_prefix a.0, a.1) ∷ scope) pairs.1 apart.1 (b, g)) (with_attrs_good attrs scope pairs.1 apart.1 g)
  where
    by : (declares : Bool) → (declares && is_bad_binding (declared_prefix a.0) a.1) ≡ false → (IsGoodBinding (declared_prefix a.0) a.1 → IsGoodScope (with_attrs attrs ((declared_prefix a.0, a.1) ∷ scope))) → IsGoodScope (with_attrs attrs scope)
        → IsGoodScope (cond declares (with_attrs attrs ((declared_prefix a.0, a.1) ∷ scope)) (with_attrs attrs scope))
    by true allowed more same = more (record { allowed = allowed; text = pairs.0.text })
    by false allowed more same = same

pub looked_up : (prefix : List ℕ) (scope : Scope) → IsGoodScope scope → is_none (uri_of prefix scope) ≡ false → IsGoodBinding prefix (or_empty (uri_of prefix scope))
looked_up prefix [] g h = absurd (true≢false h)
looked_up prefix (bound ∷ scope) g h = by (bytes_eq bound.0 prefix) refl (looked_up prefix scope g.1) h
  where
    by : (same : Bool) → bytes_eq bound.0 prefix ≡ same → (is_none (uri_of prefix scope) ≡ false → IsGoodBinding prefix (or_empty (uri_of prefix scope))) → is_none (cond same (Some bound.1) (uri_of prefix scope)) ≡ false → IsGoodBinding prefix (or_empty (cond same (Some bound.1) (uri_of prefix scope)))
    by true e more k = subst (λ (p : List ℕ). IsGoodBinding p bound.1) ((bytes_eq-Decides bound.0 prefix).0 e) g.0
    by false e more k = more k

-- ---- names

some_name : (name : List ℕ) → is_xml_ncname name ≡ true → is_empty name ≡ false
unfolding is_xml_ncname
some_name [] h = absurd (false≢true h)
some_name (c ∷ name) h = refl

-- a name whose prefix may stand for its uri is good
good_name : (name : Name) → is_xml_ncname name.local ≡ true → (is_empty name.prefix || is_xml_ncname name.prefix) ≡ true → is_bad_binding name.prefix name.uri ≡ false → is_good_name name ≡ true
unfolding is_bad_binding
good_name name l p h =
    let parts = or_parts _ _ h in
    let inner = or_parts _ _ parts.0 in
    let first = or_parts _ _ inner.0 in
    and_from _ _ (and_from _ _ (and_from _ _ (and_from _ _ (and_from _ _ l p) (empty_case (is_empty name.prefix) (is_empty name.uri) parts.1)) (xml_case (bytes_eq name.prefix (codes "xml")) (bytes_eq name.uri xml_uri) inner.1)) (not_from_false _ first.0)) (not_from_false _ first.1)
  where
    empty_case : (no_prefix no_uri : Bool) → (not no_prefix && no_uri) ≡ false → (not no_uri || no_prefix) ≡ true
    empty_case true true k = refl
    empty_case true false k = refl
    empty_case false true k = absurd (true≢false k)
    empty_case false false k = refl

    xml_case : (is_xml is_uri : Bool) → cond is_xml (not is_uri) is_uri ≡ false → cond is_xml is_uri (not is_uri) ≡ true
    xml_case true true k = refl
    xml_case true false k = absurd (true≢false k)
    xml_case false true k = absurd (true≢false k)
    xml_case false false k = refl

-- the parts of a name as it is written
record AreParts (name : List ℕ) : Type 0 where
  local : is_xml_ncname (local_of name) ≡ true
  prefix : (not (has_colon name) || is_xml_ncname (before_colon name)) ≡ true

name_parts : (name : List ℕ) → is_xml_qname name ≡ true → AreParts name
unfolding is_xml_qname
name_parts name h =
    let p = and_parts _ _ h in
    record { local = (and_parts (is_name_run name) _ p.0).1; prefix = p.1 }

prefix_named : (name : List ℕ) → AreParts name → (is_empty (prefix_of name) || is_xml_ncname (prefix_of name)) ≡ true
prefix_named name h = by (has_colon name) h.prefix
  where
    by : (colon : Bool) → (not colon || is_xml_ncname (before_colon name)) ≡ true → (is_empty (cond colon (before_colon name) []) || is_xml_ncname (cond colon (before_colon name) [])) ≡ true
    by true k = or_right _ _ k
    by false k = refl

-- a good name of a node, whose uri has Chars alone
pub record IsNamed (test : Name → Bool) (name : Name) : Type 0 where
  pub good : test name ≡ true
  pub uri_text : IsTextOfChars name.uri

pub element_named : (inside : Scope) (name : List ℕ) → is_xml_qname name ≡ true → IsGoodScope inside → is_none (element_uri inside name) ≡ false → IsNamed is_good_name (element_name inside name)
unfolding element_uri
element_named inside name q g h = by (bytes_eq (prefix_of name) (codes "xmlns")) h
  where
    found : IsGoodBinding (prefix_of name) (or_empty (uri_of (prefix_of name) inside)) → IsNamed is_good_name (record { uri = or_empty (uri_of (prefix_of name) inside); prefix = prefix_of name; local = local_of name })
    found b = record { good = good_name (record { uri = or_empty (uri_of (prefix_of name) inside); prefix = prefix_of name; local = local_of name }) (name_parts name q).local (prefix_named name (name_parts name q)) b.allowed; uri_text = b.text }

    by : (xmlns : Bool) → is_none (cond xmlns None (uri_of (prefix_of name) inside)) ≡ false → IsNamed is_good_name (record { uri = or_empty (cond xmlns None (uri_of (prefix_of name) inside)); prefix = prefix_of name; local = local_of name })
    by true k = absurd (true≢false k)
    by false k = found (looked_up (prefix_of name) inside g k)

pub attr_named : (inside : Scope) (name : List ℕ) → is_xml_qname name ≡ true → is_declaration name ≡ false → IsGoodScope inside → is_none (attr_uri inside name) ≡ false → IsNamed is_attr_name (attr_name inside name)
unfolding attr_uri is_declaration
attr_named inside name q d g h = by (has_colon name) (name_parts name q).local (name_parts name q).prefix d h
  where
    by : (colon : Bool) → is_xml_ncname (cond colon (behind_colon name) name) ≡ true → (not colon || is_xml_ncname (before_colon name)) ≡ true
        → cond colon (bytes_eq (before_colon name) (codes "xmlns")) (bytes_eq name (codes "xmlns")) ≡ false → is_none (cond colon (uri_of (before_colon name) inside) (Some [])) ≡ false
        → IsNamed is_attr_name (record { uri = or_empty (cond colon (uri_of (before_colon name) inside) (Some [])); prefix = cond colon (before_colon name) []; local = cond colon (behind_colon name) name })
    by true l p no_declaration k =
        let b = looked_up (before_colon name) inside g k in
        record {
          good = and_from _ _ (good_name (record { uri = or_empty (uri_of (before_colon name) inside); prefix = before_colon name; local = behind_colon name }) l (or_right _ _ p) b.allowed)
              (or_left _ _ (not_from_false _ (some_name (before_colon name) p)));
          uri_text = b.text;
        }
    by false l p no_declaration k = record {
      good = and_from _ _ (good_name (record { uri = []; prefix = []; local = name }) l refl empty_binding.allowed) (not_from_false _ no_declaration);
      uri_text = text_nil;
    }

-- ---- the values of attributes

value_text : (delim : ℕ) (parts : List Part) → IsValue delim parts → ArePartTexts parts → IsTextOfChars (flat_map value_in_attr parts)
value_text delim [] h t = text_nil
value_text delim (run bytes ∷ parts) h t = text_append _ _ (text_spaced bytes t.0) (value_text delim parts h.2 t.1)
value_text delim (entity name ∷ parts) h t = text_append _ _ (text_entity name h.0) (value_text delim parts h.2 t.1)
value_text delim (decimal digits ∷ parts) h t = text_append _ _ (text_decimal digits h.0) (value_text delim parts h.2 t.1)
value_text delim (hexadecimal digits ∷ parts) h t = text_append _ _ (text_hexadecimal digits h.0) (value_text delim parts h.2 t.1)

pub are_pairs : (attrs : List Attr) → EachIsAttr attrs → AreValueTexts attrs → ArePairs (map pair_of attrs)
are_pairs [] h t = tt
are_pairs (a ∷ attrs) h t = (record { named = h.0.name; text = value_text a.delim a.value h.0.value t.0 }, are_pairs attrs h.1 t.1)

-- ---- a tag without faults

record IsGoodTag (inside : Scope) (name : List ℕ) (attrs : List Pair) : Type 0 where
  bindings : has_bad_binding attrs ≡ false
  bound : is_none (element_uri inside name) ≡ false
  all_bound : has_unbound inside attrs ≡ false
  differ : has_twice [] (map (λ (a : Pair). expanded inside a.0) (plain_attrs attrs)) ≡ false

good_tag : (inside : Scope) (name : List ℕ) (attrs : List Pair) → is_bad_tag inside name attrs ≡ false → IsGoodTag inside name attrs
unfolding is_bad_tag
good_tag inside name attrs h =
    let last = or_parts _ _ h in
    let third = or_parts _ _ last.0 in
    let both = or_parts _ _ third.0 in
    record { bindings = both.0; bound = both.1; all_bound = third.1; differ = last.1 }

-- the attributes that are no declarations
record IsPlain (a : Pair) : Type 0 where
  pair : IsPair a
  no_declaration : is_declaration a.0 ≡ false

abbrev ArePlain : List Pair → Type 0
ArePlain [] = ⊤
ArePlain (a ∷ attrs) = IsPlain a × ArePlain attrs

are_plain : (attrs : List Pair) → ArePairs attrs → ArePlain (plain_attrs attrs)
unfolding plain_attrs
are_plain [] h = tt
are_plain (a ∷ attrs) h = by (is_declaration a.0) refl (are_plain attrs h.1)
  where
    by : (declares : Bool) → is_declaration a.0 ≡ declares → ArePlain (plain_attrs attrs) → ArePlain (cond declares (plain_attrs attrs) (a ∷ plain_attrs attrs))
    by true e more = more
    by false e more = (record { pair = h.0; no_declaration = e }, more)

good_attr_labels : (inside : Scope) (attrs : List Pair) → IsGoodScope inside → ArePlain attrs → list_any (λ (a : Pair). is_none (attr_uri inside a.0)) attrs ≡ false → list_all is_good_label (map (attr_label inside) attrs) ≡ true
good_attr_labels inside [] g h k = refl
good_attr_labels inside (a ∷ attrs) g h k =
    let apart = or_parts _ _ k in
    let named = attr_named inside a.0 h.0.pair.named h.0.no_declaration g apart.0 in
    and_from _ _ (and_from _ _ (and_from _ _ named.good (are_chars_from _ named.uri_text)) (are_chars_from a.1 h.0.pair.text)) (good_attr_labels inside attrs g h.1 apart.1)

-- ---- names that differ

same_pair_swapped : (a b : Pair) → is_same_pair a b ≡ false → is_same_pair b a ≡ false
same_pair_swapped a b h = false_from_ne_true _ (λ e.
    let p = and_parts (bytes_eq b.0 a.0) (bytes_eq b.1 a.1) e in
    let back : is_same_pair a b ≡ true = and_from _ _ ((bytes_eq-Decides a.0 b.0).1 (sym ((bytes_eq-Decides b.0 a.0).0 p.0))) ((bytes_eq-Decides a.1 b.1).1 (sym ((bytes_eq-Decides b.1 a.1).0 p.1))) in
    true≢false (sym back ∙ h))

-- what stands among the names before is none of those behind
not_behind : (q : Pair) (before after ps : List Pair) → has_twice (before ++ q ∷ after) ps ≡ false → list_any (is_same_pair q) ps ≡ false
not_behind q before after [] h = refl
not_behind q before after (p ∷ ps) h =
    let apart = or_parts (is_pair_in p (before ++ q ∷ after)) (has_twice (p ∷ (before ++ q ∷ after)) ps) h in
    let here = or_parts (list_any (is_same_pair p) before) _ (sym (list_any-append (is_same_pair p) before (q ∷ after)) ∙ apart.0) in
    or_from _ _ (same_pair_swapped p q (or_parts (is_same_pair p q) _ here.1).0) (not_behind q (p ∷ before) after ps apart.1)

abbrev names : Scope → List Pair → List Name
names inside attrs = map (λ (b : Label). b.name) (map (attr_label inside) attrs)

-- those with a prefix
abbrev prefixed : Scope → List Pair → List Name
prefixed inside attrs = filter (λ (name : Name). not (is_empty name.prefix)) (names inside attrs)

same_any : (inside : Scope) (a : Pair) (attrs : List Pair) → list_any (is_same_name (attr_name inside a.0)) (names inside attrs) ≡ list_any (is_same_pair (expanded inside a.0)) (map (λ (b : Pair). expanded inside b.0) attrs)
same_any inside a [] = refl
same_any inside a (b ∷ attrs) = ap (λ t. is_same_pair (expanded inside a.0) (expanded inside b.0) || t) (same_any inside a attrs)

distinct_names : (inside : Scope) (before attrs : List Pair) → has_twice before (map (λ (b : Pair). expanded inside b.0) attrs) ≡ false → are_distinct_names (names inside attrs) ≡ true
distinct_names inside before [] h = refl
distinct_names inside before (a ∷ attrs) h =
    let apart = or_parts (is_pair_in (expanded inside a.0) before) _ h in
    and_from _ _ (not_from_false _ (same_any inside a attrs ∙ not_behind (expanded inside a.0) [] before _ apart.1)) (distinct_names inside (expanded inside a.0 ∷ before) attrs apart.1)

-- ---- the declarations of a tag

some_byte : (c : ℕ) → (c ≡ 0 → ⊥) → not (c == 0) ≡ true
some_byte c h = grind (arith, nat_tests)

no_zero_byte : (c : ℕ) → is_name_byte c ≡ true → not (c == 0) ≡ true
no_zero_byte zero h = absurd (false≢true h)
no_zero_byte (suc c) h = some_byte (suc c) (λ e. absurd (omega (arith, e)))

no_zero_name : (name : List ℕ) → is_xml_ncname name ≡ true → has_no_zero name ≡ true
unfolding is_xml_ncname
no_zero_name name h =
    let run = and_parts _ _ (and_parts (is_name_run name) _ h).0 in
    all_weaker is_name_byte (λ c. not (c == 0)) no_zero_byte name (and_parts _ _ run.0).1

no_zero_text : (front bytes : List ℕ) → IsTextOfChars (front ++ bytes) → has_no_zero bytes ≡ true
no_zero_text front [] t = refl
no_zero_text front (c ∷ bytes) t =
    and_from _ _ (some_byte c (text_cut_at c t)) (no_zero_text (front ++ c ∷ []) bytes (subst IsTextOfChars (sym (append_assoc front (c ∷ []) bytes)) t))
  where
    text_cut_at : (c : ℕ) → IsTextOfChars (front ++ c ∷ bytes) → (c ≡ 0) → ⊥
    text_cut_at c t e =
        let at : IsTextOfChars (front ++ 0 ∷ bytes) = subst (λ (d : ℕ). IsTextOfChars (front ++ d ∷ bytes)) e t in
        let second = (text_cut front (0 ∷ bytes) refl at).second in
        let one = (text_cut_behind [] 0 bytes (omega arith) second).first in
        false≢true (ap (list_all is_xml_char) (sym (chars_ascii (0 ∷ []) refl)) ∙ one.chars)

-- a prefix that a name declares is none or an NCName
prefix_declared : (name : List ℕ) → is_xml_qname name ≡ true → (is_empty (declared_prefix name) || is_xml_ncname (declared_prefix name)) ≡ true
unfolding declared_prefix
prefix_declared name q = by (has_colon name) (name_parts name q).local
  where
    by : (colon : Bool) → is_xml_ncname (cond colon (behind_colon name) name) ≡ true → (is_empty (cond colon (behind_colon name) []) || is_xml_ncname (cond colon (behind_colon name) [])) ≡ true
    by true h = or_right _ _ h
    by false h = refl

no_zero_prefix : (prefix : List ℕ) → (is_empty prefix || is_xml_ncname prefix) ≡ true → has_no_zero prefix ≡ true
no_zero_prefix [] h = refl
no_zero_prefix (c ∷ prefix) h = no_zero_name (c ∷ prefix) h

-- whether a tag's attribute is a declaration that is kept
abbrev is_kept : Pair → Bool
is_kept a = is_declaration a.0 && not (bytes_eq (declared_prefix a.0) (codes "xml"))

abbrev declared : Pair → Binding
declared a = (declared_prefix a.0, a.1)

good_declaration : (a : Pair) → IsPair a → is_bad_binding (declared_prefix a.0) a.1 ≡ false → bytes_eq (declared_prefix a.0) (codes "xml") ≡ false → is_good_declaration (declared a) ≡ true
unfolding is_bad_binding
good_declaration a pair h no_xml =
    let parts = or_parts _ _ h in
    let inner = or_parts _ _ parts.0 in
    let first = or_parts _ _ inner.0 in
    let other : bytes_eq a.1 xml_uri ≡ false = sym (cond-false _ _ _ no_xml) ∙ inner.1 in
    and_from _ _ (and_from _ _ (and_from _ _ (and_from _ _ (and_from _ _ (and_from _ _ (prefix_declared a.0 pair.named) (not_from_false _ no_xml)) (not_from_false _ first.0))
    (some_uri (is_empty (declared_prefix a.0)) (is_empty a.1) parts.1)) (not_from_false _ other)) (not_from_false _ first.1)) (are_chars_from a.1 pair.text)
  where
    some_uri : (no_prefix no_uri : Bool) → (not no_prefix && no_uri) ≡ false → (not no_uri || no_prefix) ≡ true
    some_uri true true k = refl
    some_uri true false k = refl
    some_uri false true k = absurd (true≢false k)
    some_uri false false k = refl

-- what is kept of the declarations
record AreKept (attrs : List Pair) : Type 0 where
  no_zero : HaveNoZero (kept_declarations attrs)
  good : list_all is_good_declaration (kept_declarations attrs) ≡ true

are_kept : (attrs : List Pair) → ArePairs attrs → has_bad_binding attrs ≡ false → AreKept attrs
unfolding kept_declarations
are_kept [] pairs h = record { no_zero = tt; good = refl }
are_kept (a ∷ attrs) pairs h =
    let apart = or_parts _ _ h in
    let both = by (is_declaration a.0) (bytes_eq (declared_prefix a.0) (codes "xml")) refl apart.0 (are_kept attrs pairs.1 apart.1) in
    record { no_zero = both.0; good = both.1 }
  where
    by : (declares is_xml : Bool) → bytes_eq (declared_prefix a.0) (codes "xml") ≡ is_xml → (declares && is_bad_binding (declared_prefix a.0) a.1) ≡ false → AreKept attrs
        → (HaveNoZero (cond (declares && not is_xml) (declared a ∷ kept_declarations attrs) (kept_declarations attrs)))
        × (list_all is_good_declaration (cond (declares && not is_xml) (declared a ∷ kept_declarations attrs) (kept_declarations attrs)) ≡ true)
    by true false e k more = (
      (no_zero_prefix (declared_prefix a.0) (prefix_declared a.0 pairs.0.named), no_zero_text [] a.1 pairs.0.text, more.no_zero),
      and_from _ _ (good_declaration a pairs.0 k e) more.good,
    )
    by true true e k more = (more.no_zero, more.good)
    by false is_xml e k more = (more.no_zero, more.good)

-- ---- names that are written apart

none_behind : (x : List ℕ) (before names : List (List ℕ)) → is_in x before ≡ true → are_new before names ≡ true → list_any (bytes_eq x) names ≡ false
none_behind x before [] i h = refl
none_behind x before (name ∷ names) i h =
    let p = and_parts (not (is_in name before)) (are_new (name ∷ before) names) h in
    or_from _ _ (differs p.0) (none_behind x (name ∷ before) names (or_right _ _ i) p.1)
  where
    differs : not (is_in name before) ≡ true → bytes_eq x name ≡ false
    differs k = false_from_ne_true _ (λ e. true≢false (sym (subst (λ (y : List ℕ). is_in y before ≡ true) ((bytes_eq-Decides x name).0 e) i) ∙ not-true _ k))

pub new_distinct : (before names : List (List ℕ)) → are_new before names ≡ true → are_distinct names ≡ true
new_distinct before [] h = refl
new_distinct before (name ∷ names) h =
    let p = and_parts (not (is_in name before)) (are_new (name ∷ before) names) h in
    and_from _ _ (not_from_false _ (none_behind name (name ∷ before) names (or_left _ _ ((bytes_eq-Decides name name).1 refl)) p.1)) (new_distinct (name ∷ before) names p.1)

is_colon : (c : ℕ) → (c == 58) ≡ true → c ≡ 58
is_colon c e = grind (arith, nat_tests)

split_case : (b : Bool) (c : ℕ) (name : List ℕ) → (c == 58) ≡ b → (has_colon name ≡ true → name ≡ before_colon name ++ 58 ∷ behind_colon name) → has_colon (c ∷ name) ≡ true
    → c ∷ name ≡ before_colon (c ∷ name) ++ 58 ∷ behind_colon (c ∷ name)
split_case true c name e more h = rw e (ap (λ (d : ℕ). d ∷ name) (is_colon c e))
split_case false c name e more h = rw (e, one-add) (ap (λ (l : List ℕ). c ∷ l) (more (rw e at h)))

split_at_colon : (name : List ℕ) → has_colon name ≡ true → name ≡ before_colon name ++ 58 ∷ behind_colon name
split_at_colon [] h = absurd (false≢true h)
split_at_colon (c ∷ name) h = split_case (c == 58) c name refl (split_at_colon name) h

-- two declarations of one prefix are written alike
same_declaration : (a b : List ℕ) → is_xml_qname a ≡ true → is_xml_qname b ≡ true → is_declaration a ≡ true → is_declaration b ≡ true → declared_prefix a ≡ declared_prefix b → a ≡ b
unfolding is_declaration declared_prefix
same_declaration a b qa qb da db e = by (has_colon a) (has_colon b) refl refl (name_parts a qa).local (name_parts b qb).local da db e
  where
    both : (x y : List ℕ) → bytes_eq x (codes "xmlns") ≡ true → bytes_eq y (codes "xmlns") ≡ true → x ≡ y
    both x y h k = (bytes_eq-Decides x (codes "xmlns")).0 h ∙ sym ((bytes_eq-Decides y (codes "xmlns")).0 k)

    apart : (name : List ℕ) → is_xml_ncname name ≡ true → name ≡ [] → ⊥
    apart name h none = true≢false (sym (ap is_empty none) ∙ some_name name h)

    by : (ca cb : Bool) → has_colon a ≡ ca → has_colon b ≡ cb → is_xml_ncname (cond ca (behind_colon a) a) ≡ true → is_xml_ncname (cond cb (behind_colon b) b) ≡ true
        → cond ca (bytes_eq (before_colon a) (codes "xmlns")) (bytes_eq a (codes "xmlns")) ≡ true → cond cb (bytes_eq (before_colon b) (codes "xmlns")) (bytes_eq b (codes "xmlns")) ≡ true
        → cond ca (behind_colon a) [] ≡ cond cb (behind_colon b) [] → a ≡ b
    by true true ha hb la lb h k same =
        split_at_colon a ha ∙ ap₂ (λ (x y : List ℕ). x ++ 58 ∷ y) (both (before_colon a) (before_colon b) h k) same ∙ sym (split_at_colon b hb)
    by true false ha hb la lb h k same = absurd (apart (behind_colon a) la same)
    by false true ha hb la lb h k same = absurd (apart (behind_colon b) lb (sym same))
    by false false ha hb la lb h k same = both a b h k

abbrev written : List Pair → List (List ℕ)
written attrs = map (λ (a : Pair). a.0) attrs

abbrev prefixes : List Binding → List (List ℕ)
prefixes ds = map (λ (d : Binding). d.0) ds

-- a prefix that a name declares, where the name isn't among others, is declared by none of them
none_declares : (x : List ℕ) (attrs : List Pair) → is_xml_qname x ≡ true → is_declaration x ≡ true → ArePairs attrs → list_any (bytes_eq x) (written attrs) ≡ false
    → list_any (λ (a : Pair). is_declaration a.0 && bytes_eq (declared_prefix a.0) (declared_prefix x)) attrs ≡ false
none_declares x [] q d pairs h = refl
none_declares x (a ∷ attrs) q d pairs h =
    let apart = or_parts (bytes_eq x a.0) (list_any (bytes_eq x) (written attrs)) h in
    or_from _ _ (false_from_ne_true _ (differs apart.0)) (none_declares x attrs q d pairs.1 apart.1)
  where
    differs : bytes_eq x a.0 ≡ false → (is_declaration a.0 && bytes_eq (declared_prefix a.0) (declared_prefix x)) ≡ true → ⊥
    differs k both =
        let p = and_parts (is_declaration a.0) (bytes_eq (declared_prefix a.0) (declared_prefix x)) both in
        let same : a.0 ≡ x = same_declaration a.0 x pairs.0.named q p.0 d ((bytes_eq-Decides (declared_prefix a.0) (declared_prefix x)).0 p.1) in
        true≢false (sym ((bytes_eq-Decides x a.0).1 (sym same)) ∙ k)

-- no attribute declares the prefix
abbrev DeclareNot : List ℕ → List Pair → Type 0
DeclareNot prefix attrs = list_any (λ (a : Pair). is_declaration a.0 && bytes_eq (declared_prefix a.0) prefix) attrs ≡ false

none_kept : (prefix : List ℕ) (attrs : List Pair) → DeclareNot prefix attrs → list_any (bytes_eq prefix) (prefixes (kept_declarations attrs)) ≡ false
unfolding kept_declarations
none_kept prefix [] h = refl
none_kept prefix (a ∷ attrs) h =
    let apart = or_parts _ _ h in
    by (is_declaration a.0) (bytes_eq (declared_prefix a.0) (codes "xml")) apart.0 (none_kept prefix attrs apart.1)
  where
    swapped : (x y : List ℕ) → bytes_eq x y ≡ false → bytes_eq y x ≡ false
    swapped x y k = false_from_ne_true _ (λ e. true≢false (sym ((bytes_eq-Decides x y).1 (sym ((bytes_eq-Decides y x).0 e))) ∙ k))

    by : (declares is_xml : Bool) → (declares && bytes_eq (declared_prefix a.0) prefix) ≡ false → list_any (bytes_eq prefix) (prefixes (kept_declarations attrs)) ≡ false
        → list_any (bytes_eq prefix) (prefixes (cond (declares && not is_xml) (declared a ∷ kept_declarations attrs) (kept_declarations attrs))) ≡ false
    by true false k more = or_from _ _ (swapped (declared_prefix a.0) prefix k) more
    by true true k more = more
    by false is_xml k more = more

kept_distinct : (attrs : List Pair) → ArePairs attrs → are_distinct (written attrs) ≡ true → are_distinct (prefixes (kept_declarations attrs)) ≡ true
unfolding kept_declarations
kept_distinct [] pairs h = refl
kept_distinct (a ∷ attrs) pairs h =
    let p = and_parts (not (list_any (bytes_eq a.0) (written attrs))) (are_distinct (written attrs)) h in
    by (is_declaration a.0) (bytes_eq (declared_prefix a.0) (codes "xml")) refl (not-true _ p.0) (kept_distinct attrs pairs.1 p.1)
  where
    by : (declares is_xml : Bool) → is_declaration a.0 ≡ declares → list_any (bytes_eq a.0) (written attrs) ≡ false → are_distinct (prefixes (kept_declarations attrs)) ≡ true
        → are_distinct (prefixes (cond (declares && not is_xml) (declared a ∷ kept_declarations attrs) (kept_declarations attrs))) ≡ true
    by true false d k more = and_from _ _ (not_from_false _ (none_kept (declared_prefix a.0) attrs (none_declares a.0 attrs pairs.0.named d pairs.1 k))) more
    by true true d k more = more
    by false is_xml d k more = more

-- ---- one uri for each prefix

-- the uri is that of the prefix in the scope
abbrev Follows : Scope → Binding → Type 0
Follows scope binding = binding.1 ≡ or_empty (uri_of binding.0 scope)

abbrev EachFollows : Scope → List Binding → Type 0
EachFollows scope [] = ⊤
EachFollows scope (binding ∷ bindings) = Follows scope binding × EachFollows scope bindings

all_follow : (scope : Scope) (xs ys : List Binding) → EachFollows scope xs → EachFollows scope ys → EachFollows scope (xs ++ ys)
all_follow scope [] ys h k = k
all_follow scope (x ∷ xs) ys h k = (h.0, all_follow scope xs ys h.1 k)

one_uri_with : (scope : Scope) (a : Binding) (bindings : List Binding) → Follows scope a → EachFollows scope bindings → list_all (has_one_uri a) bindings ≡ true
one_uri_with scope a [] f h = refl
one_uri_with scope a (b ∷ bindings) f h = and_from _ _ (by (bytes_eq a.0 b.0) refl) (one_uri_with scope a bindings f h.1)
  where
    by : (same : Bool) → bytes_eq a.0 b.0 ≡ same → (not same || bytes_eq a.1 b.1) ≡ true
    by true e = (bytes_eq-Decides a.1 b.1).1 (f ∙ ap (λ (p : List ℕ). or_empty (uri_of p scope)) ((bytes_eq-Decides a.0 b.0).0 e) ∙ sym h.0)
    by false e = refl

one_uri : (scope : Scope) (bindings : List Binding) → EachFollows scope bindings → have_one_uri bindings ≡ true
one_uri scope [] h = refl
one_uri scope (binding ∷ bindings) h = and_from _ _ (one_uri_with scope binding bindings h.0 h.1) (one_uri scope bindings h.1)

-- a prefix that a tag doesn't declare stands for what it stood for
undeclared : (prefix : List ℕ) (attrs : List Pair) (scope : Scope) → DeclareNot prefix attrs → uri_of prefix (with_attrs attrs scope) ≡ uri_of prefix scope
unfolding with_attrs
undeclared prefix [] scope h = refl
undeclared prefix (a ∷ attrs) scope h =
    let apart = or_parts _ _ h in
    by (is_declaration a.0) apart.0 (undeclared prefix attrs ((declared_prefix a.0, a.1) ∷ scope) apart.1) (undeclared prefix attrs scope apart.1)
  where
    by : (declares : Bool) → (declares && bytes_eq (declared_prefix a.0) prefix) ≡ false → uri_of prefix (with_attrs attrs ((declared_prefix a.0, a.1) ∷ scope)) ≡ uri_of prefix ((declared_prefix a.0, a.1) ∷ scope)
        → uri_of prefix (with_attrs attrs scope) ≡ uri_of prefix scope → uri_of prefix (cond declares (with_attrs attrs ((declared_prefix a.0, a.1) ∷ scope)) (with_attrs attrs scope)) ≡ uri_of prefix scope
    by true k with_it without = with_it ∙ cond-false _ _ _ k
    by false k with_it without = without

kept_follow : (attrs : List Pair) (scope : Scope) → ArePairs attrs → are_distinct (written attrs) ≡ true → EachFollows (with_attrs attrs scope) (kept_declarations attrs)
unfolding with_attrs kept_declarations
kept_follow [] scope pairs h = tt
kept_follow (a ∷ attrs) scope pairs h =
    let p = and_parts (not (list_any (bytes_eq a.0) (written attrs))) (are_distinct (written attrs)) h in
    by (is_declaration a.0) (bytes_eq (declared_prefix a.0) (codes "xml")) refl (not-true _ p.0) (kept_follow attrs ((declared_prefix a.0, a.1) ∷ scope) pairs.1 p.1) (kept_follow attrs scope pairs.1 p.1)
  where
    own : is_declaration a.0 ≡ true → list_any (bytes_eq a.0) (written attrs) ≡ false → a.1 ≡ or_empty (uri_of (declared_prefix a.0) (with_attrs attrs ((declared_prefix a.0, a.1) ∷ scope)))
    own d k =
        sym (ap or_empty (undeclared (declared_prefix a.0) attrs ((declared_prefix a.0, a.1) ∷ scope) (none_declares a.0 attrs pairs.0.named d pairs.1 k)
        ∙ cond-true _ _ _ ((bytes_eq-Decides (declared_prefix a.0) (declared_prefix a.0)).1 refl)))

    by : (declares is_xml : Bool) → is_declaration a.0 ≡ declares → list_any (bytes_eq a.0) (written attrs) ≡ false
        → EachFollows (with_attrs attrs ((declared_prefix a.0, a.1) ∷ scope)) (kept_declarations attrs) → EachFollows (with_attrs attrs scope) (kept_declarations attrs)
        → EachFollows (cond declares (with_attrs attrs ((declared_prefix a.0, a.1) ∷ scope)) (with_attrs attrs scope)) (cond (declares && not is_xml) (declared a ∷ kept_declarations attrs) (kept_declarations attrs))
    by true false d k with_it without = (own d k, with_it)
    by true true d k with_it without = with_it
    by false is_xml d k with_it without = without

element_follows : (inside : Scope) (name : List ℕ) → is_none (element_uri inside name) ≡ false → Follows inside (binding_of (element_name inside name))
unfolding element_uri
element_follows inside name h = by (bytes_eq (prefix_of name) (codes "xmlns")) h
  where
    by : (xmlns : Bool) → is_none (cond xmlns None (uri_of (prefix_of name) inside)) ≡ false → or_empty (cond xmlns None (uri_of (prefix_of name) inside)) ≡ or_empty (uri_of (prefix_of name) inside)
    by true k = absurd (true≢false k)
    by false k = refl

attr_follows : (inside : Scope) (name : List ℕ) → is_empty (prefix_of name) ≡ false → Follows inside (binding_of (attr_name inside name))
unfolding attr_uri
attr_follows inside name h = by (has_colon name) h
  where
    by : (colon : Bool) → is_empty (cond colon (before_colon name) []) ≡ false → or_empty (cond colon (uri_of (before_colon name) inside) (Some [])) ≡ or_empty (uri_of (cond colon (before_colon name) []) inside)
    by true k = refl
    by false k = absurd (true≢false k)

attrs_follow : (inside : Scope) (attrs : List Pair) → EachFollows inside (map binding_of (prefixed inside attrs))
attrs_follow inside [] = tt
attrs_follow inside (a ∷ attrs) = by (is_empty (prefix_of a.0)) refl (attrs_follow inside attrs)
  where
    by : (no_prefix : Bool) → is_empty (prefix_of a.0) ≡ no_prefix → EachFollows inside (map binding_of (prefixed inside attrs))
        → EachFollows inside (map binding_of (cond (not no_prefix) (attr_name inside a.0 ∷ prefixed inside attrs) (prefixed inside attrs)))
    by true e more = more
    by false e more = (attr_follows inside a.0 e, more)

-- ---- a tag and its attributes

are_attrs : (inside : Scope) (attrs : List Pair) → list_all is_attr (map (attr_label inside) attrs) ≡ true
are_attrs inside [] = refl
are_attrs inside (a ∷ attrs) = are_attrs inside attrs

-- an element may have the attributes where the rules on them hold
owns_attrs : (label : Label) (attrs : List Label) → is_elem label ≡ true → list_all is_attr attrs ≡ true → are_distinct_names (map (λ (b : Label). b.name) attrs) ≡ true → binds_well label attrs ≡ true → owns label attrs ≡ true
owns_attrs label [] e a d u = or_right _ _ u
owns_attrs label (b ∷ attrs) e a d u = and_from _ _ (and_from _ _ (and_from _ _ e a) d) u

tag_binds_well : (scope : Scope) (name : List ℕ) (attrs : List Pair) → ArePairs attrs → are_distinct (written attrs) ≡ true → IsGoodTag (with_attrs attrs scope) name attrs
    → binds_well (tag_label (with_attrs attrs scope) name attrs) (attr_labels (with_attrs attrs scope) attrs) ≡ true
unfolding binds_well
tag_binds_well scope name attrs pairs differ tag =
    let inside : Scope = with_attrs attrs scope in
    let back : declarations_of (declarations_value (kept_declarations attrs)) ≡ kept_declarations attrs = declarations_back (kept_declarations attrs) (are_kept attrs pairs tag.bindings).no_zero in
    let named : List Binding = map binding_of (element_name inside name ∷ prefixed inside (plain_attrs attrs)) in
    and_from _ _ (ap (λ (ds : List Binding). are_distinct (prefixes ds)) back ∙ kept_distinct attrs pairs differ)
    (ap (λ (ds : List Binding). have_one_uri (ds ++ named)) back
    ∙ one_uri inside (kept_declarations attrs ++ named) (all_follow inside (kept_declarations attrs) named (kept_follow attrs scope pairs differ) (element_follows inside name tag.bound, attrs_follow inside (plain_attrs attrs))))

pub tag_owns : (scope : Scope) (name : List ℕ) (attrs : List Pair) → ArePairs attrs → are_distinct (written attrs) ≡ true → is_bad_tag (with_attrs attrs scope) name attrs ≡ false
    → owns (tag_label (with_attrs attrs scope) name attrs) (attr_labels (with_attrs attrs scope) attrs) ≡ true
tag_owns scope name attrs pairs differ h =
    let inside : Scope = with_attrs attrs scope in
    let tag = good_tag inside name attrs h in
    let plain : List Pair = plain_attrs attrs in
    owns_attrs (tag_label inside name attrs) (attr_labels inside attrs) refl (are_attrs inside plain) (distinct_names inside [] plain tag.differ) (tag_binds_well scope name attrs pairs differ tag)

-- the names and values of a tag are good, and so is the scope inside it
pub record IsTagSound (scope : Scope) (name : List ℕ) (attrs : List Pair) : Type 0 where
  pub inside_good : IsGoodScope (with_attrs attrs scope)
  pub label_good : is_good_label (tag_label (with_attrs attrs scope) name attrs) ≡ true
  pub attrs_good : list_all is_good_label (attr_labels (with_attrs attrs scope) attrs) ≡ true

tag_spells : (attrs : List Pair) → AreKept attrs → spells_declarations (declarations_value (kept_declarations attrs)) ≡ true
unfolding spells_declarations
tag_spells attrs kept =
    let back = declarations_back (kept_declarations attrs) kept.no_zero in
    let value : List ℕ = declarations_value (kept_declarations attrs) in
    and_from _ _ ((bytes_eq-Decides (declarations_value (declarations_of value)) value).1 (ap declarations_value back)) (ap (list_all is_good_declaration) back ∙ kept.good)

pub tag_sound : (scope : Scope) (name : List ℕ) (attrs : List Pair) → is_xml_qname name ≡ true → ArePairs attrs → IsGoodScope scope → is_bad_tag (with_attrs attrs scope) name attrs ≡ false → IsTagSound scope name attrs
tag_sound scope name attrs q pairs g h =
    let tag = good_tag (with_attrs attrs scope) name attrs h in
    let inside = with_attrs_good attrs scope pairs tag.bindings g in
    let named = element_named (with_attrs attrs scope) name q inside tag.bound in
    record {
      inside_good = inside;
      label_good = and_from _ _ (and_from _ _ (and_from _ _ named.good (tag_spells attrs (are_kept attrs pairs tag.bindings))) (are_chars_from _ named.uri_text)) refl;
      attrs_good = good_attr_labels (with_attrs attrs scope) (plain_attrs attrs) inside (are_plain attrs pairs) tag.all_bound;
    }

-- the names of written attributes differ
pub written_differ : (attrs : List Attr) → are_new [] (names_of attrs) ≡ true → are_distinct (written (map pair_of attrs)) ≡ true
written_differ attrs h = ap are_distinct (same attrs) ∙ new_distinct [] (names_of attrs) h
  where
    same : (attrs : List Attr) → written (map pair_of attrs) ≡ names_of attrs
    same [] = refl
    same (a ∷ attrs) = ap (λ (names : List (List ℕ)). a.name ∷ names) (same attrs)
