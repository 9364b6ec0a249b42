-- Each part of a text whose characters are Chars is such a text: markup is ASCII at its ends.
use Rattle.std.proofs.Common.{◌≡◌, ℕ, true, List, [], ◌∷◌, ◌++◌, Option, Some, None, refl, subst, arith, append_assoc, ltb-true}
use Rattle.std.specs.Prelude.{⊤, codes}
use Rattle.std.specs.List.{list_all, flat_map}
use Rattle.std.specs.Str.{IsUtf8, is_utf8}
use Rattle.std.specs.Char.{is_ascii, is_ascii_digit, is_ascii_hexdigit}
use Rattle.std.proofs.lemmas.Bool.{and_parts, false≢true}
use Rattle.std.proofs.lemmas.Bool.Decides.{nat_tests}
use Rattle.std.proofs.lemmas.Str.{IsUtf8-append, IsUtf8-from_is_utf8}
use Rattle.tree_model.specs.Sound.{are_chars, is_path_char, is_path}
use Rattle.tree_model.specs.XmlChars.{is_space, is_xml_char, is_name_run, is_xml_qname}
use Rattle.tree_model.specs.XmlSource.{Part, run, entity, decimal, hexadecimal, part_text, parts_text, Attr, attr_head, attr_source, Content, done, element, empty, part, cdata, comm, pi, start_source, close_source, pi_source, content_text, if_text, Doctype, doctype_text, Source, head_text, before_root, source_text}
use Rattle.tree_model.specs.XmlGood.{AreSpace, IsGap, is_quote, is_decimal, is_hexadecimal, IsReference, NoRunFirst, IsValue, IsAttr, EachIsAttr, IsTag, IsPi, is_pi_target, NoRunAfter, IsGood, IsRoot, IsMisc, IsBehind, IsSource}
use Rattle.tree_model.proofs.XmlUtf8.{begins_ascii, ascii_byte, utf8_ascii, all_weaker, text_ascii, are_chars_from, text_ncname, IsTextOfChars, AreTexts, text_cut, text_behind}

-- ---- ASCII at the ends of markup

space_is_ascii : (c : ℕ) → is_space c ≡ true → is_ascii c ≡ true
space_is_ascii c h = grind (arith, nat_tests)

quote_is_ascii : (c : ℕ) → is_quote c ≡ true → is_ascii c ≡ true
quote_is_ascii c h = grind (arith, nat_tests)

digit_is_ascii : (c : ℕ) → is_ascii_digit c ≡ true → is_ascii c ≡ true
digit_is_ascii c h = grind (arith, nat_tests)

hexdigit_is_ascii : (c : ℕ) → is_ascii_hexdigit c ≡ true → is_ascii c ≡ true
hexdigit_is_ascii c h = grind (arith, nat_tests)

utf8_space : (bytes : List ℕ) → AreSpace bytes → IsUtf8 bytes
utf8_space bytes h = utf8_ascii bytes (all_weaker is_space is_ascii space_is_ascii bytes h)

utf8_byte : (c : ℕ) → is_ascii c ≡ true → IsUtf8 (c ∷ [])
utf8_byte c h = ascii_byte c (ltb-true c 128 h)

utf8_qname : (name : List ℕ) → is_xml_qname name ≡ true → IsUtf8 name
unfolding is_xml_qname
utf8_qname name h =
    let run_and_local = and_parts _ _ h in
    let named = and_parts (is_name_run name) _ run_and_local.0 in
    IsUtf8-from_is_utf8 name (and_parts _ (is_utf8 name) named.0).1

begins_append : (a b : List ℕ) → begins_ascii a ≡ true → begins_ascii b ≡ true → begins_ascii (a ++ b) ≡ true
begins_append [] b h k = k
begins_append (c ∷ a) b h k = h

-- white space, or none, before an ASCII byte
begins_space : (gap : List ℕ) (c : ℕ) (more rest : List ℕ) → AreSpace gap → is_ascii c ≡ true → begins_ascii ((gap ++ c ∷ more) ++ rest) ≡ true
begins_space [] c more rest h k = k
begins_space (s ∷ gap) c more rest h k = space_is_ascii s (and_parts (is_space s) (list_all is_space gap) h).0

-- ---- references and runs

abbrev pub IsPartText : Part → Type 0
IsPartText (run bytes) = IsTextOfChars bytes
IsPartText reference = ⊤

abbrev pub ArePartTexts : List Part → Type 0
ArePartTexts [] = ⊤
ArePartTexts (p ∷ parts) = IsPartText p × ArePartTexts parts

utf8_reference : (p : Part) → IsReference p → IsUtf8 (part_text p)
unfolding is_decimal is_hexadecimal
utf8_reference (run bytes) h = absurd h
utf8_reference (entity name) h = IsUtf8-append (38 ∷ []) (name ++ 59 ∷ []) (utf8_byte 38 refl) (IsUtf8-append name (59 ∷ []) ((text_ncname name h).utf8) (utf8_byte 59 refl))
utf8_reference (decimal digits) h =
    let ascii = all_weaker is_ascii_digit is_ascii digit_is_ascii digits (and_parts _ _ (and_parts _ _ h).0).1 in
    IsUtf8-append (38 ∷ 35 ∷ []) (digits ++ 59 ∷ []) (utf8_ascii (38 ∷ 35 ∷ []) refl) (IsUtf8-append digits (59 ∷ []) (utf8_ascii digits ascii) (utf8_byte 59 refl))
utf8_reference (hexadecimal digits) h =
    let ascii = all_weaker is_ascii_hexdigit is_ascii hexdigit_is_ascii digits (and_parts _ _ (and_parts _ _ h).0).1 in
    IsUtf8-append (38 ∷ 35 ∷ 120 ∷ []) (digits ++ 59 ∷ []) (utf8_ascii (38 ∷ 35 ∷ 120 ∷ []) refl) (IsUtf8-append digits (59 ∷ []) (utf8_ascii digits ascii) (utf8_byte 59 refl))

begins_parts : (parts : List Part) → NoRunFirst parts → begins_ascii (parts_text parts) ≡ true
begins_parts [] h = refl
begins_parts (run bytes ∷ parts) h = absurd h
begins_parts (entity name ∷ parts) h = refl
begins_parts (decimal digits ∷ parts) h = refl
begins_parts (hexadecimal digits ∷ parts) h = refl

part_texts : (delim : ℕ) (parts : List Part) → IsValue delim parts → IsTextOfChars (parts_text parts) → ArePartTexts parts
part_texts delim [] h t = tt
part_texts delim (run bytes ∷ parts) h t =
    let both = text_cut bytes (parts_text parts) (begins_parts parts h.1) t in
    (both.first, part_texts delim parts h.2 both.second)
part_texts delim (entity name ∷ parts) h t = (tt, part_texts delim parts h.2 (text_behind (part_text (entity name)) (parts_text parts) (utf8_reference (entity name) h.0) t))
part_texts delim (decimal digits ∷ parts) h t = (tt, part_texts delim parts h.2 (text_behind (part_text (decimal digits)) (parts_text parts) (utf8_reference (decimal digits) h.0) t))
part_texts delim (hexadecimal digits ∷ parts) h t =
    (tt, part_texts delim parts h.2 (text_behind (part_text (hexadecimal digits)) (parts_text parts) (utf8_reference (hexadecimal digits) h.0) t))

-- ---- tags

abbrev pub AreValueTexts : List Attr → Type 0
AreValueTexts [] = ⊤
AreValueTexts (a ∷ attrs) = ArePartTexts a.value × AreValueTexts attrs

utf8_head : (a : Attr) → IsAttr a → IsUtf8 (attr_head a)
utf8_head a h =
    IsUtf8-append a.gap _ (utf8_space a.gap h.gap.1)
    (IsUtf8-append a.name _ (utf8_qname a.name h.name)
    (IsUtf8-append a.before _ (utf8_space a.before h.before)
    (IsUtf8-append (61 ∷ []) _ (utf8_byte 61 refl)
    (IsUtf8-append a.behind _ (utf8_space a.behind h.behind) (utf8_byte a.delim (quote_is_ascii a.delim h.delim))))))

begins_attr : (gap name rest more : List ℕ) → IsGap gap → begins_ascii (((gap ++ name) ++ rest) ++ more) ≡ true
begins_attr [] name rest more h = absurd (false≢true h.0)
begins_attr (c ∷ gap) name rest more h = space_is_ascii c h.0

begins_attrs : (attrs : List Attr) → EachIsAttr attrs → begins_ascii (flat_map attr_source attrs) ≡ true
begins_attrs [] h = refl
begins_attrs (a ∷ attrs) h = begins_attr a.gap (a.name ++ (a.before ++ 61 ∷ (a.behind ++ a.delim ∷ []))) (parts_text a.value ++ a.delim ∷ []) (flat_map attr_source attrs) h.0.gap

value_texts : (attrs : List Attr) → EachIsAttr attrs → IsTextOfChars (flat_map attr_source attrs) → AreValueTexts attrs
value_texts [] h t = tt
value_texts (a ∷ attrs) h t =
    let both = text_cut (attr_source a) (flat_map attr_source attrs) (begins_attrs attrs h.1) t in
    let value = text_behind (attr_head a) (parts_text a.value ++ a.delim ∷ []) (utf8_head a h.0) both.first in
    (part_texts a.delim a.value h.0.value (text_cut (parts_text a.value) (a.delim ∷ []) (quote_is_ascii a.delim h.0.delim) value).first, value_texts attrs h.1 both.second)

-- a tag, and what follows it
record IsTagText (attrs : List Attr) (rest : List ℕ) : Type 0 where
  values : AreValueTexts attrs
  rest_text : IsTextOfChars rest

tag_text : (name : List ℕ) (attrs : List Attr) (gap end rest : List ℕ) → IsTag name attrs gap → begins_ascii (end ++ rest) ≡ true → IsUtf8 end → IsTextOfChars (start_source name attrs ++ (end ++ rest)) → IsTagText attrs rest
tag_text name attrs gap end rest h begins u t =
    let both = text_cut (start_source name attrs) (end ++ rest) begins t in
    let attrs_text = text_behind (60 ∷ name) (flat_map attr_source attrs) (IsUtf8-append (60 ∷ []) name (utf8_byte 60 refl) (utf8_qname name h.named)) both.first in
    record { values = value_texts attrs h.each attrs_text; rest_text = text_behind end rest u both.second }

utf8_close : (name last : List ℕ) → is_xml_qname name ≡ true → AreSpace last → IsUtf8 (close_source name last)
utf8_close name last h k =
    IsUtf8-append (60 ∷ 47 ∷ []) (name ++ (last ++ 62 ∷ [])) (utf8_ascii (60 ∷ 47 ∷ []) refl)
    (IsUtf8-append name (last ++ 62 ∷ []) (utf8_qname name h) (IsUtf8-append last (62 ∷ []) (utf8_space last k) (utf8_byte 62 refl)))

-- ---- content

abbrev pub HasTexts : Content → Type 0
HasTexts done = ⊤
HasTexts (element name attrs gap inside last more) = AreValueTexts attrs × HasTexts inside × HasTexts more
HasTexts (empty name attrs gap more) = AreValueTexts attrs × HasTexts more
HasTexts (part p more) = IsPartText p × HasTexts more
HasTexts (cdata bytes more) = IsTextOfChars bytes × HasTexts more
HasTexts (comm bytes more) = IsTextOfChars bytes × HasTexts more
HasTexts (pi target gap bytes more) = IsTextOfChars bytes × HasTexts more

begins_after : (bytes : List ℕ) (more : Content) → NoRunAfter (run bytes) more → begins_ascii (content_text more) ≡ true
begins_after bytes done h = refl
begins_after bytes (element name attrs gap inside last more) h = refl
begins_after bytes (empty name attrs gap more) h = refl
begins_after bytes (part (run others) more) h = absurd h
begins_after bytes (part (entity name) more) h = refl
begins_after bytes (part (decimal digits) more) h = refl
begins_after bytes (part (hexadecimal digits) more) h = refl
begins_after bytes (cdata others more) h = refl
begins_after bytes (comm others more) h = refl
begins_after bytes (pi target gap others more) h = refl

-- bytes between two marks, and what follows
between : (front bytes back rest : List ℕ) → IsUtf8 front → IsUtf8 back → begins_ascii (back ++ rest) ≡ true → IsTextOfChars ((front ++ (bytes ++ back)) ++ rest) → AreTexts bytes rest
between front bytes back rest u v begins t =
    let same : (front ++ (bytes ++ back)) ++ rest ≡ front ++ (bytes ++ (back ++ rest)) = simp append_assoc in
    let behind = text_behind front (bytes ++ (back ++ rest)) u (subst IsTextOfChars same t) in
    let both = text_cut bytes (back ++ rest) begins behind in
    record { first = both.first; second = text_behind back rest v both.second }

utf8_pi : (target gap bytes : List ℕ) → IsPi target gap bytes → IsUtf8 (codes "<?" ++ (target ++ gap))
unfolding is_pi_target
utf8_pi target gap bytes h =
    IsUtf8-append (codes "<?") (target ++ gap) (utf8_ascii (codes "<?") refl) (IsUtf8-append target gap ((text_ncname target (and_parts _ _ h.named).0).utf8) (utf8_space gap h.blank))

pi_texts : (target gap bytes rest : List ℕ) → IsPi target gap bytes → IsTextOfChars (pi_source target gap bytes ++ rest) → AreTexts bytes rest
pi_texts target gap bytes rest h t =
    let same : pi_source target gap bytes ++ rest ≡ ((codes "<?" ++ (target ++ gap)) ++ (bytes ++ codes "?>")) ++ rest = simp append_assoc in
    between (codes "<?" ++ (target ++ gap)) bytes (codes "?>") rest (utf8_pi target gap bytes h) (utf8_ascii (codes "?>") refl) refl (subst IsTextOfChars same t)

pub content_texts : (g : Content) → IsGood g → IsTextOfChars (content_text g) → HasTexts g
content_texts done h t = tt
content_texts (element name attrs gap inside last more) h t =
    let rest : List ℕ = content_text inside ++ (close_source name last ++ content_text more) in
    let tag = tag_text name attrs gap (gap ++ 62 ∷ []) rest h.0 (begins_space gap 62 [] rest h.0.blank refl) (IsUtf8-append gap (62 ∷ []) (utf8_space gap h.0.blank) (utf8_byte 62 refl)) t in
    let both = text_cut (content_text inside) (close_source name last ++ content_text more) refl tag.rest_text in
    (tag.values, content_texts inside h.1 both.first, content_texts more h.3 (text_behind (close_source name last) (content_text more) (utf8_close name last h.0.named h.2) both.second))
content_texts (empty name attrs gap more) h t =
    let end : List ℕ = gap ++ 47 ∷ 62 ∷ [] in
    let tag = tag_text name attrs gap end (content_text more) h.0 (begins_space gap 47 (62 ∷ []) (content_text more) h.0.blank refl) (IsUtf8-append gap (47 ∷ 62 ∷ []) (utf8_space gap h.0.blank) (utf8_ascii (47 ∷ 62 ∷ []) refl)) t in
    (tag.values, content_texts more h.1 tag.rest_text)
content_texts (part (run bytes) more) h t =
    let both = text_cut bytes (content_text more) (begins_after bytes more h.1) t in
    (both.first, content_texts more h.2 both.second)
content_texts (part (entity name) more) h t = (tt, content_texts more h.2 (text_behind (part_text (entity name)) (content_text more) (utf8_reference (entity name) h.0) t))
content_texts (part (decimal digits) more) h t = (tt, content_texts more h.2 (text_behind (part_text (decimal digits)) (content_text more) (utf8_reference (decimal digits) h.0) t))
content_texts (part (hexadecimal digits) more) h t =
    (tt, content_texts more h.2 (text_behind (part_text (hexadecimal digits)) (content_text more) (utf8_reference (hexadecimal digits) h.0) t))
content_texts (cdata bytes more) h t =
    let both = between (codes "<![CDATA[") bytes (codes "]]>") (content_text more) (utf8_ascii (codes "<![CDATA[") refl) (utf8_ascii (codes "]]>") refl) refl t in
    (both.first, content_texts more h.1 both.second)
content_texts (comm bytes more) h t =
    let both = between (codes "<!--") bytes (codes "-->") (content_text more) (utf8_ascii (codes "<!--") refl) (utf8_ascii (codes "-->") refl) refl t in
    (both.first, content_texts more h.1 both.second)
content_texts (pi target gap bytes more) h t =
    let both = pi_texts target gap bytes (content_text more) h.0 t in
    (both.first, content_texts more h.1 both.second)

-- ---- paths

-- the characters of paths are ASCII, and Chars
path_char_is_ascii : (c : ℕ) → is_path_char c ≡ true → is_ascii c ≡ true
path_char_is_ascii c h = grind (arith, nat_tests)

path_char_is_char : (c : ℕ) → is_path_char c ≡ true → is_xml_char c ≡ true
path_char_is_char c h = grind (arith, nat_tests)

-- the test of the characters, among those of a path
each_path_char : (path : List ℕ) → is_path path ≡ true → list_all is_path_char path ≡ true
each_path_char path h =
    let all_but_double = and_parts _ _ h in
    let all_but_start = and_parts _ _ all_but_double.0 in
    (and_parts _ _ all_but_start.0).1

pub path_chars : (path : List ℕ) → is_path path ≡ true → are_chars path ≡ true
path_chars path h =
    let each = each_path_char path h in
    are_chars_from path (text_ascii path (all_weaker is_path_char is_ascii path_char_is_ascii path each) (all_weaker is_path_char is_xml_char path_char_is_char path each))

-- ---- a document

begins_blank : (bytes rest : List ℕ) → AreSpace bytes → begins_ascii rest ≡ true → begins_ascii (bytes ++ rest) ≡ true
begins_blank [] rest h k = k
begins_blank (c ∷ bytes) rest h k = space_is_ascii c (and_parts (is_space c) (list_all is_space bytes) h).0

begins_misc : (g : Content) → IsMisc g → begins_ascii (content_text g) ≡ true
begins_misc done h = refl
begins_misc (element name attrs gap inside last more) h = refl
begins_misc (empty name attrs gap more) h = refl
begins_misc (part (run bytes) more) h = begins_blank bytes (content_text more) h.0 (begins_misc more h.1)
begins_misc (part (entity name) more) h = refl
begins_misc (part (decimal digits) more) h = refl
begins_misc (part (hexadecimal digits) more) h = refl
begins_misc (cdata bytes more) h = refl
begins_misc (comm bytes more) h = refl
begins_misc (pi target gap bytes more) h = refl

begins_root : (g : Content) (rest : List ℕ) → IsRoot g → begins_ascii (content_text g ++ rest) ≡ true
begins_root done rest h = absurd h
begins_root (element name attrs gap inside last more) rest h = refl
begins_root (empty name attrs gap more) rest h = refl
begins_root (part p more) rest h = absurd h
begins_root (cdata bytes more) rest h = absurd h
begins_root (comm bytes more) rest h = absurd h
begins_root (pi target gap bytes more) rest h = absurd h

begins_behind : (d : Option Doctype) (g : Content) → IsBehind d g → begins_ascii (content_text g) ≡ true
begins_behind None done h = refl
begins_behind None (element name attrs gap inside last more) h = refl
begins_behind None (empty name attrs gap more) h = refl
begins_behind None (part p more) h = absurd h
begins_behind None (cdata bytes more) h = refl
begins_behind None (comm bytes more) h = refl
begins_behind None (pi target gap bytes more) h = refl
begins_behind (Some d) g h = begins_misc g h

begins_doctype : (d : Option Doctype) → begins_ascii (if_text doctype_text d) ≡ true
begins_doctype None = refl
begins_doctype (Some d) = refl

pub record AreSourceTexts (d : Source) : Type 0 where
  pub first : HasTexts d.first
  pub second : HasTexts d.second
  pub root : HasTexts d.root
  pub last : HasTexts d.last

pub source_texts : (d : Source) → IsSource d → IsUtf8 (source_text d) → AreSourceTexts d
source_texts d h u =
    let behind_first : List ℕ = if_text doctype_text d.doctype ++ content_text d.second in
    let second_begins = begins_behind d.doctype d.second h.second_misc in
    let doctype_begins = begins_append (if_text doctype_text d.doctype) (content_text d.second) (begins_doctype d.doctype) second_begins in
    let whole = text_cut (before_root d) (content_text d.root ++ content_text d.last) (begins_root d.root (content_text d.last) h.one_root) (record { utf8 = u; chars = h.chars }) in
    let ends = text_cut (content_text d.root) (content_text d.last) (begins_misc d.last h.last_misc) whole.second in
    let head = text_cut (head_text d) (content_text d.first ++ behind_first) (begins_append (content_text d.first) behind_first (begins_misc d.first h.first_misc) doctype_begins) whole.first in
    let first = text_cut (content_text d.first) behind_first doctype_begins head.second in
    let second = text_cut (if_text doctype_text d.doctype) (content_text d.second) second_begins first.second in
    record {
      first = content_texts d.first h.first_good first.first;
      second = content_texts d.second h.second_good second.second;
      root = content_texts d.root h.root_good ends.first;
      last = content_texts d.last h.last_good ends.second;
    }
