-- What each part of a cut text must keep.
use Rattle.std.specs.Prelude.{◌≡◌, ℕ, ◌+◌, ◌*◌, Bool, true, false, not, ◌&&◌, ◌||◌, ◌==◌, List, [], ◌∷◌, map, Option, Some, None, ⊤, codes}
use Rattle.std.specs.List.{list_all, list_any}
use Rattle.std.specs.Str.{bytes_eq, chars}
use Rattle.std.specs.Char.{is_ascii_digit, is_ascii_hexdigit, is_ascii_alphabetic, to_ascii_lowercase, digit_value}
use Rattle.tree_model.specs.XmlChars.{is_space, is_xml_char, is_xml_ncname, is_xml_qname, first_is, has_word, is_free}
use Rattle.tree_model.specs.XmlSource.{Part, run, entity, decimal, hexadecimal, Attr, Content, done, element, empty, part, cdata, comm, pi, Setting, Decl, Literal, External, Doctype, Source, source_text}

abbrev pub AreSpace : List ℕ → Type 0
AreSpace bytes = list_all is_space bytes ≡ true

-- some white space
abbrev pub IsGap : List ℕ → Type 0
IsGap bytes = (first_is is_space bytes ≡ true) × AreSpace bytes

abbrev pub is_quote : ℕ → Bool
is_quote c = c == 34 || c == 39

-- ---- references

-- the number that digits spell in a base
abbrev pub number_from : ℕ → ℕ → List ℕ → ℕ
number_from base n [] = n
number_from base n (d ∷ digits) = number_from base (n * base + digit_value d) digits

unfoldable pub is_decimal : List ℕ → Bool
is_decimal digits = first_is is_ascii_digit digits && list_all is_ascii_digit digits && is_xml_char (number_from 10 0 digits)

unfoldable pub is_hexadecimal : List ℕ → Bool
is_hexadecimal digits = first_is is_ascii_hexdigit digits && list_all is_ascii_hexdigit digits && is_xml_char (number_from 16 0 digits)

-- ---- runs

abbrev pub in_value : ℕ → ℕ → Bool
in_value delim c = not (c == 60 || c == 38 || c == delim)

abbrev pub in_data : ℕ → Bool
in_data c = not (c == 60 || c == 38)

-- a run isn't empty, and each byte passes
abbrev pub IsRun : (ℕ → Bool) → List ℕ → Type 0
IsRun passes bytes = (first_is passes bytes ≡ true) × (list_all passes bytes ≡ true)

abbrev pub IsReference : Part → Type 0
IsReference (run bytes) = ⊥
IsReference (entity name) = is_xml_ncname name ≡ true
IsReference (decimal digits) = is_decimal digits ≡ true
IsReference (hexadecimal digits) = is_hexadecimal digits ≡ true

-- in the value of an attribute
abbrev pub IsValuePart : ℕ → Part → Type 0
IsValuePart delim (run bytes) = IsRun (in_value delim) bytes
IsValuePart delim reference = IsReference reference

-- in content, where ]]> can't stand
abbrev pub IsDataPart : Part → Type 0
IsDataPart (run bytes) = IsRun in_data bytes × (has_word (codes "]]>") bytes ≡ false)
IsDataPart reference = IsReference reference

-- a run ends at no other
abbrev pub NoRunFirst : List Part → Type 0
NoRunFirst (run bytes ∷ parts) = ⊥
NoRunFirst parts = ⊤

abbrev pub EndsBefore : Part → List Part → Type 0
EndsBefore (run bytes) parts = NoRunFirst parts
EndsBefore reference parts = ⊤

abbrev pub IsValue : ℕ → List Part → Type 0
IsValue delim [] = ⊤
IsValue delim (p ∷ parts) = IsValuePart delim p × EndsBefore p parts × IsValue delim parts

-- ---- tags

pub record IsAttr (a : Attr) : Type 0 where
  pub gap : IsGap a.gap
  pub name : is_xml_qname a.name ≡ true
  pub before : AreSpace a.before
  pub behind : AreSpace a.behind
  pub delim : is_quote a.delim ≡ true
  pub value : IsValue a.delim a.value

abbrev pub EachIsAttr : List Attr → Type 0
EachIsAttr [] = ⊤
EachIsAttr (a ∷ attrs) = IsAttr a × EachIsAttr attrs

abbrev pub is_in : List ℕ → List (List ℕ) → Bool
is_in name names = list_any (λ other. bytes_eq name other) names

-- none of the names is among those before it
abbrev pub are_new : List (List ℕ) → List (List ℕ) → Bool
are_new before [] = true
are_new before (name ∷ names) = not (is_in name before) && are_new (name ∷ before) names

abbrev pub names_of : List Attr → List (List ℕ)
names_of attrs = map (λ (a : Attr). a.name) attrs

-- no two attributes are written alike
pub record IsTag (name : List ℕ) (written : List Attr) (gap : List ℕ) : Type 0 where
  pub named : is_xml_qname name ≡ true
  pub each : EachIsAttr written
  pub differ : are_new [] (names_of written) ≡ true
  pub blank : AreSpace gap

-- ---- comments, instructions, content

abbrev pub IsComm : List ℕ → Type 0
IsComm bytes = is_free (codes "--") bytes ≡ true

-- a target is no `xml` in any letter case
unfoldable pub is_pi_target : List ℕ → Bool
is_pi_target target = is_xml_ncname target && not (bytes_eq (map to_ascii_lowercase target) (codes "xml"))

-- the rest begins behind the whole white space; without white space there is none
abbrev pub IsRest : List ℕ → List ℕ → Type 0
IsRest [] bytes = bytes ≡ []
IsRest (c ∷ gap) bytes = first_is is_space bytes ≡ false

pub record IsPi (target gap bytes : List ℕ) : Type 0 where
  pub named : is_pi_target target ≡ true
  pub blank : AreSpace gap
  pub rest : IsRest gap bytes
  pub ends : is_free (codes "?>") bytes ≡ true

abbrev pub NoRunAfter : Part → Content → Type 0
NoRunAfter (run bytes) (part (run more) rest) = ⊥
NoRunAfter p rest = ⊤

abbrev pub IsGood : Content → Type 0
IsGood done = ⊤
IsGood (element name attrs gap inside last more) = IsTag name attrs gap × IsGood inside × AreSpace last × IsGood more
IsGood (empty name attrs gap more) = IsTag name attrs gap × IsGood more
IsGood (part p more) = IsDataPart p × NoRunAfter p more × IsGood more
IsGood (cdata bytes more) = (is_free (codes "]]>") bytes ≡ true) × IsGood more
IsGood (comm bytes more) = IsComm bytes × IsGood more
IsGood (pi target gap bytes more) = IsPi target gap bytes × IsGood more

-- one element, and nothing behind it
abbrev pub IsRoot : Content → Type 0
IsRoot (element name attrs gap inside last done) = ⊤
IsRoot (empty name attrs gap done) = ⊤
IsRoot other = ⊥

-- comments, instructions and white space alone (Misc, section 2.8)
abbrev pub IsMisc : Content → Type 0
IsMisc done = ⊤
IsMisc (part (run bytes) more) = AreSpace bytes × IsMisc more
IsMisc (comm bytes more) = IsMisc more
IsMisc (pi target gap bytes more) = IsMisc more
IsMisc other = ⊥

-- ---- what stands before the root

pub record IsSetting (passes : List ℕ → Bool) (s : Setting) : Type 0 where
  pub gap : IsGap s.gap
  pub before : AreSpace s.before
  pub behind : AreSpace s.behind
  pub delim : is_quote s.delim ≡ true
  pub value : passes s.value ≡ true

abbrev pub IfThere : {A : Type 0} → (A → Type 0) → Option A → Type 0
IfThere P None = ⊤
IfThere P (Some x) = P x

unfoldable pub is_version : List ℕ → Bool
is_version (a ∷ b ∷ c ∷ digits) = a == 49 && b == 46 && is_ascii_digit c && list_all is_ascii_digit digits
is_version rest = false

abbrev pub is_encoding_char : ℕ → Bool
is_encoding_char c = is_ascii_alphabetic c || is_ascii_digit c || c == 46 || c == 95 || c == 45

unfoldable pub is_encoding : List ℕ → Bool
is_encoding value = first_is is_ascii_alphabetic value && list_all is_encoding_char value

unfoldable pub is_yes_or_no : List ℕ → Bool
is_yes_or_no value = bytes_eq value (codes "yes") || bytes_eq value (codes "no")

pub record IsDecl (d : Decl) : Type 0 where
  pub version : IsSetting is_version d.version
  pub encoding : IfThere (IsSetting is_encoding) d.encoding
  pub standalone : IfThere (IsSetting is_yes_or_no) d.standalone
  pub blank : AreSpace d.gap

-- each character passes and isn't the quote
pub record IsLiteral (passes : ℕ → Bool) (q : Literal) : Type 0 where
  pub gap : IsGap q.gap
  pub delim : is_quote q.delim ≡ true
  pub value : list_all (λ c. passes c && not (c == q.delim)) q.value ≡ true

unfoldable pub is_pubid_char : ℕ → Bool
is_pubid_char c = is_ascii_alphabetic c || is_ascii_digit c || list_any (λ d. c == d) (32 ∷ 13 ∷ 10 ∷ codes "-'()+,./:=?;!*#@$_%")

abbrev pub is_any : ℕ → Bool
is_any c = true

pub record IsExternal (e : External) : Type 0 where
  pub gap : IsGap e.gap
  pub pubid : IfThere (IsLiteral is_pubid_char) e.pubid
  pub system : IsLiteral is_any e.system

pub record IsDoctype (d : Doctype) : Type 0 where
  pub gap : IsGap d.gap
  pub named : is_xml_qname d.name ≡ true
  pub external : IfThere IsExternal d.external
  pub blank : AreSpace d.last

-- without a DOCTYPE nothing stands behind it
abbrev pub IsBehind : Option Doctype → Content → Type 0
IsBehind None done = ⊤
IsBehind None more = ⊥
IsBehind (Some d) more = IsMisc more

-- each character of the text is a Char
abbrev pub AreChars : List ℕ → Type 0
AreChars bytes = list_all is_xml_char (chars bytes) ≡ true

-- a well-formed document, where the names of entities are left free (section 2.1)
pub record IsSource (d : Source) : Type 0 where
  pub decl : IfThere IsDecl d.decl
  pub first_misc : IsMisc d.first
  pub first_good : IsGood d.first
  pub doctype : IfThere IsDoctype d.doctype
  pub second_misc : IsBehind d.doctype d.second
  pub second_good : IsGood d.second
  pub one_root : IsRoot d.root
  pub root_good : IsGood d.root
  pub last_misc : IsMisc d.last
  pub last_good : IsGood d.last
  pub chars : AreChars (source_text d)
