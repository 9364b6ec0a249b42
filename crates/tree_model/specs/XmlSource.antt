-- The text of a document, cut as the productions of XML 1.0 cut it. Nothing is left out: each `.._text` gives the bytes back.
use Rattle.std.specs.Prelude.{ℕ, Bool, true, false, List, [], ◌∷◌, ◌++◌, Option, Some, None, codes}
use Rattle.std.specs.List.{flat_map}

-- a reference (section 4.1), or a run of other characters that is as long as it can be
pub data Part : Type 0 where
  run : (bytes : List ℕ) → Part
  entity : (name : List ℕ) → Part
  decimal : (digits : List ℕ) → Part
  hexadecimal : (digits : List ℕ) → Part

abbrev pub part_text : Part → List ℕ
part_text (run bytes) = bytes
part_text (entity name) = 38 ∷ (name ++ 59 ∷ [])
part_text (decimal digits) = 38 ∷ 35 ∷ (digits ++ 59 ∷ [])
part_text (hexadecimal digits) = 38 ∷ 35 ∷ 120 ∷ (digits ++ 59 ∷ [])

abbrev pub parts_text : List Part → List ℕ
parts_text parts = flat_map part_text parts

-- an attribute behind white space, with white space round its `=`, and its value between two quotes that are alike (section 3.1)
pub record Attr : Type 0 where
  pub gap : List ℕ
  pub name : List ℕ
  pub before : List ℕ
  pub behind : List ℕ
  pub delim : ℕ
  pub value : List Part

abbrev pub attr_head : Attr → List ℕ
attr_head a = a.gap ++ (a.name ++ (a.before ++ 61 ∷ (a.behind ++ a.delim ∷ [])))

abbrev pub attr_source : Attr → List ℕ
attr_source a = attr_head a ++ (parts_text a.value ++ a.delim ∷ [])

-- what stands in an element (content, section 3.1), each part with those that follow it
pub data Content : Type 0 where
  done : Content
  -- a start tag with white space before its >, the content, and an end tag of the same name
  element : (name : List ℕ) → (attrs : List Attr) → (gap : List ℕ) → (inside : Content) → (last : List ℕ) → (more : Content) → Content
  -- an empty-element tag
  empty : (name : List ℕ) → (attrs : List Attr) → (gap : List ℕ) → (more : Content) → Content
  -- a reference or a run of character data
  part : (value : Part) → (more : Content) → Content
  -- a CDATA section (section 2.7)
  cdata : (bytes : List ℕ) → (more : Content) → Content
  -- a comment (section 2.5)
  comm : (bytes : List ℕ) → (more : Content) → Content
  -- a processing instruction (section 2.6): its target, the white space behind it, and the rest
  pi : (target : List ℕ) → (gap : List ℕ) → (bytes : List ℕ) → (more : Content) → Content

abbrev pub start_source : List ℕ → List Attr → List ℕ
start_source name attrs = 60 ∷ (name ++ flat_map attr_source attrs)

abbrev pub close_source : List ℕ → List ℕ → List ℕ
close_source name last = 60 ∷ 47 ∷ (name ++ (last ++ 62 ∷ []))

abbrev pub cdata_source : List ℕ → List ℕ
cdata_source bytes = codes "<![CDATA[" ++ (bytes ++ codes "]]>")

abbrev pub comm_source : List ℕ → List ℕ
comm_source bytes = codes "<!--" ++ (bytes ++ codes "-->")

abbrev pub pi_source : List ℕ → List ℕ → List ℕ → List ℕ
pi_source target gap bytes = codes "<?" ++ (target ++ (gap ++ (bytes ++ codes "?>")))

abbrev pub content_text : Content → List ℕ
content_text done = []
content_text (element name attrs gap inside last more) = start_source name attrs ++ ((gap ++ 62 ∷ []) ++ (content_text inside ++ (close_source name last ++ content_text more)))
content_text (empty name attrs gap more) = start_source name attrs ++ ((gap ++ 47 ∷ 62 ∷ []) ++ content_text more)
content_text (part value more) = part_text value ++ content_text more
content_text (cdata bytes more) = cdata_source bytes ++ content_text more
content_text (comm bytes more) = comm_source bytes ++ content_text more
content_text (pi target gap bytes more) = pi_source target gap bytes ++ content_text more

-- ---- what stands before the root

abbrev pub if_text : {A : Type 0} → (A → List ℕ) → Option A → List ℕ
if_text text None = []
if_text text (Some x) = text x

-- white space, a word, `=` and a value between two quotes
pub record Setting : Type 0 where
  pub gap : List ℕ
  pub before : List ℕ
  pub behind : List ℕ
  pub delim : ℕ
  pub value : List ℕ

abbrev pub setting_text : List ℕ → Setting → List ℕ
setting_text word s = s.gap ++ (word ++ (s.before ++ 61 ∷ (s.behind ++ s.delim ∷ (s.value ++ s.delim ∷ []))))

-- the XML declaration (section 2.8)
pub record Decl : Type 0 where
  pub version : Setting
  pub encoding : Option Setting
  pub standalone : Option Setting
  pub gap : List ℕ

abbrev pub decl_text : Decl → List ℕ
decl_text d =
    codes "<?xml" ++ (setting_text (codes "version") d.version ++ (if_text (setting_text (codes "encoding")) d.encoding ++ (if_text (setting_text (codes "standalone")) d.standalone ++ (d.gap ++ codes "?>"))))

-- white space, and a literal between two quotes
pub record Literal : Type 0 where
  pub gap : List ℕ
  pub delim : ℕ
  pub value : List ℕ

abbrev pub literal_text : Literal → List ℕ
literal_text q = q.gap ++ q.delim ∷ (q.value ++ q.delim ∷ [])

-- an external identifier behind white space (section 4.2.2): SYSTEM, or PUBLIC and a literal; then a literal
pub record External : Type 0 where
  pub gap : List ℕ
  pub pubid : Option Literal
  pub system : Literal

abbrev pub word_text : Option Literal → List ℕ
word_text None = codes "SYSTEM"
word_text (Some q) = codes "PUBLIC" ++ literal_text q

abbrev pub external_text : External → List ℕ
external_text e = e.gap ++ (word_text e.pubid ++ literal_text e.system)

-- a DOCTYPE without an internal subset (section 2.8)
pub record Doctype : Type 0 where
  pub gap : List ℕ
  pub name : List ℕ
  pub external : Option External
  pub last : List ℕ

-- up to its >
abbrev pub doctype_head : Doctype → List ℕ
doctype_head d = codes "<!DOCTYPE" ++ (d.gap ++ (d.name ++ (if_text external_text d.external ++ d.last)))

abbrev pub doctype_text : Doctype → List ℕ
doctype_text d = doctype_head d ++ 62 ∷ []

-- the byte order mark
abbrev pub mark_text : Bool → List ℕ
mark_text false = []
mark_text true = 0xEF ∷ 0xBB ∷ 0xBF ∷ []

-- a document (section 2.1): comments, instructions and white space stand before and behind the DOCTYPE and behind the root
pub record Source : Type 0 where
  pub mark : Bool
  pub decl : Option Decl
  pub first : Content
  pub doctype : Option Doctype
  pub second : Content
  pub root : Content
  pub last : Content

abbrev pub head_text : Source → List ℕ
head_text d = mark_text d.mark ++ if_text decl_text d.decl

abbrev pub before_root : Source → List ℕ
before_root d = head_text d ++ (content_text d.first ++ (if_text doctype_text d.doctype ++ content_text d.second))

abbrev pub source_text : Source → List ℕ
source_text d = before_root d ++ (content_text d.root ++ content_text d.last)
