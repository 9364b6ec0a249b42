-- What may be answered to the reading of a text: a tree, or its first fault.
use Rattle.std.specs.Prelude.{◌≡◌, ℕ, ◌^◌, ◌<◌, ◌≤◌, Bool, false, List, [], ◌∷◌, ◌++◌, length, take, map, codes, Option, Some}
use Rattle.std.specs.Str.{IsUtf8, IsValidUpTo, bytes_eq}
use Rattle.std.specs.Char.{to_ascii_lowercase}
use Rattle.tree_model.specs.Forest.{Forest, count}
use Rattle.tree_model.specs.Labels.{Label}
use Rattle.tree_model.specs.XmlSource.{Content, content_text, Setting, setting_text, Decl, decl_text, if_text, Doctype, doctype_head, mark_text, Source, source_text}
use Rattle.tree_model.specs.XmlGood.{IsMisc, IsGood, IfThere, IsDecl, IsDoctype, AreChars, IsSource}
use Rattle.tree_model.specs.XmlMeaning.{Fault, source_faults, source_tree}

-- ---- faults of the whole text

-- the bytes of a declaration up to the value of its encoding
abbrev pub before_encoding : Decl → Setting → List ℕ
before_encoding d s = codes "<?xml" ++ (setting_text (codes "version") d.version ++ (s.gap ++ (codes "encoding" ++ (s.before ++ 61 ∷ (s.behind ++ s.delim ∷ [])))))

-- a whole XML declaration stands first, and its encoding, whose value begins at a place, isn't UTF-8 in any letter case
pub record HasOtherEncoding (text : List ℕ) (at : ℕ) : Type 0 where
  pub mark : Bool
  pub decl : Decl
  pub encoding : Setting
  pub rest : List ℕ
  pub good : IsDecl decl
  pub is_there : decl.encoding ≡ Some encoding
  pub spelled : text ≡ mark_text mark ++ (decl_text decl ++ rest)
  pub at_is : at ≡ length (mark_text mark ++ before_encoding decl encoding)
  pub is_other : bytes_eq (map to_ascii_lowercase encoding.value) (codes "utf-8") ≡ false

-- the text is well formed up to a [ in the DOCTYPE, at a place
pub record HasSubset (text : List ℕ) (at : ℕ) : Type 0 where
  pub mark : Bool
  pub decl : Option Decl
  pub first : Content
  pub doctype : Doctype
  pub rest : List ℕ
  pub decl_good : IfThere IsDecl decl
  pub first_misc : IsMisc first
  pub first_good : IsGood first
  pub doctype_good : IsDoctype doctype
  pub spelled : text ≡ (mark_text mark ++ (if_text decl_text decl ++ (content_text first ++ doctype_head doctype))) ++ 91 ∷ rest
  pub at_is : at ≡ length (mark_text mark ++ (if_text decl_text decl ++ (content_text first ++ doctype_head doctype)))
  pub chars : AreChars (take at text)

-- ---- a document

-- the text is that of a well-formed document
pub record IsSpelled (text : List ℕ) (d : Source) : Type 0 where
  pub good : IsSource d
  pub is : text ≡ source_text d

-- the text spells the tree: it has no fault
pub record SpellsTree (strip : Bool) (text : List ℕ) (f : Forest Label) : Type 0 where
  pub source : Source
  pub spelled : IsSpelled text source
  pub faultless : source_faults source ≡ []
  pub tree_is : f ≡ source_tree strip source

-- the first fault of a well-formed document
pub record HasFault (text : List ℕ) (fault : Fault) : Type 0 where
  pub source : Source
  pub more : List Fault
  pub spelled : IsSpelled text source
  pub first : source_faults source ≡ fault ∷ more

pub data XmlReading : Type 0 where
  as_tree : (f : Forest Label) → XmlReading
  too_many_bytes : XmlReading
  not_utf8 : (at : ℕ) → XmlReading
  other_encoding : (at : ℕ) → XmlReading
  internal_subset : (at : ℕ) → XmlReading
  not_well_formed : XmlReading
  first_fault : (fault : Fault) → XmlReading
  too_many_nodes : XmlReading

-- at most 2^26 bytes, in UTF-8
abbrev pub IsText : List ℕ → Type 0
IsText text = (length text ≤ 2 ^ 26) × IsUtf8 text

abbrev pub HasNoOtherEncoding : List ℕ → Type 0
HasNoOtherEncoding text = (at : ℕ) → HasOtherEncoding text at → ⊥

abbrev pub HasNoSubset : List ℕ → Type 0
HasNoSubset text = (at : ℕ) → HasSubset text at → ⊥

-- in this order: too many bytes, not UTF-8, another encoding, an internal subset, not well formed, the first fault, too many nodes
abbrev pub ReadsXml : List ℕ → Bool → XmlReading → Type 0
ReadsXml text strip too_many_bytes = 2 ^ 26 < length text
ReadsXml text strip (not_utf8 at) = (length text ≤ 2 ^ 26) × (¬ IsUtf8 text) × IsValidUpTo text at
ReadsXml text strip (other_encoding at) = IsText text × HasOtherEncoding text at
ReadsXml text strip (internal_subset at) = IsText text × HasNoOtherEncoding text × HasSubset text at
ReadsXml text strip not_well_formed = IsText text × HasNoOtherEncoding text × HasNoSubset text × ((d : Source) → IsSpelled text d → ⊥)
ReadsXml text strip (first_fault fault) = IsText text × HasNoOtherEncoding text × HasNoSubset text × HasFault text fault
ReadsXml text strip too_many_nodes = IsText text × HasNoOtherEncoding text × HasNoSubset text × (f : Forest Label) × SpellsTree strip text f × (2 ^ 24 < count f)
ReadsXml text strip (as_tree f) = IsText text × HasNoOtherEncoding text × HasNoSubset text × SpellsTree strip text f × (count f ≤ 2 ^ 24)
