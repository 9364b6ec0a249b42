-- The byte order mark and the XML declaration, and what stands behind them.
use Rattle.std.specs.Prelude.{◌≡◌, ℕ, Bool, true, List, ◌∷◌, ◌++◌, length, drop, Option, if◌then◌else◌}
use Rattle.tree_model.specs.XmlChars.{begins_with}
use Rattle.tree_model.specs.XmlSource.{Content, content_text, Decl, decl_text, Doctype, doctype_head, if_text, mark_text}
use Rattle.tree_model.specs.XmlGood.{IsMisc, IsGood, IsDoctype}
use Rattle.xml_pieces.specs.Readers.{Read, maybe}
use Rattle.xml_pieces.specs.Prolog.{decl}

abbrev pub has_mark : List ℕ → Bool
has_mark text = begins_with (mark_text true) text

abbrev pub behind_mark : List ℕ → List ℕ
behind_mark text = if has_mark text then drop 3 text else text

-- the declaration, where one can be read, and what stands behind it
abbrev pub behind_head : List ℕ → Read (Option Decl)
behind_head text = maybe decl (behind_mark text)

abbrev pub head_of : Bool → Option Decl → List ℕ
head_of mark d = mark_text mark ++ if_text decl_text d

-- what stands behind the head is well formed up to a [ in the DOCTYPE, so many bytes on
pub record HasSubsetAt (body : List ℕ) (n : ℕ) : Type 0 where
  pub first : Content
  pub doctype : Doctype
  pub rest : List ℕ
  pub first_misc : IsMisc first
  pub first_good : IsGood first
  pub doctype_good : IsDoctype doctype
  pub spelled : body ≡ (content_text first ++ doctype_head doctype) ++ 91 ∷ rest
  pub at_is : n ≡ length (content_text first ++ doctype_head doctype)
