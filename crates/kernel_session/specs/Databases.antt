-- What a kernel keeps of its databases, and what it reads for them.
use Rattle.std.specs.Prelude.{◌≡◌, ◌⊎◌, ◌<◌, ◌^◌, ℕ, Bool, true, false, List, length, map, codes, Option, Some}
use Rattle.std.specs.List.{All}
use Rattle.outer_io.specs.Files.{FilesSeen}
use Rattle.tree_model.specs.Forest.{Forest}
use Rattle.tree_model.specs.Sound.{are_distinct}
use Rattle.tree_model.specs.States.{Base, is_base_name, new_base}
use Rattle.tree_model.specs.Labels.{Label, with_path}
use Rattle.tree_model.specs.XmlReads.{ReadsXml, as_tree}
use Rattle.tree_model.specs.declared.code.Refusal.{Refusal}
use Rattle.doc_import.specs.Imported.{Built, IsBuilt, built_forest}
use Rattle.doc_store.specs.Stored.{Stored, base_of}
use Rattle.commands.specs.Commands.{Input, file}
use Rattle.kernel_session.specs.Replies.{refusal_text}
use Rattle.kernel_session.specs.Steps.{AreAsBefore, IsGiven, IsNotGiven, IsFault, IsNoContent, AreDocuments, AreNoDocuments}

-- their names are good
abbrev pub AreNamed : List Base → Type 0
AreNamed bases = All (λ (base : Base). is_base_name base.name ≡ true) bases

-- names are good and differ, there are fewer than 2^32 databases, and the open one is one of them
pub record AreKept (bases : List Base) (opened : Option ℕ) : Type 0 where
  pub named : AreNamed bases
  pub distinct : are_distinct (map (λ (base : Base). base.name) bases) ≡ true
  pub few : length bases < 2 ^ 32
  pub within : (place : ℕ) → opened ≡ Some place → place < length bases

-- of none a branch is out
abbrev pub AreWhole : List Stored → Type 0
AreWhole databases = All (λ d. d.branched ≡ false) databases

-- what is read from XML text
pub record IsRead (xml : List ℕ) (strip : Bool) (built : Built) : Type 0 where
  pub rows : IsBuilt built
  pub tree : ReadsXml xml strip (as_tree (built_forest built))

-- memory was wanting
abbrev pub IsWant : Refusal → Type 0
IsWant refusal = refusal_text refusal ≡ codes "XKMEM"

-- why nothing is read
abbrev pub IsReadFault : List ℕ → Bool → Refusal → Type 0
IsReadFault xml strip refusal = IsFault xml strip (refusal_text refusal) ⊎ IsWant refusal

abbrev pub IsFileRefusal : List ℕ → FilesSeen → FilesSeen → Refusal → Type 0
IsFileRefusal name before now refusal = IsNotGiven (file name) before now (refusal_text refusal) ⊎ (IsWant refusal × AreAsBefore before now)

-- the document of an input
pub record IsDocument (strip : Bool) (input : Input) (before now : FilesSeen) (built : Built) : Type 0 where
  pub bytes : List ℕ
  pub given : IsGiven input before now bytes
  pub read : IsRead bytes strip built

abbrev pub IsNoDocument : Bool → Input → FilesSeen → FilesSeen → Refusal → Type 0
IsNoDocument strip input before now refusal = IsNoContent strip input before now (refusal_text refusal) ⊎ (IsWant refusal × AreAsBefore before now)

-- a database with just this document, and with no branch out
pub record IsOne (name path : List ℕ) (built : Built) (d : Stored) : Type 0 where
  pub base : base_of d ≡ new_base name (with_path path (built_forest built))
  pub whole : d.branched ≡ false

-- a new database
pub record IsNew (strip : Bool) (name : List ℕ) (input : Option Input) (before now : FilesSeen) (d : Stored) : Type 0 where
  pub documents : Forest Label
  pub are : AreDocuments strip name input before now documents
  pub base : base_of d ≡ new_base name documents
  pub whole : d.branched ≡ false

-- why no database is made
abbrev pub IsNoBase : Bool → Option Input → FilesSeen → FilesSeen → Refusal → Type 0
IsNoBase strip input before now refusal = AreNoDocuments strip input before now (refusal_text refusal) ⊎ (IsWant refusal × AreAsBefore before now)
