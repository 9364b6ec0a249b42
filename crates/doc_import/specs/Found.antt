-- What a reading that came to the end of a document has found.
use Rattle.std.specs.Prelude.{◌≡◌, ℕ, Bool, List}
use Rattle.tree_model.specs.Forest.{flatten}
use Rattle.tree_model.specs.XmlSource.{Source}
use Rattle.tree_model.specs.XmlMeaning.{source_faults, source_tree}
use Rattle.tree_model.specs.XmlReads.{IsSpelled, IsText, HasNoOtherEncoding, HasNoSubset}
use Rattle.xml_rows.specs.Work.{Work, finished, first_of}

-- the text is that of a good document, whose rows and whose first fault were made
pub record Found (strip : Bool) (text : List ℕ) (w : Work) : Type 0 where
  pub source : Source
  pub spelled : IsSpelled text source
  pub rows : finished w ≡ flatten (source_tree strip source)
  pub fault : w.fault ≡ first_of (source_faults source)

-- and none of the faults that stand before
pub record IsWhole (strip : Bool) (text : List ℕ) (w : Work) : Type 0 where
  pub is_text : IsText text
  pub in_utf8 : HasNoOtherEncoding text
  pub no_subset : HasNoSubset text
  pub found : Found strip text w
