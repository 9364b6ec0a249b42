-- Why a reading stops.
use Rattle.std.specs.Prelude.{◌≡◌, ℕ, ◌+◌, Bool, List, [], Some, None, ⊤}
use Rattle.xml_order.specs.Shape.{Shape, begin, end}
use Rattle.xml_rows.specs.Work.{Work}
use Rattle.doc_import.specs.Heads.{HasSubsetAt}
use Rattle.doc_import.specs.Machine.{machine, start, Leads}
use Rattle.doc_import.specs.Subsets.{subset_len}
use Rattle.doc_import.specs.declared.reading.Stop.{Stop}
use Rattle.doc_import.specs.declared.reading.Stop.TheVariants.{Malformed, InternalSubset, NoMemory}

-- where no piece can be read: before an internal subset, or a text that isn't well formed
abbrev pub IsStop : Shape → List ℕ → ℕ → Stop → Type 0
IsStop s rest at Malformed = s ≡ begin → subset_len rest ≡ None
IsStop s rest at (InternalSubset n) = (s ≡ begin) × (k : ℕ) × (subset_len rest ≡ Some k) × (n ≡ at + k)
IsStop s rest at NoMemory = ⊥

-- what it says of what stands behind the head
abbrev pub IsStopped : Bool → ℕ → List ℕ → Stop → Type 0
IsStopped strip at body Malformed = ((w : Work) → Leads strip (start at) body (machine w end) [] → ⊥) × ((k : ℕ) → HasSubsetAt body k → ⊥)
IsStopped strip at body (InternalSubset n) = (k : ℕ) × HasSubsetAt body k × (n ≡ at + k)
IsStopped strip at body NoMemory = ⊤
