-- Nodes that are kept while others are looked at.
use Rattle.std.specs.Prelude.{◌≡◌, ◌⊎◌, ℕ, ◌+◌, ◌<◌, List, [], ◌∷◌, ◌++◌, length, Option, Some, None}
use Rattle.node_table.specs.Laid.{size_at}
use Rattle.tree_model.specs.declared.axis.Axis.{Axis}
use Rattle.tree_model.specs.declared.row.Row.{Row}
use Rattle.axis_steps.specs.Steps.{Has, Keeps, IsTreeEnd}
use Rattle.axis_steps.specs.declared.keep.Ended.{Ended}
use Rattle.axis_steps.specs.declared.keep.Latest.{Latest}

-- what was kept of some nodes is now kept of them and of c
abbrev pub KeepsOn : List Row → Axis → ℕ → List ℕ → List ℕ → Type 0
KeepsOn rows axis c old new = (places : List ℕ) → Keeps rows axis places old → Keeps rows axis (places ++ c ∷ []) new

-- no subtree is open, or that of a node that is kept
abbrev pub IsOpen : List Row → List ℕ → ℕ → ℕ → Type 0
IsOpen rows kept start end = (end ≡ 0) ⊎ ((start < length rows) × (end ≡ start + size_at rows start) × Has kept start)

-- the subtree that ends first
pub record HasEnd (rows : List Row) (last : Ended) : Type 0 where
  pub within : last.start < length rows
  pub end : last.end ≡ last.start + size_at rows last.start
  pub tree : IsTreeEnd rows last.start last.tree_end

abbrev pub IsEnded : List Row → Option Ended → Type 0
IsEnded rows None = Unit {0}
IsEnded rows (Some last) = HasEnd rows last

-- what is kept, with the node that is held back
abbrev pub ended_places : Option Ended → List ℕ → List ℕ
ended_places None kept = kept
ended_places (Some last) kept = last.start ∷ kept

-- the last node of a tree
abbrev pub IsLatest : List Row → Option Latest → Type 0
IsLatest rows None = Unit {0}
IsLatest rows (Some last) = IsTreeEnd rows last.place last.tree_end

abbrev pub latest_places : Option Latest → List ℕ → List ℕ
latest_places None kept = kept
latest_places (Some last) kept = last.place ∷ kept
