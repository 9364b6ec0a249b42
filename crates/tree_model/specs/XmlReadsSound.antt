-- The law that a tree that XML spells keeps the rules of a database's documents.
use Rattle.std.specs.Prelude.{◌≡◌, ℕ, Bool, true, List}
use Rattle.std.specs.Str.{IsUtf8}
use Rattle.tree_model.specs.Forest.{Forest, count}
use Rattle.tree_model.specs.Labels.{Label, with_path}
use Rattle.tree_model.specs.Sound.{KeepsRules, is_path}
use Rattle.tree_model.specs.XmlReads.{SpellsTree}

-- all rules but the limit on the number of nodes, under any path, where the next id is the number of nodes
abbrev pub XmlReadsSound : Type 0
XmlReadsSound = (strip : Bool) (text path : List ℕ) (f : Forest Label) → IsUtf8 text → SpellsTree strip text f → is_path path ≡ true → KeepsRules (with_path path f) (count f)
