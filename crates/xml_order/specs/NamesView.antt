-- The names of a tag, without where they lie in memory.
use Rattle.std.specs.Prelude.{ℕ, List, [], ◌++◌, Option, Some, None, map, reverse}
use Rattle.std.specs.HashSet.{HashSet}
use Rattle.xml_pieces.specs.View.{Bytes}

abbrev pub names_of : List Bytes → List (List ℕ)
names_of names = reverse (map (λ (n : Bytes). n.now) names)

abbrev pub keys_in : {S : Type 0} → Option (HashSet Bytes S) → List Bytes
keys_in None = []
keys_in (Some s) = s.keys

-- the last first
abbrev pub names_in : {S : Type 0} → List Bytes → Option (HashSet Bytes S) → List (List ℕ)
names_in few many = names_of (few ++ keys_in many)
