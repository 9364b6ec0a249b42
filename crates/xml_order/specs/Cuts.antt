-- A front of the bytes, cut into pieces.
use Rattle.std.specs.Prelude.{◌≡◌, ℕ, List, [], ◌∷◌, Some, ⊤}
use Rattle.tree_model.specs.XmlSource.{run}
use Rattle.tree_model.specs.XmlGood.{AreSpace}
use Rattle.xml_pieces.specs.Tokens.{Token, part_token, comm_token, pi_token}
use Rattle.xml_pieces.specs.Item.{Where, item, next}

-- the bytes are these pieces and the rest
abbrev pub LexesTo : Where → List Token → List ℕ → List ℕ → Type 0
LexesTo place [] bytes rest = bytes ≡ rest
LexesTo place (t ∷ ts) bytes rest = (after : List ℕ) × (item place bytes ≡ Some (t, after)) × LexesTo (next place t) ts after rest

-- where the reader is behind the pieces
abbrev pub behind : Where → List Token → Where
behind place [] = place
behind place (t ∷ ts) = behind (next place t) ts

-- comments, instructions and runs of white space alone
abbrev pub AreMisc : List Token → Type 0
AreMisc [] = ⊤
AreMisc (part_token (run bytes) ∷ ts) = AreSpace bytes × AreMisc ts
AreMisc (comm_token bytes ∷ ts) = AreMisc ts
AreMisc (pi_token target gap bytes ∷ ts) = AreMisc ts
AreMisc other = ⊥
