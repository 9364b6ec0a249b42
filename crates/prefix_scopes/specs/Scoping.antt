-- Prefixes in scope, each with a number. The innermost binding stands first.
use Rattle.std.specs.Prelude.{ℕ, List, [], ◌∷◌, Option, Some, None, if◌then◌else◌}
use Rattle.std.specs.Str.{bytes_eq}

-- a prefix and its number
abbrev pub Numbering : Type 0
Numbering = List ℕ × ℕ

-- the number of the innermost binding of a prefix
abbrev pub number_of : List ℕ → List Numbering → Option ℕ
number_of prefix [] = None
number_of prefix (bound ∷ scope) = if bytes_eq bound.0 prefix then Some bound.1 else number_of prefix scope
