-- The bytes of the values that lie in the heap.
use Rattle.std.specs.Prelude.{ℕ, Bool, not, ◌||◌, ◌==◌, List, [], ◌∷◌, if◌then◌else◌}

-- the bytes of values that are whole, and those of the value that is being gathered behind them
pub record Gathered : Type 0 where
  pub settled : List ℕ
  pub pending : List ℕ

-- what is left behind the LF that may begin the bytes
abbrev pub behind_feed : List ℕ → List ℕ
behind_feed [] = []
behind_feed (c ∷ bytes) = if c == 10 then bytes else c ∷ bytes

-- what is left behind the first byte, and behind an LF that follows a CR
abbrev pub behind_break : List ℕ → List ℕ
behind_break [] = []
behind_break (c ∷ bytes) = if c == 13 then behind_feed bytes else bytes

-- a byte of a text that stands as it is
abbrev pub is_line_byte : ℕ → Bool
is_line_byte c = not (c == 13)

-- a byte of an attribute's value that stands as it is
abbrev pub is_value_byte : ℕ → Bool
is_value_byte c = not (c == 9 || c == 10 || c == 13)
