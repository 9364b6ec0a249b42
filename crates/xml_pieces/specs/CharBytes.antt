-- Which bytes of a text in UTF-8 spell a character that is a Char, told from the bytes alone.
use Rattle.std.specs.Prelude.{ℕ, Bool, true, not, ◌&&◌, ◌||◌, ◌==◌, nat_le, List, [], ◌∷◌}
use Rattle.tree_model.specs.XmlChars.{begins_with}

-- no control character is a Char but TAB, LF and CR
abbrev pub is_no_control : ℕ → Bool
is_no_control c = nat_le 32 c || c == 9 || c == 10 || c == 13

-- U+FFFE or U+FFFF
abbrev pub begins_noncharacter : List ℕ → Bool
begins_noncharacter bytes = begins_with (0xEF ∷ 0xBF ∷ 0xBE ∷ []) bytes || begins_with (0xEF ∷ 0xBF ∷ 0xBF ∷ []) bytes

abbrev pub front_passes : List ℕ → Bool
front_passes [] = true
front_passes (c ∷ bytes) = is_no_control c && not (begins_noncharacter (c ∷ bytes))

abbrev pub each_passes : List ℕ → Bool
each_passes [] = true
each_passes (c ∷ bytes) = front_passes (c ∷ bytes) && each_passes bytes

-- a byte that passes, for itself and the byte behind it
abbrev pub is_plain_pair : ℕ → ℕ → Bool
is_plain_pair c d = is_no_control c && not (c == 0xEF && d == 0xBF)
