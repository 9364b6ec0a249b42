-- Names of ASCII characters without a colon.
use Rattle.std.specs.Prelude.{ℕ, Bool, ◌&&◌, ◌||◌, ◌==◌, List}
use Rattle.std.specs.List.{list_all}
use Rattle.std.specs.Char.{is_ascii_alphabetic, is_ascii_digit}
use Rattle.tree_model.specs.XmlChars.{first_is}

abbrev pub is_plain_start : ℕ → Bool
is_plain_start c = is_ascii_alphabetic c || c == 95

abbrev pub is_plain_inner : ℕ → Bool
is_plain_inner c = is_plain_start c || is_ascii_digit c || c == 45 || c == 46

unfoldable pub is_plain : List ℕ → Bool
is_plain name = first_is is_plain_start name && list_all is_plain_inner name
