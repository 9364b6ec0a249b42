-- A code has at most eight characters.
use Rattle.std.proofs.Common.{◌≡◌, ℕ, ◌≤◌, Bool, true, nat_le, List, [], length, refl, arith}
use Rattle.std.specs.List.{list_all, slice_index_or}
use Rattle.std.proofs.lemmas.List.Folds.{list_all_at}
use Rattle.std.proofs.lemmas.List.{get_or_past}
use Rattle.tree_model.specs.CodeTexts.{code_texts, text_of_code}

abbrev is_short : List ℕ → Bool
is_short text = nat_le (length text) 8

short_at : (texts : List (List ℕ)) (n : ℕ) → list_all is_short texts ≡ true → length (slice_index_or texts n []) ≤ 8
short_at texts n all = grind (arith, list_all_at, get_or_past)

pub code_is_short : (n : ℕ) → length (text_of_code n) ≤ 8
code_is_short n = short_at code_texts n refl
