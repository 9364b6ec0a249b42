-- The texts of the codes, by their numbers: those of queries, and then those that no query is refused with.
use Rattle.std.specs.Prelude.{ℕ, List, [], ◌∷◌, ◌++◌, map, codes}
use Rattle.std.specs.List.{slice_index_or}
use Rattle.tree_model.specs.QueryCodes.{query_codes, query_code_text}

abbrev pub other_texts : List (List ℕ)
other_texts =
    codes "XKCM0001" ∷
    codes "XKCM0002" ∷
    codes "XKDB0001" ∷
    codes "XKDB0003" ∷
    codes "XKDB0006" ∷
    codes "XKFI0001" ∷
    codes "XKFI0002" ∷
    codes "XKXM0001" ∷
    codes "XKXM0002" ∷
    codes "XKXM0003" ∷
    codes "XKXM0004" ∷
    codes "XKXM0005" ∷
    codes "XKXM0006" ∷
    codes "XKLM0001" ∷
    codes "XKLM0002" ∷
    []

abbrev pub code_texts : List (List ℕ)
code_texts = map query_code_text query_codes ++ other_texts

abbrev pub text_of_code : ℕ → List ℕ
text_of_code n = slice_index_or code_texts n []
