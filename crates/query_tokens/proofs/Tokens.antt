-- Where tokens end.
use Rattle.std.proofs.Common.{◌≡◌, ℕ, ◌+◌, Bool, length, drop, refl, ap, ◌∙◌, Ok}
use Rattle.std.proofs.lemmas.List.{drop-drop}
use Rattle.query_terms.specs.Rule.{Text, Value, nothing, code, char, Recursion, Rule}
use Rattle.query_terms.specs.Lexis.{run}
use Rattle.query_tokens.specs.Reads.{at, reading, looked_up, IsRestOf}
use Rattle.query_tokens.proofs.Openings.{recursions_keep, opened_keeps}
use Rattle.query_terms.specs.Parse.{opened}
use Rattle.query_tokens.specs.declared.source.QuerySource.{QuerySource}
use Rattle.query_tokens.proofs.Keeping.{HasRests, Keeps, fits_keeps}
use Rattle.query_tokens.proofs.Looking.{looked_up_keeps}

pub rest_rests : (s : Text) → HasRests (IsRestOf s)
rest_rests s n t h = (h.0 + n, ap (drop n) h.1 ∙ drop-drop n h.0 s)

pub rest_of_rest : (s t u : Text) → IsRestOf s t → IsRestOf t u → IsRestOf s u
rest_of_rest s t u a b = (a.0 + b.0, b.1 ∙ ap (drop b.0) a.1 ∙ drop-drop b.0 a.0 s)

pub reading_keeps : (source : QuerySource) (P : Text → Type 0) → HasRests P → (k : Recursion) → Keeps P (reading source k)
unfolding reading
reading_keeps source P rests k =
    let looked = looked_up source.comment_ends.now in
    let total = length source.query.now in
    let keeps = looked_up_keeps P rests source.comment_ends.now in
    recursions_keep P rests total looked keeps (opened total looked source.room) (opened_keeps P rests total looked keeps source.room) k

pub rest_read : (source : QuerySource) (r : Rule) (v : Value) (s t : Text) → at source r s ≡ Ok (v, t) → IsRestOf s t
rest_read source r v s t e = fits_keeps (IsRestOf s) (rest_rests s) (length source.query.now) (reading source) (reading_keeps source (IsRestOf s) (rest_rests s)) r s t v (0, refl) e

pub token_rest : (source : QuerySource) (p q : ℕ → Bool) (s t u : Text) (c : ℕ) → at source (char p) s ≡ Ok (code c, t) → at source (run q) t ≡ Ok (nothing, u) → IsRestOf s u
token_rest source p q s t u c begins goes = rest_of_rest s t u (rest_read source (char p) (code c) s t begins) (rest_read source (run q) nothing t u goes)
