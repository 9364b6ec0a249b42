-- What the nests read stays within a set of texts that has each text's rests, and they read alike where comments do.
use Rattle.std.proofs.Common.{◌≡◌, ℕ, zero, suc, refl}
use Rattle.query_terms.specs.declared.stop.Nest.{Nest}
use Rattle.query_terms.specs.Rule.{Text, Outcome, Recursion, comment, nested}
use Rattle.query_terms.specs.Grammar.{rule_of}
use Rattle.query_terms.specs.Parse.{recursions, opened}
use Rattle.query_tokens.proofs.Keeping.{HasRests, Keeps, fits_keeps, fits_agree}

module _ (P : Text → Type 0) (rests : HasRests P) (total : ℕ) (comments : Text → Outcome) (keeps : Keeps P comments) where
  pub recursions_keep : (nests : Nest → Text → Outcome) → ((nest : Nest) → Keeps P (nests nest)) → (k : Recursion) → Keeps P (recursions comments nests k)
  recursions_keep nests keep comment = keeps
  recursions_keep nests keep (nested nest) = keep nest

  pub opened_keeps : (room : ℕ) (nest : Nest) → Keeps P (opened total comments room nest)
  unfolding opened
  opened_keeps zero nest s t v p e = absurd (cc)
  opened_keeps (suc room) nest s t v p e =
      fits_keeps P rests total (recursions comments (opened total comments room)) (recursions_keep (opened total comments room) (opened_keeps room)) (rule_of nest) s t v p e

  module _ (others : Text → Outcome) (same : (s : Text) → P s → comments s ≡ others s) where
    pub recursions_agree : (nests less : Nest → Text → Outcome) → ((nest : Nest) (s : Text) → P s → nests nest s ≡ less nest s) → (k : Recursion) (s : Text) → P s → recursions comments nests k s ≡ recursions others less k s
    recursions_agree nests less agree comment s h = same s h
    recursions_agree nests less agree (nested nest) s h = agree nest s h

    pub opened_agree : (room : ℕ) (nest : Nest) (s : Text) → P s → opened total comments room nest s ≡ opened total others room nest s
    unfolding opened
    opened_agree zero nest s h = refl
    opened_agree (suc room) nest s h =
        fits_agree P rests total (recursions comments (opened total comments room)) (recursions others (opened total others room))
        (recursions_keep (opened total comments room) (opened_keeps room)) (recursions_agree (opened total comments room) (opened total others room) (opened_agree room)) (rule_of nest) s h
