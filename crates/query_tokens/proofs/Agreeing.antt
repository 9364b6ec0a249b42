-- What is read by a right table of where comments end is what the rules read.
use Rattle.std.proofs.Common.{◌≡◌, ℕ, ◌∙◌, ap, sym, refl, List, length}
use Rattle.query_terms.specs.Rule.{Text}
use Rattle.query_terms.specs.Lexis.{any_comment}
use Rattle.query_terms.specs.Grammar.{query_rule}
use Rattle.query_terms.specs.Parse.{recursions, opened, limit, read_with}
use Rattle.query_tokens.specs.Reads.{AreCommentEnds, looked_up, IsRestOf}
use Rattle.query_tokens.proofs.Keeping.{fits_agree}
use Rattle.query_tokens.proofs.Looking.{looked_up_keeps}
use Rattle.query_tokens.proofs.Openings.{recursions_keep, opened_keeps, recursions_agree, opened_agree}
use Rattle.query_tokens.proofs.Tokens.{rest_rests}

pub same_reading : (query : Text) (comment_ends : List ℕ) → AreCommentEnds query comment_ends → read_with (looked_up comment_ends) query ≡ read_with any_comment query
unfolding read_with
same_reading query comment_ends right =
    let looked = looked_up comment_ends in
    let total = length query in
    let rests = rest_rests query in
    let keeps = looked_up_keeps (IsRestOf query) rests comment_ends in
    fits_agree (IsRestOf query) rests total (recursions looked (opened total looked limit)) (recursions any_comment (opened total any_comment limit))
    (recursions_keep (IsRestOf query) rests total looked keeps (opened total looked limit) (opened_keeps (IsRestOf query) rests total looked keeps limit))
    (recursions_agree (IsRestOf query) rests total looked keeps any_comment same (opened total looked limit) (opened total any_comment limit)
    (opened_agree (IsRestOf query) rests total looked keeps any_comment same limit))
    query_rule query (0, refl)
  where
    same : (s : Text) → IsRestOf query s → looked_up comment_ends s ≡ any_comment s
    same s rest = ap (looked_up comment_ends) rest.1 ∙ right rest.0 ∙ sym (ap any_comment rest.1)
