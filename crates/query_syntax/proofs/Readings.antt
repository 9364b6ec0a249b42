-- What is read of a whole text.
use Rattle.std.proofs.Common.{◌≡◌, ◌≢◌, ℕ, Bool, true, false, List, length, take, nat_eq, refl, ap, sym, ◌∙◌, subst, Ok, Err}
use Rattle.std.specs.Prelude.{Result}
use Rattle.std.specs.Str.{IsUtf8, chars}
use Rattle.std.proofs.lemmas.List.{length-take-le}
use Rattle.query_terms.specs.declared.stop.Stop.{Stop}
use Rattle.query_terms.specs.declared.stop.Stop.TheVariants.{Refused, TooDeep, NoMemory}
use Rattle.query_terms.specs.declared.stop.SyntaxFault.{SyntaxFault}
use Rattle.query_terms.specs.declared.stop.SyntaxFault.TheVariants as faults
use Rattle.query_terms.specs.declared.tree.QueryTree.{QueryTree}
use Rattle.query_terms.specs.Rule.{Text, Outcome, query, fits}
use Rattle.query_terms.specs.Grammar.{query_rule}
use Rattle.query_terms.specs.Parse.{recursions, opened, limit, read_with, read_query, front_len, parse, parsed_as}
use Rattle.query_tokens.specs.Reads.{at, reading, looked_up, AreCommentEnds}
use Rattle.query_tokens.specs.declared.source.QuerySource.{QuerySource}
use Rattle.query_tokens.proofs.Agreeing.{same_reading}
use Rattle.query_syntax.proofs.Fronts.{front_fits}

pub read_is : (source : QuerySource) (comment_ends : List ℕ) → source.room ≡ limit → source.comment_ends.now ≡ comment_ends → AreCommentEnds source.query.now comment_ends →
    at source query_rule source.query.now ≡ read_query source.query.now
unfolding reading read_with
read_is source comment_ends room is right =
    ap (λ (n : ℕ). fits (length source.query.now) (recursions (looked_up source.comment_ends.now) (opened (length source.query.now) (looked_up source.comment_ends.now) n)) query_rule source.query.now) room
    ∙ same_reading source.query.now source.comment_ends.now (subst (AreCommentEnds source.query.now) (sym is) right)

pub parse_is : (t good : Text) → IsUtf8 t → good ≡ take (front_len (chars t)) t → parse t ≡ parsed_as (nat_eq (length good) (length t)) (read_query good)
unfolding parse
parse_is t good utf8 is =
    let size : length good ≡ front_len (chars t) = ap length is ∙ length-take-le (front_len (chars t)) t (front_fits t utf8) in
    ap (λ (n : ℕ). parsed_as (nat_eq n (length t)) (read_query (take (front_len (chars t)) t))) (sym size)
    ∙ ap (λ (s : Text). parsed_as (nat_eq (length good) (length t)) (read_query s)) (sym is)

-- ---- the answer for a text, by what is read of its front

pub whole_answer : {answer : Result QueryTree SyntaxFault} {is_whole : Bool} {o : Outcome} {q : QueryTree} {s : Text} → answer ≡ parsed_as is_whole o → is_whole ≡ true → o ≡ Ok (query q, s) → answer ≡ Ok q
whole_answer {q = q} e whole reads = e ∙ rw (whole, reads) refl

pub front_answer : {answer : Result QueryTree SyntaxFault} {is_whole : Bool} {o : Outcome} {q : QueryTree} {s : Text} → answer ≡ parsed_as is_whole o → is_whole ≡ false → o ≡ Ok (query q, s) → answer ≡ Err faults.NoReading
front_answer e part reads = e ∙ rw (part, reads) refl

pub refused_answer : {answer : Result QueryTree SyntaxFault} (is_whole : Bool) {o : Outcome} {stop : Stop} → answer ≡ parsed_as is_whole o → (stop ≢ NoMemory → o ≡ Err stop) → stop ≡ Refused → answer ≡ Err faults.NoReading
refused_answer is_whole {stop = stop} e reads is =
    let other : stop ≢ NoMemory = λ z. cc in
    e ∙ rw (reads other ∙ ap (λ (x : Stop). Err x) is) (by is_whole)
  where
    by : (b : Bool) → parsed_as b (Err Refused) ≡ Err faults.NoReading
    by true = refl
    by false = refl

pub deep_answer : {answer : Result QueryTree SyntaxFault} (is_whole : Bool) {o : Outcome} {stop : Stop} → answer ≡ parsed_as is_whole o → (stop ≢ NoMemory → o ≡ Err stop) → stop ≡ TooDeep → answer ≡ Err faults.TooDeep
deep_answer is_whole {stop = stop} e reads is =
    let other : stop ≢ NoMemory = λ z. cc in
    e ∙ rw (reads other ∙ ap (λ (x : Stop). Err x) is) refl
