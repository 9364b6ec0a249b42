-- The table of where comments end is right.
use Rattle.std.proofs.Common.{◌≡◌, ℕ, zero, suc, ◌+◌, ◌-◌, ◌<◌, ◌≤◌, List, [], ◌∷◌, length, length-drop, length-append, get_or, nat_eq, drop, cond, Bool, true, false, refl, ap, sym, ◌∙◌, arith, Option, Some, None, Ok, Err, ◌⊎◌, inl, inr}
use Rattle.std.specs.Prelude.{codes, if◌then◌else◌, slice_index, nat_lt, ◌==◌, ◌&&◌}
use Rattle.std.specs.Str.Pattern.{LacksTextAt}
use Rattle.std.proofs.lemmas.Bool.{and_parts, eqb-true, lt-ltb, cases_lt}
use Rattle.std.proofs.lemmas.Bool.Decides.{nat_tests}
use Rattle.std.proofs.Math.Bool.{and-true}
use Rattle.std.proofs.Math.Seq.{get_or-append_seam}
use Rattle.std.proofs.Math.ListN.{get_or-append}
use Rattle.query_terms.specs.Rule.{Text, nothing, Outcome, and_then, word_at}
use Rattle.query_terms.specs.declared.stop.Stop.TheVariants.{Refused}
use Rattle.query_tokens.specs.Reads.{looked_up, closed, AreCommentEnds, IsRestOf}
use Rattle.query_tokens.specs.CommentEnds.{behind_inner, comment_end_at, comment_end_before, comment_ends_below}
use Rattle.query_tokens.proofs.Comments.{opens, closes, past_piece, inside, behind_comment, of_rest, comments_are}
use Rattle.query_tokens.proofs.Insides.{shorter, outside, outside_ends, outside_none, outside_step, comment_outside}
use Rattle.query_tokens.proofs.Words.{drop_back}
use Rattle.query_tokens.proofs.Tokens.{rest_rests, rest_of_rest}

-- an entry
abbrev pub mark : Option Text → ℕ
mark None = 0
mark (Some t) = suc (length t)

abbrev pub IsRight : Text → List ℕ → ℕ → Type 0
IsRight text entries n = (s : Text) → IsRestOf text s → length s < n → slice_index entries (length s) ≡ mark (outside s)

-- ---- tests of two bytes

and_none : (a : Bool) → (a && false) ≡ false
and_none true = refl
and_none false = refl

same_test : (a b : ℕ) → nat_eq a b ≡ (b == a)
same_test a b = grind (arith, nat_tests)

pub one_never_opens : (c : ℕ) → opens (c ∷ []) ≡ false
one_never_opens c = and_none (nat_eq 40 c)

pub one_never_closes : (c : ℕ) → closes (c ∷ []) ≡ false
one_never_closes c = and_none (nat_eq 58 c)

pub opens_is : (c d : ℕ) (s : Text) → opens (c ∷ d ∷ s) ≡ (c == 40 && d == 58)
opens_is c d s = ap (λ (b : Bool). nat_eq 40 c && b) (and-true (nat_eq 58 d)) ∙ ap (λ (b : Bool). b && nat_eq 58 d) (same_test 40 c) ∙ ap (λ (b : Bool). c == 40 && b) (same_test 58 d)

pub closes_is : (c d : ℕ) (s : Text) → closes (c ∷ d ∷ s) ≡ (c == 58 && d == 41)
closes_is c d s = ap (λ (b : Bool). nat_eq 58 c && b) (and-true (nat_eq 41 d)) ∙ ap (λ (b : Bool). b && nat_eq 41 d) (same_test 58 c) ∙ ap (λ (b : Bool). c == 58 && b) (same_test 41 d)

pub not_both : (c d : ℕ) (A : Type 0) → (c == 58 && d == 41) ≡ true → (c == 40 && d == 58) ≡ true → A
not_both c d A closing opening =
    let x = eqb-true c 58 (and_parts (c == 58) (d == 41) closing).0 in
    let y = eqb-true c 40 (and_parts (c == 40) (d == 58) opening).0 in
    absurd (omega (arith, x, y))

-- ---- an entry from those of shorter texts

pub outside_one : (c : ℕ) → outside (c ∷ []) ≡ outside []
unfolding behind_comment
outside_one c =
    outside_step c []
    ∙ ap (λ (b : Bool). past_piece outside (c ∷ []) (cond b (inside (behind_comment 0) 1 []) None)) (one_never_opens c)
    ∙ ap (λ (b : Bool). cond b (Some []) (outside [])) (one_never_closes c)

-- one piece, by the two tests
pub outside_two : (c d : ℕ) (s : Text) → outside (c ∷ d ∷ s)
    ≡ past_piece outside (c ∷ d ∷ s) (if c == 40 && d == 58 then outside s else None)
outside_two c d s = outside_step c (d ∷ s) ∙ ap (past_piece outside (c ∷ d ∷ s)) (comment_outside c d s ∙ ap (λ (b : Bool). cond b (outside s) None) (opens_is c d s))

module _ (text : Text) (entries : List ℕ) (n : ℕ) (right : IsRight text entries n) where
  entry_right : (c d : ℕ) (s : Text) → IsRestOf text (c ∷ d ∷ s) → length (c ∷ d ∷ s) ≤ n → comment_end_at c (d ∷ s) entries ≡ mark (past_piece outside (c ∷ d ∷ s) (if c == 40 && d == 58 then outside s else None))
  entry_right c d s rest within = by (c == 58 && d == 41) (c == 40 && d == 58) refl refl where
    rest_one : IsRestOf text (d ∷ s)
    rest_one = rest_rests text 1 (c ∷ d ∷ s) rest

    rest_two : IsRestOf text s
    rest_two = rest_rests text 2 (c ∷ d ∷ s) rest

    here : (b : Bool) → (c == 58 && d == 41) ≡ b → past_piece outside (c ∷ d ∷ s) None ≡ cond b (Some s) (outside (d ∷ s))
    here b is = ap (λ (x : Bool). cond x (Some s) (outside (d ∷ s))) (closes_is c d s ∙ is)

    one : slice_index entries (length (d ∷ s)) ≡ mark (outside (d ∷ s))
    one = right (d ∷ s) rest_one (omega (arith, within))

    inner : (c == 58 && d == 41) ≡ false → (r : Option Text) → outside s ≡ r → behind_inner entries (mark r) (d ∷ s) ≡ mark (past_piece outside (c ∷ d ∷ s) r)
    inner goes None is = one ∙ sym (ap mark (here false goes))
    inner goes (Some t) is =
        let e = outside_ends s t is in
        let less = shorter s t e in
        right t (rest_of_rest text s t rest_two (suc e.at, e.rest)) (omega (arith, within, less))

    by : (closing opening : Bool) → (c == 58 && d == 41) ≡ closing → (c == 40 && d == 58) ≡ opening
        → cond closing (suc (length s)) (cond opening (behind_inner entries (slice_index entries (length s)) (d ∷ s)) (slice_index entries (length (d ∷ s))))
        ≡ mark (past_piece outside (c ∷ d ∷ s) (cond opening (outside s) None))
    by true true x y = not_both c d _ x y
    by true false x y = sym (ap mark (here true x))
    by false true x y = ap (λ (k : ℕ). behind_inner entries k (d ∷ s)) (right s rest_two (omega (arith, within))) ∙ inner x (outside s) refl
    by false false x y = one ∙ sym (ap mark (here false x))

  pub comment_end_right : (u : Text) → IsRestOf text u → length u ≤ n → comment_end_before u entries ≡ mark (outside u)
  comment_end_right [] rest within = sym (ap mark outside_none)
  comment_end_right (c ∷ []) rest within = right [] (rest_rests text 1 (c ∷ []) rest) (omega (arith, within)) ∙ sym (ap mark (outside_one c))
  comment_end_right (c ∷ d ∷ s) rest within = entry_right c d s rest within ∙ sym (ap mark (outside_two c d s))

-- ---- all entries

pub table_len : (text : Text) (n : ℕ) → length (comment_ends_below text n) ≡ n
table_len text zero = refl
table_len text (suc n) =
    let e = table_len text n in
    omega (arith, e, length-append (comment_ends_below text n) (comment_end_before (drop (length text - n) text) (comment_ends_below text n) ∷ []))

pub table_right : (text : Text) (n : ℕ) → n ≤ length text + 1 → IsRight text (comment_ends_below text n) n
table_right text zero fits s rest within = absurd (omega (arith, within))
table_right text (suc n) fits s rest within =
    by (table_right text n (omega arith)) (cases_lt (length s) n)
  where
    entries : List ℕ
    entries = comment_ends_below text n

    by : IsRight text (comment_ends_below text n) n → (length s < n) ⊎ (n ≤ length s) → slice_index (comment_ends_below text (suc n)) (length s) ≡ mark (outside s)
    by right (inl less) = get_or-append (comment_ends_below text n) _ 0 (length s) (omega (arith, less, table_len text n)) ∙ right s rest less
    by right (inr more) =
        let same : length s ≡ n = omega (arith, within, more) in
        let begins : drop (length text - n) text ≡ s =
        ap (λ (k : ℕ). drop (length text - k) text) (sym same) ∙ ap (λ (l : Text). drop (length text - length l) text) rest.1 ∙ drop_back rest.0 text ∙ sym rest.1 in
        ap (λ (k : ℕ). get_or (comment_ends_below text (suc n)) k 0) (same ∙ sym (table_len text n))
        ∙ get_or-append_seam (comment_ends_below text n) (comment_end_before (drop (length text - n) text) (comment_ends_below text n)) [] 0
        ∙ ap (λ (l : Text). comment_end_before l (comment_ends_below text n)) begins
        ∙ comment_end_right text (comment_ends_below text n) n right s rest (omega (arith, same))

-- ---- comments by the table

closed_right : (u : Text) (r : Option Text) → outside u ≡ r → closed (mark r) u ≡ of_rest r
closed_right u None is = refl
closed_right u (Some t) is =
    let e = outside_ends u t is in
    let less = shorter u t e in
    let size : length t ≡ length (drop (suc e.at) u) = ap length e.rest in
    let from : length u - length t ≡ suc e.at = omega (arith, length-drop (suc e.at) u, e.within) in
    let at : length u - length t - 1 ≡ e.at = omega (arith, from) in
    let test : (nat_lt (length t) (length u) && slice_index u (length u - length t - 1) == 41) ≡ true =
    ap (λ (b : Bool). b && slice_index u (length u - length t - 1) == 41) (lt-ltb (length t) (length u) less)
    ∙ ap (λ (k : ℕ). slice_index u k == 41) at ∙ ap (λ (k : ℕ). k == 41) e.closed in
    ap (λ (b : Bool). cond {A = Outcome} b (Ok (nothing, drop (length u - length t) u)) (Err Refused)) test
    ∙ ap (λ (l : Text). Ok (nothing, l)) (ap (λ (k : ℕ). drop k u) from ∙ sym e.rest)

pub table_reads : (entries : List ℕ) (s : Text) → ((u : Text) → IsRestOf s u → slice_index entries (length u) ≡ mark (outside u)) → looked_up entries s ≡ of_rest (behind_comment (length s) s)
unfolding word_at behind_comment
table_reads entries [] right = refl
table_reads entries (c ∷ []) right =
    ap (λ (b : Bool). and_then (cond {A = Outcome} b (Ok (nothing, [])) (Err Refused)) (λ x. closed (slice_index entries (length x.1)) x.1)) (one_never_opens c)
    ∙ sym (ap (λ (b : Bool). of_rest (cond b (inside (behind_comment 0) 1 []) None)) (one_never_opens c))
table_reads entries (c ∷ d ∷ u) right = by (opens (c ∷ d ∷ u)) ∙ sym (ap of_rest (comment_outside c d u)) where
  by : (b : Bool) → and_then (cond {A = Outcome} b (Ok (nothing, u)) (Err Refused)) (λ x. closed (slice_index entries (length x.1)) x.1) ≡ of_rest (cond b (outside u) None)
  by true = ap (λ (k : ℕ). closed k u) (right u (2, refl)) ∙ closed_right u (outside u) refl
  by false = refl

pub filled_right : (text : Text) → AreCommentEnds text (comment_ends_below text (length text + 1))
filled_right text n =
    let rest : IsRestOf text (drop n text) = (n, refl) in
    table_reads (comment_ends_below text (length text + 1)) (drop n text) (λ u r.
    let within : length u < length text + 1 = omega (arith, ap length r.1, length-drop r.0 (drop n text), length-drop n text) in
    table_right text (length text + 1) (omega arith) u (rest_of_rest text (drop n text) u rest r) within)
    ∙ sym (comments_are (length (drop n text)) (drop n text))

-- ---- where there is no comment at all

never_opens : (text : Text) → ((i : ℕ) → i ≤ length text → LacksTextAt (codes "(:") text i) → (n : ℕ) → opens (drop n text) ≡ false
never_opens text lacks n = by (drop n text) refl where
  by : (s : Text) → drop n text ≡ s → opens s ≡ false
  by [] is = refl
  by (c ∷ []) is = one_never_opens c
  by (c ∷ d ∷ u) is = opened (opens (c ∷ d ∷ u)) refl where
    opened : (b : Bool) → opens (c ∷ d ∷ u) ≡ b → b ≡ false
    opened false e = refl
    opened true e =
        let parts = and_parts (c == 40) (d == 58) (sym (opens_is c d u) ∙ e) in
        let word : c ∷ d ∷ u ≡ 40 ∷ 58 ∷ u = ap (λ (x : ℕ). x ∷ d ∷ u) (eqb-true c 40 parts.0) ∙ ap (λ (x : ℕ). 40 ∷ x ∷ u) (eqb-true d 58 parts.1) in
        let size : length (drop n text) ≡ length (c ∷ d ∷ u) = ap length is in
        absurd (lacks n (omega (arith, length-drop n text)) u (is ∙ word))

pub none_right : (text : Text) → ((i : ℕ) → i ≤ length text → LacksTextAt (codes "(:") text i) → AreCommentEnds text []
unfolding word_at behind_comment
none_right text lacks n = by (drop n text) (never_opens text lacks n) ∙ sym (comments_are (length (drop n text)) (drop n text)) where
  by : (s : Text) → opens s ≡ false → looked_up [] s ≡ of_rest (behind_comment (length s) s)
  by [] e = refl
  by (c ∷ s) e =
      ap (λ (b : Bool). and_then (cond {A = Outcome} b (Ok (nothing, drop 2 (c ∷ s))) (Err Refused)) (λ x. closed (slice_index [] (length x.1)) x.1)) e
      ∙ sym (ap (λ (b : Bool). of_rest (cond b (inside (behind_comment (length s)) (suc (length (drop 2 (c ∷ s)))) (drop 2 (c ∷ s))) None)) e)
