-- Comments as the texts that they leave: what is inside a comment is read character by character, and by whole comments.
use Rattle.std.proofs.Common.{◌≡◌, ℕ, zero, suc, [], ◌∷◌, length, nat_eq, drop, cond, Bool, true, false, refl, ap, ◌∙◌, Option, Some, None, Ok, Err}
use Rattle.std.specs.Prelude.{codes, if◌then◌else◌}
use Rattle.std.specs.List.{starts_with}
use Rattle.query_terms.specs.Rule.{Text, Value, nothing, empty, more, list, Outcome, turns, turn, and_then, or_else, unless, join, listed, word_at, any_at, fits}
use Rattle.query_terms.specs.declared.stop.Stop.TheVariants.{Refused}
use Rattle.query_terms.specs.Lexis.{comments, comment_rule, comment_piece}

abbrev pub opens : Text → Bool
opens s = starts_with nat_eq s (codes "(:")

abbrev pub closes : Text → Bool
closes s = starts_with nat_eq s (codes ":)")

abbrev pub end_at : Text → Option Text
end_at u = if closes u then Some (drop 2 u) else None

-- past one character
abbrev pub past_one : (Text → Option Text) → Text → Option Text
past_one go [] = None
past_one go (c ∷ s) = go s

-- past a comment that is read, or the end of the outer one, or one character
abbrev pub past_piece : (Text → Option Text) → Text → Option Text → Option Text
past_piece go u (Some t) = go t
past_piece go u None = if closes u then Some (drop 2 u) else past_one go u

-- what stands behind a comment, from inside it, where f reads the inner ones
unfoldable pub inside : (Text → Option Text) → ℕ → Text → Option Text
inside f zero u = end_at u
inside f (suc m) u = past_piece (inside f m) u (f u)

-- what stands behind a comment
unfoldable pub behind_comment : ℕ → Text → Option Text
behind_comment zero s = None
behind_comment (suc n) s = if opens s then inside (behind_comment n) (suc (length (drop 2 s))) (drop 2 s) else None

abbrev pub of_rest : Option Text → Outcome
of_rest None = Err Refused
of_rest (Some t) = Ok (nothing, t)

-- ---- the table's rule for comments leaves these texts

abbrev piece : ℕ → Text → Outcome
piece n = fits 0 (λ recursion. comments n) comment_piece

abbrev one_piece : Outcome → Outcome → Text → Outcome
one_piece inner closing u = or_else inner (and_then (unless closing u) (λ x. and_then (any_at x.1) (λ y. Ok (join x.0 y.0, y.1))))

abbrev finished : Outcome → Outcome
finished o = and_then (and_then (and_then (and_then o listed) (λ x. and_then (word_at (codes ":)") x.1) (λ y. Ok (join x.0 y.0, y.1)))) (λ y. Ok (join nothing y.0, y.1))) (λ z. Ok (nothing, z.1))

ends_is : (v : Value) (u : Text) → finished (Ok (v, u)) ≡ of_rest (end_at u)
unfolding word_at
ends_is v u = by (closes u) where
  by : (b : Bool) → and_then (and_then (and_then (cond {A = Outcome} b (Ok (nothing, drop 2 u)) (Err Refused)) (λ y. Ok (join (list v) y.0, y.1))) (λ y. Ok (join nothing y.0, y.1))) (λ z. Ok (nothing, z.1))
      ≡ of_rest (cond b (Some (drop 2 u)) None)
  by true = refl
  by false = refl

inside_is : (n : ℕ) → ((s : Text) → comments n s ≡ of_rest (behind_comment n s)) → (m : ℕ) (v : Value) (u : Text) → finished (turns m (piece n) v u) ≡ of_rest (inside (behind_comment n) m u)
unfolding turns inside comment_piece word_at any_at
inside_is n same zero v u = ends_is v u
inside_is n same (suc m) v u =
    ap (λ (o : Outcome). finished (turn (turns m (piece n)) v u (one_piece o (word_at (codes ":)") u) u))) (same u)
    ∙ by (λ w t. inside_is n same m w t) (behind_comment n u)
  where
    at_end : (b : Bool) → closes u ≡ b → ((w : Value) (t : Text) → finished (turns m (piece n) w t) ≡ of_rest (inside (behind_comment n) m t))
        → finished (turn (turns m (piece n)) v u (one_piece (Err Refused) (cond {A = Outcome} b (Ok (nothing, drop 2 u)) (Err Refused)) u))
        ≡ of_rest (cond b (Some (drop 2 u)) (past_one (inside (behind_comment n) m) u))
    at_end true is later = ends_is v u ∙ ap (λ (b : Bool). of_rest (cond b (Some (drop 2 u)) None)) is
    at_end false is later = at_one u is later
      where
        at_one : (t : Text) → closes t ≡ false → ((w : Value) (r : Text) → finished (turns m (piece n) w r) ≡ of_rest (inside (behind_comment n) m r))
            → finished (turn (turns m (piece n)) v t (and_then (any_at t) (λ y. Ok (join nothing y.0, y.1)))) ≡ of_rest (past_one (inside (behind_comment n) m) t)
        at_one [] is later = ends_is v []
        at_one (c ∷ s) is later = later (more v nothing) s

    by : ((w : Value) (t : Text) → finished (turns m (piece n) w t) ≡ of_rest (inside (behind_comment n) m t)) → (r : Option Text)
        → finished (turn (turns m (piece n)) v u (one_piece (of_rest r) (word_at (codes ":)") u) u)) ≡ of_rest (past_piece (inside (behind_comment n) m) u r)
    by later (Some t) = later (more v nothing) t
    by later None = at_end (closes u) refl later

pub comments_are : (n : ℕ) (s : Text) → comments n s ≡ of_rest (behind_comment n s)
unfolding comments comment_rule behind_comment word_at
comments_are zero s = refl
comments_are (suc n) s = by (opens s) (comments_are n) where
  by : (b : Bool) → ((t : Text) → comments n t ≡ of_rest (behind_comment n t)) → and_then (and_then (cond {A = Outcome} b (Ok (nothing, drop 2 s)) (Err Refused)) (λ x. and_then
      (and_then (and_then (turns (suc (length x.1)) (piece n) empty x.1) listed) (λ a. and_then (word_at (codes ":)") a.1) (λ y. Ok (join a.0 y.0, y.1))))
      (λ y. Ok (join x.0 y.0, y.1)))) (λ z. Ok (nothing, z.1))
      ≡ of_rest (cond b (inside (behind_comment n) (suc (length (drop 2 s))) (drop 2 s)) None)
  by true same = inside_is n same (suc (length (drop 2 s))) empty (drop 2 s)
  by false same = refl
