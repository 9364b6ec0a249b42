-- Where comments end does not hang on how many turns and nested comments are allowed, if there are as many as bytes.
use Rattle.std.proofs.Common.{◌≡◌, ℕ, zero, suc, ◌+◌, ◌<◌, ◌≤◌, [], ◌∷◌, length, length-drop, get_or, drop, cond, Bool, true, false, refl, ap, sym, ◌∙◌, arith, Option, Some, None}
use Rattle.std.specs.Prelude.{if◌then◌else◌, ◌==◌, ◌&&◌}
use Rattle.std.proofs.lemmas.List.{drop-drop}
use Rattle.std.proofs.lemmas.Bool.{and_parts, eqb-true}
use Rattle.std.proofs.Math.Seq.{get_or-drop}
use Rattle.query_terms.specs.Rule.{Text}
use Rattle.query_tokens.proofs.Comments.{opens, closes, end_at, past_one, past_piece, inside, behind_comment}

-- t is what stands in u behind a closing parenthesis
pub record EndsAt (u t : Text) : Type 0 where
  pub at : ℕ
  pub rest : t ≡ drop (suc at) u
  pub within : at < length u
  pub closed : get_or u at 0 ≡ 41

abbrev pub Ends : (Text → Option Text) → Type 0
Ends f = (s t : Text) → f s ≡ Some t → EndsAt s t

pub shorter : (u t : Text) → EndsAt u t → length t < length u
shorter u t e = let size : length t ≡ length (drop (suc e.at) u) = ap length e.rest in omega (arith, length-drop (suc e.at) u, e.within)

pub ends_later : (c : ℕ) (u t : Text) → EndsAt u t → EndsAt (c ∷ u) t
ends_later c u t e = record { at = suc e.at; rest = e.rest; within = omega (arith, e.within); closed = e.closed }

pub ends_behind : (u t w : Text) → EndsAt u t → EndsAt t w → EndsAt u w
ends_behind u t w a b =
    let place : suc a.at + suc b.at ≡ suc (suc a.at + b.at) = omega arith in
    let near : get_or (drop (suc a.at) u) b.at 0 ≡ get_or u (suc a.at + b.at) 0 = get_or-drop (suc a.at) u b.at 0 in
    let size : length t ≡ length (drop (suc a.at) u) = ap length a.rest in
    record {
      at = suc a.at + b.at;
      rest = b.rest ∙ ap (drop (suc b.at)) a.rest ∙ drop-drop (suc b.at) (suc a.at) u ∙ ap (λ (n : ℕ). drop n u) place;
      within = omega (arith, length-drop (suc a.at) u, a.within, b.within);
      closed = sym near ∙ ap (λ (l : Text). get_or l b.at 0) (sym a.rest) ∙ b.closed;
    }

pub closes_here : (u t : Text) → closes u ≡ true → Some (drop 2 u) ≡ Some t → EndsAt u t
closes_here [] t is e = absurd (cc)
closes_here (c ∷ []) t is e = let second = (and_parts (58 == c) false is).1 in absurd (cc)
closes_here (c ∷ d ∷ s) t is e =
    let second = (and_parts (41 == d) true (and_parts (58 == c) ((41 == d) && true) is).1).0 in
    record { at = 1; rest = cc; within = omega arith; closed = sym (eqb-true 41 d second) }

pub end_ends : (u t : Text) → end_at u ≡ Some t → EndsAt u t
end_ends u t e = by (closes u) refl e where
  by : (b : Bool) → closes u ≡ b → cond {A = Option Text} b (Some (drop 2 u)) None ≡ Some t → EndsAt u t
  by true is e = closes_here u t is e
  by false is e = absurd (cc)

pub inside_ends : (f : Text → Option Text) → Ends f → (m : ℕ) → Ends (inside f m)
unfolding inside
inside_ends f ends zero u t e = end_ends u t e
inside_ends f ends (suc m) u t e = by (inside_ends f ends m) (f u) refl e where
  by_one : Ends (inside f m) → (s : Text) → past_one (inside f m) s ≡ Some t → EndsAt s t
  by_one later [] e = absurd (cc)
  by_one later (c ∷ s) e = ends_later c s t (later s t e)

  by_end : Ends (inside f m) → (b : Bool) → closes u ≡ b → cond {A = Option Text} b (Some (drop 2 u)) (past_one (inside f m) u) ≡ Some t → EndsAt u t
  by_end later true is e = closes_here u t is e
  by_end later false is e = by_one later u e

  by : Ends (inside f m) → (r : Option Text) → f u ≡ r → past_piece (inside f m) u r ≡ Some t → EndsAt u t
  by later (Some w) is e = ends_behind u w t (ends u w is) (later w t e)
  by later None is e = by_end later (closes u) refl e

pub ends_in_rest : (u t : Text) → EndsAt (drop 2 u) t → EndsAt u t
ends_in_rest [] t e = absurd (let none = e.within in omega arith)
ends_in_rest (c ∷ []) t e = absurd (let none = e.within in omega arith)
ends_in_rest (c ∷ d ∷ s) t e = ends_later c (d ∷ s) t (ends_later d s t e)

pub behind_ends : (n : ℕ) → Ends (behind_comment n)
unfolding behind_comment
behind_ends zero s t e = absurd (cc)
behind_ends (suc n) s t e = by (behind_ends n) (opens s) e where
  by : Ends (behind_comment n) → (b : Bool) → cond {A = Option Text} b (inside (behind_comment n) (suc (length (drop 2 s))) (drop 2 s)) None ≡ Some t → EndsAt s t
  by ends true e = ends_in_rest s t (inside_ends (behind_comment n) ends (suc (length (drop 2 s))) (drop 2 s) t e)
  by ends false e = absurd (cc)

-- ---- the bounds

nothing_read : (f : Text → Option Text) → Ends f → f [] ≡ None
nothing_read f ends = by (f []) refl where
  by : (r : Option Text) → f [] ≡ r → r ≡ None
  by None is = refl
  by (Some t) is = let within = (ends [] t is).within in absurd (omega arith)

none_inside : (f : Text → Option Text) → Ends f → (m : ℕ) → inside f m [] ≡ None
unfolding inside
none_inside f ends zero = refl
none_inside f ends (suc m) = ap (past_piece (inside f m) []) (nothing_read f ends)

pub inside_same : (f g : Text → Option Text) (bound : ℕ) → ((s : Text) → length s ≤ bound → f s ≡ g s) → Ends f → Ends g
    → (m k : ℕ) (u : Text) → length u ≤ bound → length u ≤ m → length u ≤ k → inside f m u ≡ inside g k u
unfolding inside
inside_same f g bound same ends others zero k [] b hm hk = none_inside f ends zero ∙ sym (none_inside g others k)
inside_same f g bound same ends others zero k (c ∷ u) b hm hk = absurd (omega arith)
inside_same f g bound same ends others (suc m) zero [] b hm hk = none_inside f ends (suc m) ∙ sym (none_inside g others zero)
inside_same f g bound same ends others (suc m) zero (c ∷ u) b hm hk = absurd (omega arith)
inside_same f g bound same ends others (suc m) (suc k) u b hm hk =
    by (λ t x y z. inside_same f g bound same ends others m k t x y z) (f u) refl ∙ ap (past_piece (inside g k) u) (same u b)
  where
    by_one : ((t : Text) → length t ≤ bound → length t ≤ m → length t ≤ k → inside f m t ≡ inside g k t) → (s : Text) → length s ≤ bound → length s ≤ suc m → length s ≤ suc k → past_one (inside f m) s ≡ past_one (inside g k) s
    by_one later [] b x y = refl
    by_one later (c ∷ s) b x y = later s (omega arith) (omega arith) (omega arith)

    by_end : ((t : Text) → length t ≤ bound → length t ≤ m → length t ≤ k → inside f m t ≡ inside g k t) → (e : Bool) → cond {A = Option Text} e (Some (drop 2 u)) (past_one (inside f m) u) ≡ cond e (Some (drop 2 u)) (past_one (inside g k) u)
    by_end later true = refl
    by_end later false = by_one later u b hm hk

    by : ((t : Text) → length t ≤ bound → length t ≤ m → length t ≤ k → inside f m t ≡ inside g k t) → (r : Option Text) → f u ≡ r → past_piece (inside f m) u r ≡ past_piece (inside g k) u r
    by later (Some t) is = let less = shorter u t (ends u t is) in later t (omega arith) (omega arith) (omega arith)
    by later None is = by_end later (closes u)

pub behind_same : (m n : ℕ) (s : Text) → length s ≤ m → length s ≤ n → behind_comment m s ≡ behind_comment n s
unfolding behind_comment
behind_same zero zero s a b = refl
behind_same zero (suc n) [] a b = refl
behind_same zero (suc n) (c ∷ s) a b = absurd (omega arith)
behind_same (suc m) zero [] a b = refl
behind_same (suc m) zero (c ∷ s) a b = absurd (omega arith)
behind_same (suc m) (suc n) [] a b = refl
behind_same (suc m) (suc n) (c ∷ []) a b = by (opens (c ∷ [])) where
  by : (e : Bool) → cond e (inside (behind_comment m) 1 []) None ≡ cond e (inside (behind_comment n) 1 []) None
  by true = none_inside (behind_comment m) (behind_ends m) 1 ∙ sym (none_inside (behind_comment n) (behind_ends n) 1)
  by false = refl
behind_same (suc m) (suc n) (c ∷ d ∷ s) a b =
    ap (λ (r : Option Text). if opens (c ∷ d ∷ s) then r else None)
    (inside_same (behind_comment m) (behind_comment n) (length s) (λ t h. behind_same m n t (omega arith) (omega arith)) (behind_ends m) (behind_ends n)
    (suc (length s)) (suc (length s)) s (omega arith) (omega arith) (omega arith))

-- ---- what stands behind the comment of which this is the inside

unfoldable pub outside : Text → Option Text
outside u = inside (behind_comment (length u)) (length u) u

pub inside_outside : (n m : ℕ) (u : Text) → length u ≤ n → length u ≤ m → inside (behind_comment n) m u ≡ outside u
unfolding outside
inside_outside n m u a b = inside_same (behind_comment n) (behind_comment (length u)) (length u) (λ s h. behind_same n (length u) s (omega arith) h) (behind_ends n) (behind_ends (length u))
    m (length u) u (omega arith) b (omega arith)

pub outside_ends : (u t : Text) → outside u ≡ Some t → EndsAt u t
unfolding outside
outside_ends u t e = inside_ends (behind_comment (length u)) (behind_ends (length u)) (length u) u t e

pub outside_none : outside [] ≡ None
unfolding outside
outside_none = none_inside (behind_comment 0) (behind_ends 0) 0

-- one piece
pub outside_step : (c : ℕ) (s : Text) → outside (c ∷ s) ≡ past_piece outside (c ∷ s) (behind_comment (suc (length s)) (c ∷ s))
unfolding outside inside
outside_step c s = by (behind_comment (suc (length s)) (c ∷ s)) refl where
  by_end : (b : Bool) → cond {A = Option Text} b (Some (drop 2 (c ∷ s))) (inside (behind_comment (suc (length s))) (length s) s) ≡ cond b (Some (drop 2 (c ∷ s))) (outside s)
  by_end true = refl
  by_end false = inside_outside (suc (length s)) (length s) s (omega arith) (omega arith)

  by : (r : Option Text) → behind_comment (suc (length s)) (c ∷ s) ≡ r → past_piece (inside (behind_comment (suc (length s))) (length s)) (c ∷ s) r ≡ past_piece outside (c ∷ s) r
  by (Some t) is = let less = shorter (c ∷ s) t (behind_ends (suc (length s)) (c ∷ s) t is) in inside_outside (suc (length s)) (length s) t (omega arith) (omega arith)
  by None is = by_end (closes (c ∷ s))

pub comment_outside : (c : ℕ) (d : ℕ) (s : Text) → behind_comment (suc (length (d ∷ s))) (c ∷ d ∷ s) ≡ (if opens (c ∷ d ∷ s) then outside s else None)
unfolding behind_comment
comment_outside c d s = ap (λ (r : Option Text). if opens (c ∷ d ∷ s) then r else None) (inside_outside (length (d ∷ s)) (suc (length s)) s (omega arith) (omega arith))
