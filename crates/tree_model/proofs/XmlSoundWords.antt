-- A word without line ends that isn't in a text isn't there behind the change of its line ends.
use Rattle.std.proofs.Common.{◌≡◌, inl, inr, ℕ, Bool, true, false, cond, not, ◌&&◌, ◌||◌, ◌==◌, List, [], ◌∷◌, ◌++◌, refl, sym, ap, ◌∙◌, arith}
use Rattle.std.specs.Prelude.{codes}
use Rattle.std.specs.List.{list_all}
use Rattle.std.proofs.lemmas.Bool.{and_parts, and_from, or_left, or_right, or_cases, or_from, false_from_ne_true, false≢true, not-true, cond-false, and_right}
use Rattle.std.proofs.lemmas.Bool.Decides.{nat_tests}
use Rattle.tree_model.specs.XmlChars.{begins_with, has_word, is_free}
use Rattle.tree_model.specs.XmlMeaning.{line_ends_from, line_ends}

-- neither CR nor LF
abbrev pub is_inline : ℕ → Bool
is_inline c = not (c == 13) && not (c == 10)

no_lf : (c : ℕ) → is_inline c ≡ true → (10 == c) ≡ false
no_lf c h = grind (arith, nat_tests)

-- bytes behind a text that have no line ends stay
line_ends_then : (was : Bool) (bytes more : List ℕ) → list_all is_inline more ≡ true → line_ends_from was (bytes ++ more) ≡ line_ends_from was bytes ++ more
line_ends_then was [] [] h = refl
line_ends_then was [] (c ∷ more) h =
    let p = and_parts (is_inline c) (list_all is_inline more) h in
    let no_cr : (c == 13) ≡ false = not-true _ (and_parts _ _ p.0).0 in
    let lf : (c == 10) ≡ false = not-true _ (and_parts _ _ p.0).1 in
    cond-false _ _ _ no_cr ∙ cond-false _ _ _ (and_right was _ lf) ∙ ap (λ l. c ∷ l) (line_ends_then false [] more p.1)
line_ends_then was (c ∷ bytes) more h = by (c == 13) (was && c == 10) (line_ends_then true bytes more h) (line_ends_then false bytes more h)
  where
    by : (b d : Bool) → line_ends_from true (bytes ++ more) ≡ line_ends_from true bytes ++ more → line_ends_from false (bytes ++ more) ≡ line_ends_from false bytes ++ more
        → cond b (10 ∷ line_ends_from true (bytes ++ more)) (cond d (line_ends_from false (bytes ++ more)) (c ∷ line_ends_from false (bytes ++ more)))
        ≡ cond b (10 ∷ line_ends_from true bytes) (cond d (line_ends_from false bytes) (c ∷ line_ends_from false bytes)) ++ more
    by true d a b = ap (λ l. 10 ∷ l) a
    by false true a b = b
    by false false a b = ap (λ l. c ∷ l) b

-- a word that begins the text with its line ends changed begins the text
begins_line : (word bytes : List ℕ) → list_all is_inline word ≡ true → begins_with word (line_ends_from false bytes) ≡ true → begins_with word bytes ≡ true
begins_line [] bytes h k = refl
begins_line (c ∷ word) [] h k = k
begins_line (c ∷ word) (b ∷ bytes) h k =
    let p = and_parts (is_inline c) (list_all is_inline word) h in
    by (b == 13) (no_lf c p.0) (begins_line word bytes p.1) k
  where
    by : (cr : Bool) → (10 == c) ≡ false → (begins_with word (line_ends_from false bytes) ≡ true → begins_with word bytes ≡ true)
        → begins_with (c ∷ word) (cond cr (10 ∷ line_ends_from true bytes) (cond false (line_ends_from false bytes) (b ∷ line_ends_from false bytes))) ≡ true → (b == c && begins_with word bytes) ≡ true
    by true differs more k = absurd (false≢true (sym differs ∙ (and_parts (10 == c) (begins_with word (line_ends_from true bytes)) k).0))
    by false differs more k = let p = and_parts (b == c) (begins_with word (line_ends_from false bytes)) k in and_from _ _ p.0 (more p.1)

has_line : (c : ℕ) (word : List ℕ) (was : Bool) (bytes : List ℕ) → list_all is_inline (c ∷ word) ≡ true → has_word (c ∷ word) (line_ends_from was bytes) ≡ true → has_word (c ∷ word) bytes ≡ true
has_line c word was [] h k = k
has_line c word was (b ∷ bytes) h k =
    let p = and_parts (is_inline c) (list_all is_inline word) h in
    by (b == 13) (was && b == 10) (no_lf c p.0) (begins_line word bytes p.1) (has_line c word true bytes h) (has_line c word false bytes h) k
  where
    by : (cr lf : Bool) → (10 == c) ≡ false → (begins_with word (line_ends_from false bytes) ≡ true → begins_with word bytes ≡ true)
        → (has_word (c ∷ word) (line_ends_from true bytes) ≡ true → has_word (c ∷ word) bytes ≡ true)
        → (has_word (c ∷ word) (line_ends_from false bytes) ≡ true → has_word (c ∷ word) bytes ≡ true)
        → has_word (c ∷ word) (cond cr (10 ∷ line_ends_from true bytes) (cond lf (line_ends_from false bytes) (b ∷ line_ends_from false bytes))) ≡ true
        → ((b == c && begins_with word bytes) || has_word (c ∷ word) bytes) ≡ true
    by true lf differs begins after_cr after k = elim (or_cases (10 == c && begins_with word (line_ends_from true bytes)) (has_word (c ∷ word) (line_ends_from true bytes)) k) [
      | inl here ↦ absurd (false≢true (sym differs ∙ (and_parts (10 == c) (begins_with word (line_ends_from true bytes)) here).0))
      | inr there ↦ or_right _ _ (after_cr there)
    ]
    by false true differs begins after_cr after k = or_right _ _ (after k)
    by false false differs begins after_cr after k = elim (or_cases (b == c && begins_with word (line_ends_from false bytes)) (has_word (c ∷ word) (line_ends_from false bytes)) k) [
      | inl here ↦ let p = and_parts (b == c) (begins_with word (line_ends_from false bytes)) here in or_left _ _ (and_from _ _ p.0 (begins p.1))
      | inr there ↦ or_right _ _ (after there)
    ]

no_word : (c : ℕ) (word bytes : List ℕ) → list_all is_inline (c ∷ word) ≡ true → has_word (c ∷ word) bytes ≡ false → has_word (c ∷ word) (line_ends bytes) ≡ false
unfolding line_ends
no_word c word bytes h k = false_from_ne_true _ (λ e. false≢true (sym k ∙ has_line c word false bytes h e))

-- a word of two bytes that is free in a text isn't in it, nor does its second byte follow the first one at the end
free_two : (a b : ℕ) (bytes : List ℕ) → is_free (a ∷ b ∷ []) bytes ≡ true → has_word (a ∷ b ∷ []) bytes ≡ false
free_two a b [] h = refl
free_two a b (c ∷ []) h = or_from _ _ (and_right (c == a) false refl) refl
free_two a b (c ∷ d ∷ bytes) h =
    let p = and_parts (not (begins_with (a ∷ b ∷ []) (c ∷ d ∷ (bytes ++ a ∷ b ∷ [])))) (is_free (a ∷ b ∷ []) (d ∷ bytes)) h in
    or_from _ _ (not-true _ p.0) (free_two a b (d ∷ bytes) p.1)

pub no_end_of_pi : (bytes : List ℕ) → is_free (codes "?>") bytes ≡ true → has_word (codes "?>") (line_ends bytes) ≡ false
no_end_of_pi bytes h = no_word 63 (62 ∷ []) bytes refl (free_two 63 62 bytes h)

no_double : (bytes : List ℕ) → is_free (codes "--") bytes ≡ true → has_word (codes "--") (bytes ++ codes "-") ≡ false
no_double [] h = refl
no_double (c ∷ []) h = or_from _ _ (not-true _ (and_parts _ _ h).0) refl
no_double (c ∷ d ∷ bytes) h =
    let p = and_parts (not (begins_with (codes "--") (c ∷ d ∷ (bytes ++ codes "--")))) (is_free (codes "--") (d ∷ bytes)) h in
    or_from _ _ (not-true _ p.0) (no_double (d ∷ bytes) p.1)

pub no_end_of_comment : (bytes : List ℕ) → is_free (codes "--") bytes ≡ true → has_word (codes "--") (line_ends bytes ++ codes "-") ≡ false
unfolding line_ends
no_end_of_comment bytes h =
    ap (has_word (codes "--")) (sym (line_ends_then false bytes (codes "-") refl)) ∙ no_word 45 (45 ∷ []) (bytes ++ codes "-") refl (no_double bytes h)
