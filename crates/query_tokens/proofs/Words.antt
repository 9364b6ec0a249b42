-- Words and characters at the front of a text.
use Rattle.std.proofs.Common.{◌≡◌, ℕ, zero, suc, ◌-◌, ◌≤◌, [], ◌∷◌, ◌++◌, length, take, drop, nat_eq, length-drop, true, refl, ap, sym, ◌∙◌, subst, arith, zero-add, Some, None}
use Rattle.std.specs.Prelude.{slice_get, ◌==◌}
use Rattle.std.specs.List.{starts_with}
use Rattle.std.specs.Str.{IsUtf8, IsCharBoundary, chars}
use Rattle.std.specs.Char.{encode_utf8, len_utf8}
use Rattle.std.proofs.lemmas.Bool.{and_parts, eqb-true}
use Rattle.std.proofs.lemmas.Str.{IsCharBoundary-from_take, IsCharBoundary-from_drop, chars-nil, drop_past_char}
use Rattle.tree_model.specs.XmlChars.{begins_with}
use Rattle.xml_pieces.proofs.Finding.{starts_is}
use Rattle.query_terms.specs.Rule.{Text, first, first_before}

-- a word that begins a text is its front
pub begins_front : (w s : Text) → begins_with w s ≡ true → (length w ≤ length s) × (take (length w) s ≡ w)
begins_front [] s e = (omega arith, refl)
begins_front (c ∷ w) [] e = absurd (cc)
begins_front (c ∷ w) (b ∷ s) e =
    let parts = and_parts (b == c) (begins_with w s) e in
    let later = begins_front w s parts.1 in
    (omega (arith, later.0), ap (λ x. x ∷ take (length w) s) (eqb-true b c parts.0) ∙ ap (λ l. c ∷ l) later.1)

pub word_boundary : (s w : Text) → IsUtf8 s → IsUtf8 w → starts_with nat_eq s w ≡ true → IsCharBoundary s (length w)
word_boundary s w utf8 word e =
    let front = begins_front w s (sym (starts_is w s) ∙ e) in
    IsCharBoundary-from_take s (length w) utf8 front.0 (subst IsUtf8 (sym front.1) word)

pub first_none : (s : Text) → length s ≡ 0 → first s ≡ None
unfolding first
first_none [] e = ap (λ cs. first_before cs []) chars-nil
first_none (c ∷ s) e = absurd (omega arith)

pub first_some : (s t : Text) (c : ℕ) → s ≡ encode_utf8 c ++ t → Some c ≡ slice_get (chars s) 0 → first s ≡ Some (c, t)
unfolding first
first_some s t c begins is = by (chars s) is where
  by : (cs : Text) → Some c ≡ slice_get cs 0 → first_before cs s ≡ Some (c, t)
  by [] e = absurd (cc)
  by (d ∷ cs) e =
      let same : c ≡ d = cc in
      ap (λ (x : ℕ). Some (x, drop (len_utf8 x) s)) (sym same) ∙ ap (λ (l : Text). Some (c, l)) (sym (ap (λ (n : ℕ). drop n s) (zero-add (len_utf8 c))) ∙ drop_past_char s t 0 c begins)

-- a rest of a text, by its length
pub drop_back : (n : ℕ) (s : Text) → drop (length s - length (drop n s)) s ≡ drop n s
drop_back zero s = let none : length s - length s ≡ 0 = omega arith in ap (λ (k : ℕ). drop k s) none
drop_back (suc n) [] = refl
drop_back (suc n) (c ∷ s) =
    let size = length-drop n s in
    let more : length (c ∷ s) - length (drop n s) ≡ suc (length s - length (drop n s)) = omega arith in
    ap (λ (k : ℕ). drop k (c ∷ s)) more ∙ drop_back n s

pub rest_boundary : (n : ℕ) (s t : Text) → t ≡ drop n s → IsUtf8 t → IsCharBoundary s (length s - length t)
rest_boundary n s t is utf8 =
    let same : drop (length s - length t) s ≡ t = ap (λ (l : Text). drop (length s - length l) s) is ∙ drop_back n s ∙ sym is in
    IsCharBoundary-from_drop s (length s - length t) (omega arith) (subst IsUtf8 (sym same) utf8)
