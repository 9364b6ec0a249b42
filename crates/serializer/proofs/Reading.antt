-- Texts that end by a byte 0 are read one at a time.
use Rattle.std.proofs.Common.{◌≡◌, ℕ, suc, ◌+◌, ◌<◌, ◌≤◌, Bool, true, false, cond, List, [], ◌∷◌, ◌++◌, length, take, drop, Some, None, refl, sym, ap, ◌∙◌, arith, add-one, append_assoc, append-nil}
use Rattle.std.specs.Prelude.{◌==◌, not, nat_lt, position, if◌then◌else◌}
use Rattle.std.specs.List.{position_or_len}
use Rattle.std.proofs.lemmas.Bool.{ltb-true, ltb-false}
use Rattle.tree_model.specs.Declarations.{texts_from}

-- where the first byte 0 stands, or the length
abbrev zero_at : List ℕ → ℕ
zero_at bytes = position_or_len (λ b. b == 0) bytes

-- a text and what stands behind it
abbrev cut_at : List ℕ → List ℕ → ℕ → List (List ℕ)
cut_at gathered bytes n = (gathered ++ take n bytes) ∷ texts_from [] (drop (n + 1) bytes)

cut_by : (is_zero : Bool) (gathered bytes : List ℕ) (c n : ℕ) → (n < length bytes → texts_from (gathered ++ c ∷ []) bytes ≡ cut_at (gathered ++ c ∷ []) bytes n)
    → cond (not is_zero) (1 + n) 0 < suc (length bytes) → (if is_zero then gathered ∷ texts_from [] bytes else texts_from (gathered ++ c ∷ []) bytes) ≡ cut_at gathered (c ∷ bytes) (cond (not is_zero) (1 + n) 0)
cut_by true gathered bytes c n more lt = ap (λ (text : List ℕ). text ∷ texts_from [] bytes) (sym (append-nil gathered))
cut_by false gathered bytes c n more lt =
    let further : 1 + n ≡ suc n = omega arith in
    more (omega arith) ∙ ap (λ (text : List ℕ). text ∷ texts_from [] (drop (n + 1) bytes)) (append_assoc gathered (c ∷ []) (take n bytes))
    ∙ ap (λ k. (gathered ++ (c ∷ take n bytes)) ∷ texts_from [] (drop k bytes)) (add-one n)
    ∙ sym (ap (cut_at gathered (c ∷ bytes)) further ∙ ap (λ k. (gathered ++ (c ∷ take n bytes)) ∷ texts_from [] (drop k (c ∷ bytes))) (add-one (suc n)))

cut_is : (gathered bytes : List ℕ) → zero_at bytes < length bytes → texts_from gathered bytes ≡ cut_at gathered bytes (zero_at bytes)
cut_is gathered [] lt = absurd (omega arith)
cut_is gathered (c ∷ bytes) lt = cut_by (c == 0) gathered bytes c (zero_at bytes) (cut_is (gathered ++ c ∷ []) bytes) lt

none_by : (is_zero : Bool) (gathered bytes : List ℕ) (c n : ℕ) → (length bytes ≤ n → texts_from (gathered ++ c ∷ []) bytes ≡ []) → suc (length bytes) ≤ cond (not is_zero) (1 + n) 0
    → (if is_zero then gathered ∷ texts_from [] bytes else texts_from (gathered ++ c ∷ []) bytes) ≡ []
none_by true gathered bytes c n more le = absurd (omega arith)
none_by false gathered bytes c n more le = more (omega arith)

none_is : (gathered bytes : List ℕ) → length bytes ≤ zero_at bytes → texts_from gathered bytes ≡ []
none_is gathered [] le = refl
none_is gathered (c ∷ bytes) le = none_by (c == 0) gathered bytes c (zero_at bytes) (none_is (gathered ++ c ∷ []) bytes) le

found_by : (is_there : Bool) (n len k : ℕ) → nat_lt n len ≡ is_there → cond is_there (Some n) None ≡ Some k → (k ≡ n) × (n < len)
found_by true n len k lt is = (cc, ltb-true n len lt)
found_by false n len k lt is = absurd cc

missed_by : (is_there : Bool) (n len : ℕ) → nat_lt n len ≡ is_there → cond is_there (Some n) None ≡ None → len ≤ n
missed_by true n len lt is = absurd cc
missed_by false n len lt is = ltb-false n len lt

pub zero_within : (bytes : List ℕ) (k : ℕ) → position (λ b. b == 0) bytes ≡ Some k → k < length bytes
zero_within bytes k is = let found = found_by _ (zero_at bytes) (length bytes) k refl is in omega (arith, found.0, found.1)

pub text_cut : (bytes : List ℕ) (k : ℕ) → position (λ b. b == 0) bytes ≡ Some k → texts_from [] bytes ≡ take k bytes ∷ texts_from [] (drop (k + 1) bytes)
text_cut bytes k is = let found = found_by _ (zero_at bytes) (length bytes) k refl is in cut_is [] bytes found.1 ∙ ap (cut_at [] bytes) (sym found.0)

pub no_text : (bytes : List ℕ) → position (λ b. b == 0) bytes ≡ None → texts_from [] bytes ≡ []
no_text bytes is = none_is [] bytes (missed_by _ (zero_at bytes) (length bytes) refl is)
