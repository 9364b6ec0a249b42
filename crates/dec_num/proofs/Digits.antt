-- Digits before and behind a point.
use Rattle.std.proofs.Common.{◌≡◌, ℕ, ◌+◌, ◌-◌, ◌*◌, ◌<◌, ◌^◌, suc, min, Bool, true, false, not, ◌&&◌, List, [], ◌∷◌, ◌++◌, length, take, drop, get_or, replicate, refl, sym, ap, subst, ◌∙◌, arith}
use Rattle.std.specs.Char.{is_ascii_digit, digit_value}
use Rattle.std.specs.List.{list_all}
use Rattle.std.specs.Str.Parse.{AllDigits, digits_value, digits_value_after}
use Rattle.std.proofs.lemmas.Bool.Decides.{nat_tests}
use Rattle.std.proofs.Math.Nat.{pow-suc}
use Rattle.std.proofs.lemmas.Int.Digits.{digits_value_more, digits_value-lt}
use Rattle.std.proofs.lemmas.List.Folds.{list_all-append}
use Rattle.tree_model.specs.Numbers.{no_number, is_zero_digit, ranged, millionths, of_digits}
use Rattle.tree_model.specs.Sound.{is_empty}

digit_value_is : (c : ℕ) → is_ascii_digit c ≡ true → digit_value c ≡ c - 48
digit_value_is c h = grind (arith, nat_tests)

digit_value_below : (c : ℕ) → is_ascii_digit c ≡ true → digit_value c < 10
digit_value_below c h = grind (arith, nat_tests)

-- one digit more, where what is out of range stays there
cap_again : (v d : ℕ) → min (min v (10 ^ 12) * 10 + d) (10 ^ 12) ≡ min (v * 10 + d) (10 ^ 12)
cap_again v d = omega arith

pub capped_more :
    (digits : List ℕ) (i : ℕ) → i < length digits → is_ascii_digit (get_or digits i 0) ≡ true
    → min (min (digits_value 10 (take i digits)) (10 ^ 12) * 10 + (get_or digits i 0 - 48)) (10 ^ 12) ≡ min (digits_value 10 (take (i + 1) digits)) (10 ^ 12)
capped_more digits i l h =
    cap_again (digits_value 10 (take i digits)) (get_or digits i 0 - 48)
    ∙ ap (λ n. min n (10 ^ 12)) (sym (digits_value_more 10 digits i l ∙ ap (λ d. digits_value 10 (take i digits) * 10 + d) (digit_value_is (get_or digits i 0) h)))

and_parts : (a b : Bool) → (a && b) ≡ true → (a ≡ true) × (b ≡ true)
and_parts true b h = (refl, h)
and_parts false b h = absurd cc

all_digits : (digits : List ℕ) → list_all is_ascii_digit digits ≡ true → AllDigits 10 digits
all_digits [] h = tt
all_digits (c ∷ cs) h =
    let p = and_parts (is_ascii_digit c) (list_all is_ascii_digit cs) h in
    (digit_value_below c p.0, all_digits cs p.1)

zero_is_digit : (c : ℕ) → is_zero_digit c ≡ true → is_ascii_digit c ≡ true
zero_is_digit c h = grind (arith, nat_tests)

zeros_are_digits : (digits : List ℕ) → list_all is_zero_digit digits ≡ true → list_all is_ascii_digit digits ≡ true
zeros_are_digits [] h = refl
zeros_are_digits (c ∷ cs) h =
    let p = and_parts (is_zero_digit c) (list_all is_zero_digit cs) h in
    rw (zero_is_digit c p.0, zeros_are_digits cs p.1)

-- six digits of a fraction
abbrev pub six : List ℕ → List ℕ
six fraction = take 6 (fraction ++ replicate 6 48)

six_are_digits : (f : List ℕ) → list_all is_zero_digit (drop 6 f) ≡ true → list_all is_ascii_digit (six f) ≡ list_all is_ascii_digit f
six_are_digits [] h = refl
six_are_digits (a ∷ []) h = refl
six_are_digits (a ∷ (b ∷ [])) h = refl
six_are_digits (a ∷ (b ∷ (c ∷ []))) h = refl
six_are_digits (a ∷ (b ∷ (c ∷ (d ∷ [])))) h = refl
six_are_digits (a ∷ (b ∷ (c ∷ (d ∷ (e ∷ []))))) h = refl
six_are_digits (a ∷ (b ∷ (c ∷ (d ∷ (e ∷ (g ∷ more)))))) h = rw (zeros_are_digits more h)

length-six : (f : List ℕ) → length (six f) ≡ 6
length-six [] = refl
length-six (a ∷ []) = refl
length-six (a ∷ (b ∷ [])) = refl
length-six (a ∷ (b ∷ (c ∷ []))) = refl
length-six (a ∷ (b ∷ (c ∷ (d ∷ [])))) = refl
length-six (a ∷ (b ∷ (c ∷ (d ∷ (e ∷ []))))) = refl
length-six (a ∷ (b ∷ (c ∷ (d ∷ (e ∷ (g ∷ more)))))) = refl

pub six_is : (f : List ℕ) (n : ℕ) → n ≡ min (length f) 6 → take n f ++ drop n (replicate 6 48) ≡ six f
six_is [] n e = rw e
six_is (a ∷ []) n e = rw e
six_is (a ∷ (b ∷ [])) n e = rw e
six_is (a ∷ (b ∷ (c ∷ []))) n e = rw e
six_is (a ∷ (b ∷ (c ∷ (d ∷ [])))) n e = rw e
six_is (a ∷ (b ∷ (c ∷ (d ∷ (g ∷ []))))) n e = rw e
six_is (a ∷ (b ∷ (c ∷ (d ∷ (g ∷ (h ∷ more)))))) n e = let k : n ≡ 6 = omega arith in rw k

value_after_append : (n : ℕ) (xs ys : List ℕ) → digits_value_after 10 n (xs ++ ys) ≡ digits_value_after 10 (digits_value_after 10 n xs) ys
value_after_append n [] ys = refl
value_after_append n (x ∷ xs) ys = value_after_append (n * 10 + digit_value x) xs ys

-- n stands before digits whose weights go up to p
shifted : (n v p q rest : ℕ) → q ≡ p * 10 → (n * 10 + v) * p + rest ≡ n * q + ((0 * 10 + v) * p + rest)
shifted n v p q rest e = rw e (grind arith)

value_after_is : (n : ℕ) (ds : List ℕ) → digits_value_after 10 n ds ≡ n * 10 ^ length ds + digits_value_after 10 0 ds
value_after_is n [] = omega arith
value_after_is n (c ∷ cs) =
    value_after_is (n * 10 + digit_value c) cs ∙ shifted n (digit_value c) (10 ^ length cs) (10 ^ suc (length cs)) (digits_value_after 10 0 cs) (pow-suc 10 (length cs))
    ∙ ap (λ m. n * 10 ^ suc (length cs) + m) (sym (value_after_is (0 * 10 + digit_value c) cs))

millionths_is : (whole fraction : List ℕ) → millionths whole fraction ≡ digits_value 10 whole * 1000000 + digits_value 10 (six fraction)
millionths_is whole fraction =
    value_after_append 0 whole (six fraction) ∙ value_after_is (digits_value 10 whole) (six fraction)
    ∙ ap (λ n. digits_value 10 whole * 10 ^ n + digits_value 10 (six fraction)) (length-six fraction)

ranged_cap : (w s : ℕ) → s < 1000000 → ranged (min w (10 ^ 12) * 1000000 + min s (10 ^ 12)) ≡ ranged (w * 1000000 + s)
ranged_cap w s h = grind (arith, nat_tests)

is_empty_append : (xs ys : List ℕ) → is_empty (xs ++ ys) ≡ (is_empty xs && is_empty ys)
is_empty_append [] ys = refl
is_empty_append (x ∷ xs) ys = refl

of_digits_yes :
    (whole fraction : List ℕ) → is_empty (whole ++ fraction) ≡ false → list_all is_ascii_digit (whole ++ fraction) ≡ true → list_all is_zero_digit (drop 6 fraction) ≡ true
    → of_digits whole fraction ≡ ranged (millionths whole fraction)
unfolding of_digits
of_digits_yes whole fraction e a z = rw (e, a, z)

-- what digits read, where they may be read
pub read_number :
    (whole fraction : List ℕ) (units parts : ℕ) → (is_empty whole && is_empty fraction) ≡ false → list_all is_zero_digit (drop 6 fraction) ≡ true
    → list_all is_ascii_digit whole ≡ true → list_all is_ascii_digit (six fraction) ≡ true
    → units ≡ min (digits_value 10 whole) (10 ^ 12) → parts ≡ min (digits_value 10 (six fraction)) (10 ^ 12)
    → of_digits whole fraction ≡ ranged (units * 1000000 + parts)
read_number whole fraction units parts e z w f m n =
    let g : list_all is_ascii_digit (whole ++ fraction) ≡ true = rw (list_all-append, w) (sym (six_are_digits fraction z) ∙ f) in
    let h : (is_empty (whole ++ fraction)) ≡ false = is_empty_append whole fraction ∙ e in
    let s : digits_value 10 (six fraction) < 1000000 = subst (λ k. digits_value 10 (six fraction) < 10 ^ k) (length-six fraction) (digits_value-lt 10 (six fraction) (all_digits (six fraction) f)) in
    of_digits_yes whole fraction h g z ∙ ap ranged (millionths_is whole fraction)
    ∙ sym (rw (m, n) (ranged_cap (digits_value 10 whole) (digits_value 10 (six fraction)) s))

-- and what reads no number
of_digits_no :
    (whole fraction : List ℕ) (a b c : Bool) → not (is_empty (whole ++ fraction)) ≡ a → list_all is_ascii_digit (whole ++ fraction) ≡ b → list_all is_zero_digit (drop 6 fraction) ≡ c
    → (a && b && c) ≡ false → of_digits whole fraction ≡ no_number
unfolding of_digits
of_digits_no whole fraction a b c p q r h = rw (p, q, r, h)

no_digits : (a c : Bool) → (a && false && c) ≡ false
no_digits true c = refl
no_digits false c = refl

no_zeros : (a b : Bool) → (a && b && false) ≡ false
no_zeros true true = refl
no_zeros true false = refl
no_zeros false b = refl

and_false : (a b : Bool) → b ≡ false → (a && b) ≡ false
and_false true b h = h
and_false false b h = refl

pub read_nothing : (whole fraction : List ℕ) → (is_empty whole && is_empty fraction) ≡ true → of_digits whole fraction ≡ no_number
read_nothing whole fraction e = of_digits_no whole fraction false _ _ (ap not (is_empty_append whole fraction ∙ e)) refl refl refl

pub read_longer : (whole fraction : List ℕ) → list_all is_zero_digit (drop 6 fraction) ≡ false → of_digits whole fraction ≡ no_number
read_longer whole fraction z =
    of_digits_no whole fraction _ _ false refl refl z (no_zeros (not (is_empty (whole ++ fraction))) (list_all is_ascii_digit (whole ++ fraction)))

pub read_other_whole : (whole fraction : List ℕ) → list_all is_ascii_digit whole ≡ false → of_digits whole fraction ≡ no_number
read_other_whole whole fraction w =
    of_digits_no whole fraction _ false _ refl (list_all-append is_ascii_digit whole fraction ∙ ap (λ b. b && list_all is_ascii_digit fraction) w) refl (no_digits _ _)

pub read_other_fraction :
    (whole fraction : List ℕ) → list_all is_zero_digit (drop 6 fraction) ≡ true → list_all is_ascii_digit (six fraction) ≡ false → of_digits whole fraction ≡ no_number
read_other_fraction whole fraction z f =
    of_digits_no whole fraction _ false _ refl (list_all-append is_ascii_digit whole fraction ∙ and_false _ _ (sym (six_are_digits fraction z) ∙ f)) refl (no_digits _ _)
