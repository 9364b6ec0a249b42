-- The numbers that digits spell, cut off at the first that is too great for a character.
use Rattle.std.proofs.Common.{◌≡◌, ℕ, ◌+◌, ◌*◌, ◌<◌, ◌≤◌, false, ◌⊎◌, inl, inr, List, [], ◌∷◌, length, get_or, drop, sym, ap, ◌∙◌, arith}
use Rattle.std.specs.Prelude.{min}
use Rattle.std.proofs.Math.Nat.{mul-le-mul_left}
use Rattle.std.proofs.lemmas.Bool.{cases_lt}
use Rattle.std.proofs.lemmas.List.{drop_more}
use Rattle.std.proofs.lemmas.Bool.Decides.{nat_tests}
use Rattle.std.specs.Char.{digit_value}
use Rattle.tree_model.specs.XmlChars.{is_xml_char}
use Rattle.tree_model.specs.XmlGood.{number_from}

-- a number only grows
grows : (base n : ℕ) (digits : List ℕ) → 1 ≤ base → n ≤ number_from base n digits
grows base n [] low = omega arith
grows base n (d ∷ digits) low =
    let here : n * 1 ≤ n * base = mul-le-mul_left n low in
    let on = grows base (n * base + digit_value d) digits low in
    omega (arith, here, on)

pub cut_off : (base n limit : ℕ) (digits : List ℕ) → 1 ≤ base → min (number_from base (min n limit) digits) limit ≡ min (number_from base n digits) limit
cut_off base n limit digits low = by (cases_lt limit n)
  where
    by : (limit < n) ⊎ (n ≤ limit) → min (number_from base (min n limit) digits) limit ≡ min (number_from base n digits) limit
    by (inl past) =
        let one = grows base (min n limit) digits low in
        let two = grows base n digits low in
        omega (arith, one, two)
    by (inr within) =
        let same : min n limit ≡ n = omega arith in
        ap (λ m. min (number_from base m digits) limit) same

-- one digit more
pub one_more : (base n cut value limit i : ℕ) (digits : List ℕ) → 1 ≤ base → i < length digits → value ≡ digit_value (get_or digits i 0) → cut ≡ min (n * base + value) limit
    → min (number_from base cut (drop (i + 1) digits)) limit ≡ min (number_from base n (drop i digits)) limit
one_more base n cut value limit i digits low lt is cut_is =
    ap (λ m. min (number_from base m (drop (i + 1) digits)) limit) (cut_is ∙ ap (λ v. min (n * base + v) limit) is)
    ∙ cut_off base (n * base + digit_value (get_or digits i 0)) limit (drop (i + 1) digits) low
    ∙ ap (λ l. min (number_from base n l) limit) (sym (drop_more digits i 0 lt))

pub char_of_cut : (n : ℕ) → is_xml_char (min n 0x11_0000) ≡ is_xml_char n
char_of_cut n = by (cases_lt 0x11_0000 n)
  where
    great : (n : ℕ) → 0x11_0000 < n → is_xml_char n ≡ false
    great n past = grind (arith, nat_tests)

    by : (0x11_0000 < n) ⊎ (n ≤ 0x11_0000) → is_xml_char (min n 0x11_0000) ≡ is_xml_char n
    by (inl past) =
        let cut : min n 0x11_0000 ≡ 0x11_0000 = omega arith in
        ap is_xml_char cut ∙ sym (great n past)
    by (inr within) =
        let same : min n 0x11_0000 ≡ n = omega arith in
        ap is_xml_char same
