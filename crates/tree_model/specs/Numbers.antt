-- Decimal numbers in millionths, of an absolute value below 10^12: how they are written, and arithmetic (XQuery 1.0 and XPath 2.0
-- Functions and Operators, sections 6.2 and 6.4, with one numeric type).
use Rattle.std.specs.Prelude.{ℕ, ◌+◌, ◌-◌, ◌/◌, ◌%◌, ◌^◌, Bool, not, ◌&&◌, ◌||◌, ◌==◌, nat_lt, ℤ, pos, negsuc, neg_ℤ, ◌+ℤ◌, ◌-ℤ◌, ◌*ℤ◌, int_div, int_lt, unsigned_abs, List, [], ◌∷◌, ◌++◌, take, drop, length, replicate, Ok, Err, if◌then◌else◌}
use Rattle.std.specs.List.{list_all, prefix_len, suffix_len}
use Rattle.std.specs.Char.{is_ascii_digit}
use Rattle.std.specs.Ordering.{int_eq}
use Rattle.std.specs.Str.Parse.{digits_value}
use Rattle.std.specs.Fmt.{decimal}
use Rattle.tree_model.specs.QueryCodes.{FOAR0001, FOAR0002}
use Rattle.tree_model.specs.Outcomes.{Checked}
use Rattle.tree_model.specs.Sound.{is_empty}

-- ---- the text of a number

-- what a text says: a number of millionths, no number, or one that is too great
pub data Numeral : Type 0 where
  number : ℤ → Numeral
  no_number : Numeral
  too_great : Numeral

abbrev pub is_blank : ℕ → Bool
is_blank c = c == 32 || c == 9 || c == 10 || c == 13

-- without spaces, TABs, LFs and CRs at its ends
unfoldable pub trimmed : List ℕ → List ℕ
trimmed text =
    let rest : List ℕ = drop (prefix_len is_blank text) text in
    take (length rest - suffix_len is_blank rest) rest

abbrev pub is_zero_digit : ℕ → Bool
is_zero_digit c = c == 48

abbrev pub is_no_point : ℕ → Bool
is_no_point c = not (c == 46)

-- so many millionths, where they are in range
abbrev pub ranged : ℕ → Numeral
ranged n = if nat_lt n (10 ^ 18) then number (pos n) else too_great

-- the millionths that digits before and behind the point write: those of the whole part and six of the fraction
abbrev pub millionths : List ℕ → List ℕ → ℕ
millionths whole fraction = digits_value 10 (whole ++ take 6 (fraction ++ replicate 6 48))

-- digits alone, at least one, and behind the sixth of the fraction zeros alone
unfoldable pub of_digits : List ℕ → List ℕ → Numeral
of_digits whole fraction =
    if not (is_empty (whole ++ fraction)) && list_all is_ascii_digit (whole ++ fraction) && list_all is_zero_digit (drop 6 fraction)
    then ranged (millionths whole fraction)
    else no_number

-- a number without a sign, with one point at the most
unfoldable pub of_unsigned : List ℕ → Numeral
of_unsigned text = of_digits (take (prefix_len is_no_point text) text) (drop 1 (drop (prefix_len is_no_point text) text))

abbrev pub negated : Numeral → Numeral
negated (number z) = number (neg_ℤ z)
negated no_number = no_number
negated too_great = too_great

unfoldable pub of_signed : List ℕ → Numeral
of_signed [] = no_number
of_signed (c ∷ text) = if c == 45 then negated (of_unsigned text) else if c == 43 then of_unsigned text else of_unsigned (c ∷ text)

abbrev pub numeral : List ℕ → Numeral
numeral text = of_signed (trimmed text)

-- the last digit of a number
abbrev pub last_digit : ℕ → ℕ
last_digit n = 48 + n % 10

-- and its last six
abbrev pub six_digits : ℕ → List ℕ
six_digits n =
    last_digit (n / 100000) ∷ (last_digit (n / 10000) ∷ (last_digit (n / 1000) ∷ (last_digit (n / 100) ∷ (last_digit (n / 10) ∷ (last_digit n ∷ [])))))

-- a point and what is left of six digits without the zeros at their end; nothing where none is left
abbrev pub point_text : List ℕ → List ℕ
point_text [] = []
point_text (c ∷ digits) = 46 ∷ (c ∷ digits)

unfoldable pub fraction_text : ℕ → List ℕ
fraction_text n = point_text (take (6 - suffix_len is_zero_digit (six_digits n)) (six_digits n))

abbrev pub sign_text : Bool → List ℕ
sign_text is_negative = if is_negative then 45 ∷ [] else []

-- how a number is printed: no superfluous zeros, no point for a whole number, - before a negative one
abbrev pub number_text : ℤ → List ℕ
number_text z = sign_text (int_lt z (pos 0)) ++ (decimal (unsigned_abs z / 1000000) ++ fraction_text (unsigned_abs z % 1000000))

-- ---- arithmetic, on millionths

-- a result, where it is in range
abbrev pub in_range : ℤ → Checked ℤ
in_range z = if nat_lt (unsigned_abs z) (10 ^ 18) then Ok z else Err FOAR0002

-- where the divisor isn't zero
abbrev pub unless_zero : ℤ → Checked ℤ → Checked ℤ
unless_zero y result = if int_eq y (pos 0) then Err FOAR0001 else result

abbrev pub sum_of : ℤ → ℤ → Checked ℤ
sum_of x y = in_range (x +ℤ y)

abbrev pub difference_of : ℤ → ℤ → Checked ℤ
difference_of x y = in_range (x -ℤ y)

-- products and quotients are cut toward zero behind the sixth digit
abbrev pub product_of : ℤ → ℤ → Checked ℤ
product_of x y = in_range (int_div (x *ℤ y) (pos 1000000))

abbrev pub quotient_of : ℤ → ℤ → Checked ℤ
quotient_of x y = unless_zero y (in_range (int_div (x *ℤ pos 1000000) y))

-- and whole quotients to a whole number
abbrev pub whole_quotient_of : ℤ → ℤ → Checked ℤ
whole_quotient_of x y = unless_zero y (in_range (int_div x y *ℤ pos 1000000))

-- x less y times the whole quotient
abbrev pub remainder_of : ℤ → ℤ → Checked ℤ
remainder_of x y = unless_zero y (in_range (x -ℤ (y *ℤ int_div x y)))

-- the greatest whole number that isn't above so many parts of n
abbrev pub floor_of : ℤ → ℕ → ℤ
floor_of (pos x) n = pos (x / n)
floor_of (negsuc x) n = negsuc (x / n)

-- the nearest whole number, of two the upper one
abbrev pub rounded : ℤ → Checked ℤ
rounded x = in_range (floor_of (x +ℤ pos 500000) 1000000 *ℤ pos 1000000)
