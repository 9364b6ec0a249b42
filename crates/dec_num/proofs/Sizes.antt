-- How long the parts of a number's text are, and that they are ASCII.
use Rattle.std.proofs.Common.{ℕ, ◌/◌, ◌<◌, ◌≤◌, ◌^◌, [], ◌∷◌, take, length, IsAscii, arith}
use Rattle.std.specs.Prelude.{decimal}
use Rattle.std.proofs.lemmas.Fmt.{length-decimal-le}
use Rattle.std.proofs.lemmas.Str.{IsAscii-take}
use Rattle.std.proofs.lemmas.Str.Ascii.{IsAscii-nil, IsAscii-cons}
use Rattle.tree_model.specs.Numbers.{last_digit, six_digits}

pub whole_short : (n : ℕ) → n < 10 ^ 18 → length (decimal (n / 1000000)) ≤ 12
whole_short n h = length-decimal-le 12 (n / 1000000) (omega arith) (omega arith) (omega arith)

ascii_digit : (n : ℕ) → last_digit n < 128
ascii_digit n = omega arith

six_ascii : (a b c d e f : ℕ) → a < 128 → b < 128 → c < 128 → d < 128 → e < 128 → f < 128 → IsAscii (a ∷ (b ∷ (c ∷ (d ∷ (e ∷ (f ∷ []))))))
six_ascii a b c d e f p q r s t u =
    IsAscii-cons a (b ∷ (c ∷ (d ∷ (e ∷ (f ∷ []))))) p (IsAscii-cons b (c ∷ (d ∷ (e ∷ (f ∷ [])))) q (IsAscii-cons c (d ∷ (e ∷ (f ∷ []))) r
    (IsAscii-cons d (e ∷ (f ∷ [])) s (IsAscii-cons e (f ∷ []) t (IsAscii-cons f [] u IsAscii-nil)))))

pub ascii_kept : (n k : ℕ) → IsAscii (take k (six_digits n))
ascii_kept n k =
    IsAscii-take (six_digits n) k
    (six_ascii _ _ _ _ _ _ (ascii_digit (n / 100000)) (ascii_digit (n / 10000)) (ascii_digit (n / 1000)) (ascii_digit (n / 100)) (ascii_digit (n / 10)) (ascii_digit n))
