-- Casts and operations that lose nothing.
use Rattle.std.proofs.Common.{◌≡◌, ℕ, ◌+◌, ◌<◌, ◌≤◌, ◌*◌, ◌/◌, ◌^◌, zero, suc, mul-le-mul, ℤ, pos, negsuc, neg_ℤ, ◌+ℤ◌, ◌-ℤ◌, ◌*ℤ◌, unsigned_abs, w64, to_z, of_z, arith, refl}
use Rattle.std.specs.Prelude.{int_div}
use Rattle.std.specs.Int.{w128}
use Rattle.std.proofs.lemmas.Int.{ints, to_z-of_z, fits_signed_from_abs, unsigned_abs-mul}
use native.Mathlib.Nat.{div-le_self}

narrow : (z : ℤ) → unsigned_abs z < 10 ^ 18 → to_z w64 (of_z w64 z) ≡ z
narrow z h = to_z-of_z w64 z (fits_signed_from_abs w64 z (omega arith))

wide : (z : ℤ) → unsigned_abs z < 10 ^ 36 + 1 → to_z w128 (of_z w128 z) ≡ z
wide z h = to_z-of_z w128 z (fits_signed_from_abs w128 z (omega arith))

pub sum_cast :
    (a b : ℤ) → unsigned_abs a < 10 ^ 18 → unsigned_abs b < 10 ^ 18
    → to_z w128 (of_z w128 (to_z w64 (of_z w64 (to_z w64 (of_z w64 a) +ℤ to_z w64 (of_z w64 b))))) ≡ a +ℤ b
sum_cast a b p q = omega (arith, ints)

pub difference_cast :
    (a b : ℤ) → unsigned_abs a < 10 ^ 18 → unsigned_abs b < 10 ^ 18
    → to_z w128 (of_z w128 (to_z w64 (of_z w64 (to_z w64 (of_z w64 a) -ℤ to_z w64 (of_z w64 b))))) ≡ a -ℤ b
difference_cast a b p q = omega (arith, ints)

abs_neg : (n : ℕ) → unsigned_abs (neg_ℤ (pos n)) ≡ n
abs_neg zero = refl
abs_neg (suc n) = refl

abs_div : (x y : ℤ) → unsigned_abs (int_div x y) ≡ unsigned_abs x / unsigned_abs y
abs_div (pos a) (pos b) = refl
abs_div (pos a) (negsuc b) = abs_neg (a / suc b)
abs_div (negsuc a) (pos b) = abs_neg (suc a / b)
abs_div (negsuc a) (negsuc b) = refl

abs_div_le : (x y : ℤ) → unsigned_abs (int_div x y) ≤ unsigned_abs x
abs_div_le x y = rw abs_div (div-le_self _ _)

abs_product : (a b : ℤ) (m n : ℕ) → unsigned_abs a ≤ m → unsigned_abs b ≤ n → unsigned_abs (a *ℤ b) ≤ m * n
abs_product a b m n p q = rw unsigned_abs-mul (mul-le-mul p q)

wide_at : (x : ℤ) → unsigned_abs x < 10 ^ 18 → to_z w128 (of_z w128 (to_z w64 (of_z w64 x))) ≡ x
wide_at x h = omega (arith, ints)

pub product_cast :
    (a b : ℤ) → unsigned_abs a < 10 ^ 18 → unsigned_abs b < 10 ^ 18
    → to_z w128 (of_z w128 (int_div (to_z w128 (of_z w128 (to_z w128 (of_z w128 (to_z w64 (of_z w64 a))) *ℤ to_z w128 (of_z w128 (to_z w64 (of_z w64 b)))))) (pos 1000000)))
    ≡ int_div (a *ℤ b) (pos 1000000)
product_cast a b p q =
    let f : unsigned_abs (a *ℤ b) < 10 ^ 36 + 1 = omega (arith, abs_product a b (10 ^ 18) (10 ^ 18) (omega arith) (omega arith)) in
    let g : unsigned_abs (int_div (a *ℤ b) (pos 1000000)) < 10 ^ 36 + 1 = omega (arith, abs_div_le (a *ℤ b) (pos 1000000)) in
    rw (wide_at a p, wide_at b q, wide (a *ℤ b) f, wide _ g)

pub quotient_cast :
    (a b : ℤ) → unsigned_abs a < 10 ^ 18 → unsigned_abs b < 10 ^ 18
    → to_z w128 (of_z w128 (int_div (to_z w128 (of_z w128 (to_z w128 (of_z w128 (to_z w64 (of_z w64 a))) *ℤ pos 1000000))) (to_z w128 (of_z w128 (to_z w64 (of_z w64 b))))))
    ≡ int_div (a *ℤ pos 1000000) b
quotient_cast a b p q =
    let f : unsigned_abs (a *ℤ pos 1000000) < 10 ^ 36 + 1 = omega (arith, abs_product a (pos 1000000) (10 ^ 18) 1000000 (omega arith) (omega arith)) in
    let g : unsigned_abs (int_div (a *ℤ pos 1000000) b) < 10 ^ 36 + 1 = omega (arith, abs_div_le (a *ℤ pos 1000000) b) in
    rw (wide_at a p, wide_at b q, wide (a *ℤ pos 1000000) f, wide _ g)

pub whole_quotient_cast :
    (a b : ℤ) → unsigned_abs a < 10 ^ 18 → unsigned_abs b < 10 ^ 18
    → to_z w128 (of_z w128 (to_z w128 (of_z w128 (to_z w64 (of_z w64 (int_div (to_z w64 (of_z w64 a)) (to_z w64 (of_z w64 b)))))) *ℤ pos 1000000))
    ≡ int_div a b *ℤ pos 1000000
whole_quotient_cast a b p q =
    let f : unsigned_abs (int_div a b) < 10 ^ 18 = omega (arith, abs_div_le a b) in
    let g : unsigned_abs (int_div a b *ℤ pos 1000000) < 10 ^ 36 + 1 = omega (arith, abs_product (int_div a b) (pos 1000000) (10 ^ 18) 1000000 (omega arith) (omega arith)) in
    rw (narrow a p, narrow b q, wide_at _ f, wide _ g)
