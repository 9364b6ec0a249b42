-- Numbers in two lists of bindings, one inside the other.
use Rattle.std.proofs.Common.{◌≡◌, ℕ, Bool, true, false, cond, List, [], ◌∷◌, ◌++◌, Option, Some, None, refl}
use Rattle.std.specs.Str.{bytes_eq}
use Rattle.prefix_scopes.specs.Scoping.{Numbering, number_of}

found_case : (same : Bool) (n found : ℕ) (rest joined : Option ℕ) → (rest ≡ Some found → joined ≡ Some found) → cond same (Some n) rest ≡ Some found → cond same (Some n) joined ≡ Some found
found_case true n found rest joined more is = is
found_case false n found rest joined more is = more is

pub number_inside : (prefix : List ℕ) (inner outer : List Numbering) (n : ℕ) → number_of prefix inner ≡ Some n → number_of prefix (inner ++ outer) ≡ Some n
number_inside prefix [] outer n is = absurd cc
number_inside prefix (bound ∷ inner) outer n is =
    found_case (bytes_eq bound.0 prefix) bound.1 n (number_of prefix inner) (number_of prefix (inner ++ outer)) (number_inside prefix inner outer n) is

missed_case : (same : Bool) (n : ℕ) (rest joined number : Option ℕ) → (rest ≡ None → joined ≡ number) → cond same (Some n) rest ≡ None → cond same (Some n) joined ≡ number
missed_case true n rest joined number more is = absurd cc
missed_case false n rest joined number more is = more is

pub number_outside : (prefix : List ℕ) (inner outer : List Numbering) → number_of prefix inner ≡ None → number_of prefix (inner ++ outer) ≡ number_of prefix outer
number_outside prefix [] outer is = refl
number_outside prefix (bound ∷ inner) outer is =
    missed_case (bytes_eq bound.0 prefix) bound.1 (number_of prefix inner) (number_of prefix (inner ++ outer)) (number_of prefix outer) (number_outside prefix inner outer) is
