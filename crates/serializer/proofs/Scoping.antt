-- A prefix in scope is bound by an element that is open, or at first.
use Rattle.std.proofs.Common.{◌≡◌, ℕ, Bool, true, false, cond, List, [], ◌∷◌, ◌++◌, Option, Some, None, refl}
use Rattle.std.specs.Str.{bytes_eq}
use Rattle.tree_model.specs.XmlMeaning.{Pair, Scope, uri_of}

found_by : (same : Bool) (uri found : List ℕ) (bound joined : Option (List ℕ)) → (bound ≡ Some found → joined ≡ Some found) → cond same (Some uri) bound ≡ Some found → cond same (Some uri) joined ≡ Some found
found_by true uri found bound joined more is = is
found_by false uri found bound joined more is = more is

pub uri_inside : (prefix : List ℕ) (inner : List Pair) (outer : Scope) (uri : List ℕ) → uri_of prefix inner ≡ Some uri → uri_of prefix (inner ++ outer) ≡ Some uri
uri_inside prefix [] outer uri is = absurd cc
uri_inside prefix (b ∷ inner) outer uri is = found_by (bytes_eq b.0 prefix) b.1 uri (uri_of prefix inner) (uri_of prefix (inner ++ outer)) (uri_inside prefix inner outer uri) is

missed_by : (same : Bool) (uri : List ℕ) (bound joined behind : Option (List ℕ)) → (bound ≡ None → joined ≡ behind) → cond same (Some uri) bound ≡ None → cond same (Some uri) joined ≡ behind
missed_by true uri bound joined behind more is = absurd cc
missed_by false uri bound joined behind more is = more is

pub uri_outside : (prefix : List ℕ) (inner : List Pair) (outer : Scope) → uri_of prefix inner ≡ None → uri_of prefix (inner ++ outer) ≡ uri_of prefix outer
uri_outside prefix [] outer is = refl
uri_outside prefix (b ∷ inner) outer is = missed_by (bytes_eq b.0 prefix) b.1 (uri_of prefix inner) (uri_of prefix (inner ++ outer)) (uri_of prefix outer) (uri_outside prefix inner outer) is
