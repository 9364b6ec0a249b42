-- The places of bindings, counted from the outermost one. In the lists the innermost stands first.
use Rattle.std.specs.Prelude.{◌≡◌, ℕ, Bool, List, [], ◌∷◌, length, map, Option, Some, None, if◌then◌else◌}
use Rattle.std.specs.Borrow.{Bor}
use Rattle.std.specs.Option.{option_flatten}
use Rattle.std.specs.Str.{bytes_eq}
use Rattle.prefix_scopes.specs.Scoping.{Numbering}
use Rattle.prefix_scopes.specs.declared.hashed.Binding.{Binding}

abbrev pub Prefix : Type 0
Prefix = Bor (List ℕ)

abbrev pub is_same_prefix : Prefix → Prefix → Bool
is_same_prefix a b = bytes_eq a.now b.now

abbrev pub numbering_of : Binding → Numbering
numbering_of binding = (binding.prefix.now, binding.number)

abbrev pub numberings_of : List Binding → List Numbering
numberings_of bindings = map numbering_of bindings

-- the place of the innermost binding of a prefix
abbrev pub place_of : List ℕ → List Binding → Option ℕ
place_of prefix [] = None
place_of prefix (binding ∷ outer) = if bytes_eq binding.prefix.now prefix then Some (length outer) else place_of prefix outer

-- each binding has the place of the one that it hides
abbrev pub AreLinked : List Binding → Type 0
AreLinked [] = Unit {0}
AreLinked (binding ∷ outer) = (binding.before ≡ place_of binding.prefix.now outer) × AreLinked outer

-- at each prefix stands the place of its innermost binding
abbrev pub TellsPlaces : (Prefix → Option (Option ℕ)) → List Binding → Type 0
TellsPlaces look bindings = (prefix : Prefix) → option_flatten (look prefix) ≡ place_of prefix.now bindings

pub record ArePlaced (look : Prefix → Option (Option ℕ)) (bindings : List Binding) : Type 0 where
  pub linked : AreLinked bindings
  pub told : TellsPlaces look bindings
