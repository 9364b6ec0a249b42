-- Prefixes with numbers beside the bindings that the numbers lead to. The innermost stand first.
use Rattle.std.specs.Prelude.{◌≡◌, List, [], ◌∷◌, length}
use Rattle.prefix_scopes.specs.Scoping.{Numbering}
use Rattle.serializer.specs.Scopes.{InForce}
use Rattle.serializer.specs.declared.bindings.Binding.{Binding}

abbrev pub in_force : List Numbering → List Binding → List InForce
in_force [] bindings = []
in_force (numbering ∷ prefixes) [] = []
in_force (numbering ∷ prefixes) (binding ∷ bindings) = record { place = binding.place; pair = (numbering.0, binding.uri.now) } ∷ in_force prefixes bindings

-- each prefix has its binding, and for number that binding's place, counted from the outermost one
abbrev pub AreNumbered : List Numbering → List Binding → Type 0
AreNumbered [] [] = Unit {0}
AreNumbered [] (binding ∷ bindings) = ⊥
AreNumbered (numbering ∷ prefixes) [] = ⊥
AreNumbered (numbering ∷ prefixes) (binding ∷ bindings) = (numbering.1 ≡ length bindings) × AreNumbered prefixes bindings
