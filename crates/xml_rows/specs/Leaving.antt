-- What is in scope where an element ends.
use Rattle.std.specs.Prelude.{List, [], ◌∷◌}

abbrev pub inner_of : {A : Type 0} → A → List A → A
inner_of scope [] = scope
inner_of scope (outside ∷ more) = outside

abbrev pub outer_less : {A : Type 0} → List A → List A
outer_less [] = []
outer_less (outside ∷ more) = more
