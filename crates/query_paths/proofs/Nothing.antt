-- Behind what is no path there is none.
use Rattle.std.proofs.Common.{◌≡◌, List, [], ◌∷◌, None, refl}
use Rattle.std.specs.List.{fold}
use Rattle.query_terms.specs.declared.tree.PathStep.{PathStep}
use Rattle.query_paths.specs.Paths.{behind}

pub none_behind : (steps : List PathStep) → fold behind None steps ≡ None
none_behind [] = refl
none_behind (s ∷ more) = none_behind more
