-- The code of a fault, and its number.
use Rattle.std.specs.Prelude.{◌≡◌, ℕ, true, Option, Some}
use Rattle.std.specs.Option.{option_map}
use Rattle.tree_model.specs.QueryCodes.{query_code, is_query_code}
use Rattle.query_terms.specs.Static.{Fault}

-- there is a first fault, and its code has this number
unfoldable pub HasCode : Option Fault → ℕ → Type 0
HasCode first number = (option_map (λ (f : Fault). f.code) first ≡ Some (query_code number)) × (is_query_code number ≡ true)
