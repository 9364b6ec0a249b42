-- The answer of a step.
use Rattle.std.specs.Prelude.{◌≡◌, Bool, true, false, Option, Some, None}
use Rattle.xml_order.specs.Shape.{Shape}

-- whether there is a next shape, and that it is this one
abbrev pub Gives : Bool → Shape → Option Shape → Type 0
Gives true new r = r ≡ Some new
Gives false new r = r ≡ None
