-- The control of the code, as a shape.
use Rattle.std.specs.Prelude.{◌≡◌, ℕ, List, [], ⊤}
use Rattle.xml_pieces.specs.declared.piece.Place.{Place}
use Rattle.xml_pieces.specs.declared.piece.Place.TheVariants as place
use Rattle.xml_order.specs.Shape as the
use Rattle.xml_order.specs.Shape.{Shape, shape, Mode, in_content, in_tag, in_quotes}
use Rattle.xml_order.specs.NamesView.{names_of}
use Rattle.xml_order.specs.declared.control.Stage.{Stage}
use Rattle.xml_order.specs.declared.control.Stage.TheVariants as stage
use Rattle.xml_order.specs.declared.control.Control.TheInside.{Inside}

abbrev pub mode_of : Place → List ℕ → List (List ℕ) → Mode
mode_of place.Content name names = in_content
mode_of place.Tag name names = in_tag name names
mode_of (place.Value delim) name names = in_quotes name names delim

-- names of attributes stand in tags alone
abbrev pub HasNamesInTags : Place → List (List ℕ) → Type 0
HasNamesInTags place.Content names = names ≡ []
HasNamesInTags other names = ⊤

abbrev pub stage_of : Stage → the.Stage
stage_of stage.BeforeDoctype = the.before_doctype
stage_of stage.BeforeRoot = the.before_root
stage_of stage.BehindRoot = the.behind_root

abbrev pub control_shape : Inside → Shape
control_shape c = shape (names_of c.opened.items) (stage_of c.stage) (mode_of c.place c.name.now c.names)
