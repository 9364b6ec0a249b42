-- What the parts of constructors stand for, while they are read.
use Rattle.std.specs.Prelude.{◌≡◌, ◌≢◌, [], Option, Some, None, true, false, Result, Ok, Err}
use Rattle.std.specs.String.{string_bytes}
use denote.Ref.{Bor}
use Rattle.query_terms.specs.declared.stop.Stop.{Stop}
use Rattle.query_terms.specs.declared.stop.Stop.TheVariants.{NoMemory}
use Rattle.query_terms.specs.declared.tree.Expr.{Expr}
use Rattle.query_terms.specs.declared.tree.Attribute.{Attribute}
use Rattle.query_terms.specs.declared.tree.Content.TheVariants as parts
use Rattle.query_terms.specs.Rule.{Text, Value, absent, both, list, chunk, text, term, attribute, content, contents, Outcome}
use Rattle.query_terms.specs.Markup.{Run as Piled, run_of, closed, a_solid, a_plain}
use Rattle.query_tokens.specs.Reads.{as_char, as_name}
use Rattle.query_constructors.specs.declared.run.Piece.{Piece}
use Rattle.query_constructors.specs.declared.run.Piece.TheVariants as pieces
use Rattle.query_constructors.specs.declared.run.Run.{Run}
use Rattle.query_constructors.specs.declared.quoted.Quoted.{Quoted}
use Rattle.query_constructors.specs.declared.elements.Inside.{Inside}
use Rattle.query_constructors.specs.declared.elements.Inside.TheVariants as insides
use Rattle.query_constructors.specs.declared.computed_constructors.ComputedName.{ComputedName}
use Rattle.query_constructors.specs.declared.computed_constructors.ComputedName.TheVariants as names

abbrev pub as_maybe_text : Option Text → Value
as_maybe_text None = absent
as_maybe_text (Some t) = text t

abbrev pub as_maybe_term : Option Expr → Value
as_maybe_term None = absent
as_maybe_term (Some e) = term e

abbrev pub as_maybe_attribute : Option Attribute → Value
as_maybe_attribute None = absent
as_maybe_attribute (Some a) = attribute a

-- ---- contents

abbrev pub as_section : Text → Value
as_section t = chunk t None true

abbrev pub as_piece : Piece → Value
as_piece (pieces.Solid found) = a_solid 0 0 (as_char found)
as_piece (pieces.Plain found) = a_plain 0 0 (as_char found)
as_piece (pieces.Section t) = as_section t
as_piece (pieces.Enclosed body) = content (parts.Enclosed body)
as_piece (pieces.Constructor body) = content (parts.Constructor body)

abbrev pub as_run : Run → Piled
as_run r = record { found = r.found; characters = string_bytes r.characters; bad = r.bad_reference; is_solid = r.is_solid }

-- without characters under way
abbrev pub flushed : Piled → Piled
flushed r = record { found = closed r; characters = []; bad = None; is_solid = false }

-- a repetition of pieces, as what they pile up to
abbrev pub Piles : Outcome → Result (Run × Bor Text) Stop → Type 0
Piles o (Ok x) = (v : Value) × (o ≡ Ok (list v, x.1.now)) × (run_of v ≡ as_run x.0)
Piles o (Err e) = e ≢ NoMemory → o ≡ Err e

-- ---- attributes and elements

abbrev pub as_quoted : Quoted → Value
as_quoted q = both (contents q.value) (as_maybe_text q.written)

abbrev pub as_inside : Inside → Value
as_inside insides.Empty = absent
as_inside (insides.Ended xs end) = both (contents xs) (as_name end)

-- ---- computed constructors

abbrev pub as_computed_name : ComputedName → Value
as_computed_name (names.Written w) = as_name w
as_computed_name (names.Enclosed e) = term e
