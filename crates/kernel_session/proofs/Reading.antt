-- What inputs give.
use Rattle.std.proofs.Common.{inl, inr, ℕ, Bool, List, Result, Ok, Err, refl, sym, subst, arith}
use Rattle.std.specs.Prelude.{IfOk, IfErr, codes}
use Rattle.outer_io.specs.Files.{FilesSeen, NoneFell}
use Rattle.tree_model.specs.declared.code.Refusal.{Refusal}
use Rattle.tree_model.specs.Labels.{with_path}
use Rattle.tree_model.specs.Printed.{rows_text}
use Rattle.tree_model.specs.States.{State}
use Rattle.doc_import.specs.Imported.{Built, built_forest}
use Rattle.frame_pool.specs.declared.meter.Meter.{Meter}
use Rattle.commands.specs.declared.options.Options.{Options}
use Rattle.kernel_session.specs.Replies.{Answer, accepted, refused, IsText}
use Rattle.commands.specs.Commands.{Input, text, file, table}
use Rattle.kernel_session.specs.Databases.{IsRead, IsReadFault, IsDocument, IsNoDocument}
use Rattle.kernel_session.specs.Steps.{AreAsBefore, IsGiven, Step}
use Rattle.kernel_session.specs.Workspaces.{workspace}
use Rattle.kernel_session.proofs.Meters.{read_none}

-- nothing is as it was before but what didn't change
pub none_fell : (s : FilesSeen) → NoneFell s s
none_fell s = record { faults = omega arith; misses = omega arith; overlong = omega arith }

pub as_before : (s : FilesSeen) → AreAsBefore s s
as_before s = record { same = refl; later = none_fell s }

-- after bytes were given no file has changed
given_before : (input : Input) (before now : FilesSeen) (bytes : List ℕ) → IsGiven input before now bytes → AreAsBefore before now
given_before (text xml) before now bytes g = subst (AreAsBefore before) (sym g.1) (as_before before)
given_before (file name) before now bytes g = g.0

pub document_of : (r : Result Built Refusal) (strip : Bool) (input : Input) (before now : FilesSeen) (bytes : List ℕ) → IsGiven input before now bytes → IfOk r (IsRead bytes strip) → IfOk r (IsDocument strip input before now)
document_of (Ok built) strip input before now bytes given read = record { bytes = bytes; given = given; read = read }
document_of (Err refusal) strip input before now bytes given read = tt

pub no_document_of : (r : Result Built Refusal) (strip : Bool) (input : Input) (before now : FilesSeen) (bytes : List ℕ) → IsGiven input before now bytes → IfErr r (IsReadFault bytes strip) → IfErr r (IsNoDocument strip input before now)
no_document_of (Ok built) strip input before now bytes given fault = tt
no_document_of (Err refusal) strip input before now bytes given (inl fault) = inl (inr (bytes, given, fault))
no_document_of (Err refusal) strip input before now bytes given (inr want) = inr (want, given_before input before now bytes given)

-- the rows of a document that was read, or that memory was wanting for them
pub table_step : (answer : Answer) (options : Options) (state : State) (meter : Meter) (input : Input) (before now : FilesSeen) (built : Built) → IsDocument options.strip input before now built
    → IsText (rows_text (with_path (codes "table") (built_forest built))) answer → Step options (workspace state before meter) (table input) answer (workspace state now meter)
table_step (accepted payload) options state meter input before now built d is =
    (with_path (codes "table") (built_forest built), (d.bytes, d.given, built_forest built, d.read.tree, refl), is, (refl, refl))
table_step (refused code) options state meter input before now built d is =
    inr (record { takes = refl; code_is = is; state = refl; files = given_before input before now d.bytes d.given; meter = read_none meter })
