-- What may be answered to a command, and what it leaves.
use Rattle.std.specs.Prelude.{◌≡◌, ◌⊎◌, ℕ, ◌^◌, ◌<◌, ◌≤◌, Bool, true, false, is_none, if◌then◌else◌, List, [], length, codes, option_map, IfSome, IsSomeAnd, Option, Some, None}
use Rattle.std.specs.List.{slice_get}
use Rattle.frame_pool.specs.Meters.{HasRead}
use Rattle.outer_io.specs.Outer.{Rose}
use Rattle.outer_io.specs.Files.{file_in, with_file, FilesSeen, NoneFell, OthersStay}
use Rattle.tree_model.specs.Forest.{Forest, none}
use Rattle.tree_model.specs.Labels.{Label, with_path}
use Rattle.tree_model.specs.Axes.{path_value}
use Rattle.tree_model.specs.QueryCodes.{query_code_text, XPDY0002}
use Rattle.tree_model.specs.declared.axis.AxisStep.{AxisStep}
use Rattle.tree_model.specs.Printed.{rows_text, storage_text, list_text}
use Rattle.tree_model.specs.Printing.{answer_text, documents_text}
use Rattle.tree_model.specs.XmlMeaning.{unknown_entity, bad_namespace}
use Rattle.tree_model.specs.XmlReads.{XmlReading, ReadsXml, as_tree, too_many_bytes, not_utf8, other_encoding, internal_subset, not_well_formed, first_fault, too_many_nodes}
use Rattle.tree_model.specs.States.{State, Base, is_base_name, document_under, new_base, with_new}
use Rattle.commands.specs.declared.options.Options.{Options}
use Rattle.commands.specs.Commands.{Input, text, file, path_of_input, Form, table, create, storage, list, query, export, exit, not_built, no_form}
use Rattle.commands.specs.CommandCodes.{CommandCode, XKCM0001, XKCM0002, XKDB0001, XKDB0003, XKDB0004, command_code_text}
use Rattle.query_paths.specs.Asked.{Asked, steps, wrong, not_valued, asked}
use Rattle.kernel_session.specs.FileCodes.{FileCode, XKFI0001, XKFI0002, XKLM0002, file_code_text, DocumentCode, XKXM0001, XKXM0002, XKXM0003, XKXM0004, XKXM0005, XKXM0006, TooManyBytes, XKLM0003, document_code_text}
use Rattle.kernel_session.specs.Replies.{Answer, accepted, refused}
use Rattle.kernel_session.specs.Workspaces.{Workspace}

-- ---- files

-- no file has changed, and no count has fallen
pub record AreAsBefore (before now : FilesSeen) : Type 0 where
  pub same : now.map ≡ before.map
  pub later : NoneFell before now

-- the bytes of an input: XML text as it stands, or the file of a name, which is read
abbrev pub IsGiven : Input → FilesSeen → FilesSeen → List ℕ → Type 0
IsGiven (text xml) before now bytes = (bytes ≡ xml) × (now ≡ before)
IsGiven (file name) before now bytes = AreAsBefore before now × (length bytes ≤ 2 ^ 26) × IfSome before.map (λ entries. file_in name entries ≡ Some bytes)

-- why the bytes of a file can't be had: there is no such file, the read failed, or it has too many bytes
abbrev pub IsUnread : List ℕ → FilesSeen → FilesSeen → FileCode → Type 0
IsUnread name before now XKFI0001 = Rose before.misses now.misses × IfSome before.map (λ entries. file_in name entries ≡ None)
IsUnread name before now XKFI0002 = Rose before.faults now.faults
IsUnread name before now XKLM0002 = Rose before.overlong now.overlong × IfSome before.map (λ entries. IsSomeAnd (file_in name entries) (λ bytes. 2 ^ 26 < length bytes))

abbrev pub IsNotGiven : Input → FilesSeen → FilesSeen → List ℕ → Type 0
IsNotGiven (text xml) before now code = ⊥
IsNotGiven (file name) before now code = AreAsBefore before now × (why : FileCode) × IsUnread name before now why × (code ≡ file_code_text why)

-- ---- documents

-- the code of a reading that gives no tree
abbrev pub reading_code : XmlReading → Option DocumentCode
reading_code (as_tree f) = None
reading_code too_many_bytes = Some TooManyBytes
reading_code (not_utf8 at) = Some XKXM0001
reading_code (other_encoding at) = Some XKXM0006
reading_code (internal_subset at) = Some XKXM0003
reading_code not_well_formed = Some XKXM0002
reading_code (first_fault (unknown_entity at)) = Some XKXM0004
reading_code (first_fault (bad_namespace at)) = Some XKXM0005
reading_code too_many_nodes = Some XKLM0003

-- the code of the first fault of a text
abbrev pub IsFault : List ℕ → Bool → List ℕ → Type 0
IsFault xml strip code = (reading : XmlReading) × ReadsXml xml strip reading × (option_map document_code_text (reading_code reading) ≡ Some code)

-- the document that an input gives, under a path
abbrev pub IsContent : Bool → List ℕ → Input → FilesSeen → FilesSeen → Forest Label → Type 0
IsContent strip path input before now f = (bytes : List ℕ) × IsGiven input before now bytes × (g : Forest Label) × ReadsXml bytes strip (as_tree g) × (f ≡ with_path path g)

-- or the code where it gives none: its bytes can't be had, or they have a fault
abbrev pub IsNoContent : Bool → Input → FilesSeen → FilesSeen → List ℕ → Type 0
IsNoContent strip input before now code = IsNotGiven input before now code ⊎ ((bytes : List ℕ) × IsGiven input before now bytes × IsFault bytes strip code)

-- the documents of a new database of this name: one, or none where there is no input
abbrev pub AreDocuments : Bool → List ℕ → Option Input → FilesSeen → FilesSeen → Forest Label → Type 0
AreDocuments strip name None before now f = (f ≡ none) × (now ≡ before)
AreDocuments strip name (Some input) before now f = IsContent strip (path_of_input name input) input before now f

abbrev pub AreNoDocuments : Bool → Option Input → FilesSeen → FilesSeen → List ℕ → Type 0
AreNoDocuments strip None before now code = ⊥
AreNoDocuments strip (Some input) before now code = IsNoContent strip input before now code

-- ---- documents as files

-- the file has the document's text, and no other has changed
pub record IsExported (name text : List ℕ) (before now : FilesSeen) : Type 0 where
  pub written : now.map ≡ option_map (with_file name text) before.map
  pub later : NoneFell before now

-- a write that failed: what stands under this one name is open
pub record IsNotExported (name : List ℕ) (before now : FilesSeen) : Type 0 where
  pub risen : Rose before.faults now.faults
  pub others : OthersStay name before.map now.map
  pub later : NoneFell before now

-- ---- refusals of the state

-- the open database
abbrev pub open_base : State → Option Base
open_base state = by state.opened
  where
    by : Option ℕ → Option Base
    by None = None
    by (Some place) = slice_get state.bases place

abbrev pub name_refusal : List ℕ → Option CommandCode
name_refusal name = if is_base_name name then None else Some XKDB0003

abbrev pub base_refusal : Option Base → Option CommandCode
base_refusal None = Some XKDB0001
base_refusal (Some base) = None

-- no document stands under the path
abbrev pub path_refusal : List ℕ → Option Base → Option CommandCode
path_refusal path None = Some XKDB0001
path_refusal path (Some base) = if is_none (document_under path base.documents) then Some XKDB0004 else None

-- what a command is refused for by its form, and then by the state, before anything else is looked at
abbrev pub state_refusal : State → Form → Option CommandCode
state_refusal state (table input) = None
state_refusal state (create name input) = name_refusal name
state_refusal state (storage range) = base_refusal (open_base state)
state_refusal state list = None
state_refusal state (query words) = None
state_refusal state (export path name) = path_refusal path (open_base state)
state_refusal state exit = None
state_refusal state not_built = Some XKCM0002
state_refusal state no_form = Some XKCM0001

-- ---- commands

-- only files may have changed
abbrev pub ChangesFilesAlone : Workspace → Workspace → Type 0
ChangesFilesAlone w w' = (w'.state ≡ w.state) × (w'.meter ≡ w.meter)

-- only rows were read
abbrev pub ReadsAlone : Workspace → Workspace → Type 0
ReadsAlone w w' = (w'.state ≡ w.state) × (w'.files ≡ w.files) × HasRead w.meter w'.meter

-- what an accepted command gives, and what it leaves
abbrev pub IsAccepted : Options → Workspace → Form → List ℕ → Workspace → Type 0
-- the rows of the document, under the path `table`
IsAccepted options w (table input) payload w' =
    (f : Forest Label) × IsContent options.strip (codes "table") input w.files w'.files f × (payload ≡ rows_text f) × ChangesFilesAlone w w'
IsAccepted options w (create name input) payload w' =
    (f : Forest Label) × AreDocuments options.strip name input w.files w'.files f × (payload ≡ []) × (w'.state ≡ with_new (new_base name f) w.state) × (w'.meter ≡ w.meter)
IsAccepted options w (storage range) payload w' = (base : Base) × (open_base w.state ≡ Some base) × (payload ≡ storage_text range base.documents) × (w' ≡ w)
IsAccepted options w list payload w' = (payload ≡ list_text w.state.bases) × (w' ≡ w)
-- the nodes that the query's path leads to from the documents of the open database, for which rows are read
IsAccepted options w (query words) payload w' =
    (path : List AxisStep) × (asked words ≡ steps path) × (base : Base) × (open_base w.state ≡ Some base) × (payload ≡ answer_text (path_value base.documents path)) × ReadsAlone w w'
IsAccepted options w (export path name) payload w' =
    (base : Base) × (open_base w.state ≡ Some base) × (d : Forest Label) × (document_under path base.documents ≡ Some d) × (payload ≡ [])
    × IsExported name (documents_text d) w.files w'.files × ChangesFilesAlone w w'
IsAccepted options w exit payload w' = (payload ≡ []) × (w' ≡ w)
IsAccepted options w not_built payload w' = ⊥
IsAccepted options w no_form payload w' = ⊥

-- what is wrong with a query, or that it isn't valued yet
abbrev pub IsQueryRefusal : Asked → List ℕ → Type 0
IsQueryRefusal (steps path) code = ⊥
IsQueryRefusal (wrong why) code = code ≡ query_code_text why
IsQueryRefusal not_valued code = code ≡ command_code_text XKCM0002

-- why a command that the state doesn't refuse is refused: by what is read, asked or written
abbrev pub IsRefused : Options → Workspace → Form → List ℕ → Workspace → Type 0
IsRefused options w (table input) code w' = IsNoContent options.strip input w.files w'.files code × ChangesFilesAlone w w'
IsRefused options w (create name input) code w' = AreNoDocuments options.strip input w.files w'.files code × ChangesFilesAlone w w'
IsRefused options w (storage range) code w' = ⊥
IsRefused options w list code w' = ⊥
-- or none is open
IsRefused options w (query words) code w' =
    (IsQueryRefusal (asked words) code ⊎ ((path : List AxisStep) × (asked words ≡ steps path) × (open_base w.state ≡ None) × (code ≡ query_code_text XPDY0002))) × (w' ≡ w)
IsRefused options w (export path name) code w' = (code ≡ file_code_text XKFI0002) × IsNotExported name w.files w'.files × ChangesFilesAlone w w'
IsRefused options w exit code w' = ⊥
IsRefused options w not_built code w' = ⊥
IsRefused options w no_form code w' = ⊥

-- the commands that take memory, for want of which they may be refused
abbrev pub takes_memory : Form → Bool
takes_memory (table input) = true
takes_memory (create name input) = true
takes_memory (storage range) = true
takes_memory list = true
takes_memory (query words) = true
takes_memory (export path name) = true
takes_memory exit = false
takes_memory not_built = false
takes_memory no_form = false

-- memory was wanting
pub record IsWanting (form : Form) (code : List ℕ) (w w' : Workspace) : Type 0 where
  pub takes : takes_memory form ≡ true
  pub code_is : code ≡ codes "XKMEM"
  pub state : w'.state ≡ w.state
  pub files : AreAsBefore w.files w'.files
  pub meter : HasRead w.meter w'.meter

-- a command that isn't refused by the state is accepted, or refused by what comes after it
abbrev pub Goes : Options → Workspace → Form → Answer → Workspace → Type 0
Goes options w form (accepted payload) w' = IsAccepted options w form payload w'
Goes options w form (refused code) w' = IsRefused options w form code w' ⊎ IsWanting form code w w'

abbrev pub StepBy : Option CommandCode → Options → Workspace → Form → Answer → Workspace → Type 0
StepBy (Some code) options w form answer w' = (answer ≡ refused (command_code_text code)) × (w' ≡ w)
StepBy None options w form answer w' = Goes options w form answer w'

-- what may be answered to a command, and what it leaves: the same databases where it is refused
abbrev pub Step : Options → Workspace → Form → Answer → Workspace → Type 0
Step options w form answer w' = StepBy (state_refusal w.state form) options w form answer w'
