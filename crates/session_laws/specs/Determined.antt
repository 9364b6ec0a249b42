-- The answers determine what commands leave, but for the bytes under a name whose write failed.
use Rattle.std.specs.Prelude.{◌≡◌, ◌≢◌, ℕ, Bool, true, ◌&&◌, List, [], ◌∷◌, ◌++◌, if◌then◌else◌, Option, Some, None}
use Rattle.std.specs.List.{All, Contains}
use Rattle.std.specs.Str.{bytes_eq}
use Rattle.outer_io.specs.Files.{Entry, file_in}
use Rattle.commands.specs.declared.options.Options.{Options}
use Rattle.commands.specs.Commands.{Input, text, file, Form, table, create, storage, list, query, export, exit, not_built, no_form, without_return}
use Rattle.kernel_session.specs.FileCodes.{XKFI0002, file_code_text}
use Rattle.kernel_session.specs.LineAnswers.{line_form, Right}
use Rattle.kernel_session.specs.Replies.{Answer, accepted, refused}
use Rattle.kernel_session.specs.Workspaces.{Workspace}

-- the name of the file that a command failed to write
abbrev pub unwritten : Form → Option Answer → List (List ℕ)
unwritten (export path name) (Some (refused code)) = if bytes_eq code (file_code_text XKFI0002) then name ∷ [] else []
unwritten _ _ = []

-- the files that it reads
abbrev pub read_from : Input → List (List ℕ)
read_from (text xml) = []
read_from (file name) = name ∷ []

abbrev pub reads : Form → List (List ℕ)
reads (table input) = read_from input
reads (create name (Some input)) = read_from input
reads _ = []

-- the names that failed writes of these lines leave open
abbrev pub all_unwritten : List (List ℕ) → List (Option Answer) → List (List ℕ)
all_unwritten [] answers = []
all_unwritten (l ∷ lines) [] = []
all_unwritten (l ∷ lines) (answer ∷ answers) = unwritten (line_form (without_return l)) answer ++ all_unwritten lines answers

-- no line reads a file that one before it failed to write
abbrev pub ReadsNone : List (List ℕ) → List (List ℕ) → List (Option Answer) → Type 0
ReadsNone names [] answers = Unit {0}
ReadsNone names (l ∷ lines) [] = Unit {0}
ReadsNone names (l ∷ lines) (answer ∷ answers) =
    All (λ name. ¬ Contains names name) (reads (line_form (without_return l))) × ReadsNone (names ++ unwritten (line_form (without_return l)) answer) lines answers

-- files that are told and have the same bytes under all names but these
pub record AgreeBut (names : List (List ℕ)) (one other : Option (List Entry)) : Type 0 where
  pub some : List Entry
  pub more : List Entry
  pub told : one ≡ Some some
  pub also : other ≡ Some more
  pub same : (name : List ℕ) → (¬ Contains names name) → file_in name some ≡ file_in name more

-- the same databases, and the same files but for these names
pub record AreAlike (names : List (List ℕ)) (w v : Workspace) : Type 0 where
  pub state : w.state ≡ v.state
  pub files : AgreeBut names w.files.map v.files.map

-- what two runs of one script leave that begin alike and give the same answers
abbrev pub AnswersDetermine : Type 0
AnswersDetermine = (options : Options) (names : List (List ℕ)) (w v w' v' : Workspace) (lines : List (List ℕ)) (answers : List (Option Answer))
    → AreAlike names w v → ReadsNone names lines answers → Right options w lines answers w' → Right options v lines answers v' → AreAlike (names ++ all_unwritten lines answers) w' v'
