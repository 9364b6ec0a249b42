-- A whole session: the lines of its script, and the text of the replies to them.
use Rattle.std.specs.Prelude.{◌≡◌, ◌≢◌, ◌⊎◌, ℕ, ◌+◌, ◌^◌, ◌<◌, ◌≤◌, Bool, ◌||◌, true, false, List, [], ◌∷◌, ◌++◌, length, min, ◌-◌, count_by, Option, Some, None, Result, IfOk, OnErr, if◌then◌else◌}
use Rattle.std.specs.List.{flat_map, list_any}
use Rattle.std.specs.Io.KnownBytes.{prepend_known, append_known, IsAtEnd}
use Rattle.std.specs.Bool.{Decides}
use Rattle.std.specs.Str.{bytes_eq}
use Rattle.outer_io.specs.Outer.{Rose, SourceSeen, SinkSeen}
use Rattle.commands.specs.declared.options.Options.{Options}
use Rattle.kernel_session.specs.declared.session.Status.{Status}
use Rattle.kernel_session.specs.declared.session.Status.TheVariants.{Done, BadWords, ReadFault, WriteFault, NoMemory, TooManyBytes}
use Rattle.kernel_session.specs.FileCodes.{XKFI0002, file_code_text}
use Rattle.kernel_session.specs.Lines.{IsOneLine}
use Rattle.kernel_session.specs.LineAnswers.{IsExit, Stops, AllGoOn, Right, is_refusal}
use Rattle.kernel_session.specs.Replies.{Answer, accepted, refused, text_of, text_if}
use Rattle.kernel_session.specs.Workspaces.{Workspace}

-- no word is taken yet, so none is set
abbrev pub no_options : Options
no_options = record { plain = false; strip = false; stop = false }

-- ---- scripts

-- the bytes of lines that end by LF, and the condition that each is one line
abbrev pub joined : List (List ℕ) → List ℕ
joined lines = flat_map (λ l. l ++ 10 ∷ []) lines

abbrev pub AreLines : List (List ℕ) → Type 0
AreLines [] = Unit {0}
AreLines (l ∷ lines) = IsOneLine l × AreLines lines

-- the script's end was met: nothing is left, and fewer bytes were taken than may be
abbrev pub IsEndOfScript : List ℕ → Option (List ℕ) → Type 0
IsEndOfScript taken left = IsAtEnd left × (length taken < 2 ^ 32)

-- what follows a line in the script: its LF, or nothing where that is the script's end
abbrev pub EndsLine : List ℕ → List ℕ → Option (List ℕ) → Type 0
EndsLine (c ∷ more) taken left = c ≡ 10
EndsLine [] taken left = IsEndOfScript taken left

-- ---- replies

abbrev pub texts : List (Option Answer) → List ℕ
texts answers = flat_map text_if answers

abbrev pub has_refusal : List (Option Answer) → Bool
has_refusal answers = list_any is_refusal answers

-- these lines were answered, none of them ended the session, and the text of the answers was appended
pub record HasReplied (options : Options) (w w' : Workspace) (lines : List (List ℕ)) (sink sink' : SinkSeen) : Type 0 where
  pub answers : List (Option Answer)
  pub right : Right options w lines answers w'
  pub go_on : AllGoOn options lines answers
  pub written : sink'.written ≡ append_known sink.written (texts answers)

-- and then one more, by which the session may have ended; and whether one was refused
pub record HasDone (options : Options) (w w' : Workspace) (lines : List (List ℕ)) (last : List ℕ) (sink sink' : SinkSeen) (any : Bool) : Type 0 where
  pub answers : List (Option Answer)
  pub answer : Option Answer
  pub right : Right options w (lines ++ last ∷ []) (answers ++ answer ∷ []) w'
  pub go_on : AllGoOn options lines answers
  pub written : sink'.written ≡ append_known sink.written (texts (answers ++ answer ∷ []))
  pub refusal : any ≡ has_refusal (answers ++ answer ∷ [])

-- and then one more, whose reply met a fault: a front of it was appended
pub record HasFailed (options : Options) (w w' : Workspace) (lines : List (List ℕ)) (last : List ℕ) (sink sink' : SinkSeen) : Type 0 where
  pub answers : List (Option Answer)
  pub answer : Answer
  pub right : Right options w (lines ++ last ∷ []) (answers ++ Some answer ∷ []) w'
  pub go_on : AllGoOn options lines answers
  pub front : List ℕ
  pub rest : List ℕ
  pub whole : text_of answer ≡ front ++ rest
  pub written : sink'.written ≡ append_known sink.written (texts answers ++ front)

-- ---- how a session ends

-- after these lines that end by LF were taken, and what follows them
abbrev pub Ends : Options → Workspace → Workspace → SourceSeen → SourceSeen → SinkSeen → SinkSeen → List (List ℕ) → List ℕ → Status → Type 0
-- at the end of the script, where what stands after the last LF is a line too; or at a line that stops it, whatever follows its LF
Ends options w w' script script' sink sink' lines rest (Done any) =
    (IsEndOfScript (joined lines ++ rest) script'.left × IsOneLine rest × HasDone options w w' lines rest sink sink' any)
    ⊎ ((l more : List ℕ) × (rest ≡ l ++ 10 ∷ more) × IsOneLine l × (done : HasDone options w w' lines l sink sink' any) × Stops options l done.answer)
-- the words are refused, and nothing is read or written
Ends options w w' script script' sink sink' lines rest BadWords = (lines ≡ []) × (rest ≡ []) × (sink' ≡ sink) × (w' ≡ w) × (script' ≡ script)
Ends options w w' script script' sink sink' lines rest ReadFault = Rose script.faults script'.faults × IsOneLine rest × HasReplied options w w' lines sink sink'
Ends options w w' script script' sink sink' lines rest TooManyBytes = (length (joined lines ++ rest) ≡ 2 ^ 32) × IsOneLine rest × HasReplied options w w' lines sink sink'
Ends options w w' script script' sink sink' lines rest NoMemory = HasReplied options w w' lines sink sink'
-- what follows begins with the line whose reply met the fault
Ends options w w' script script' sink sink' lines rest WriteFault =
    Rose sink.faults sink'.faults × (l more : List ℕ) × (rest ≡ l ++ more) × IsOneLine l × EndsLine more (joined lines ++ rest) script'.left × HasFailed options w w' lines l sink sink'

-- the bytes that were taken, 2^32 at most, are these lines and what follows them
pub record Ran (options : Options) (w w' : Workspace) (script script' : SourceSeen) (sink sink' : SinkSeen) (status : Status) : Type 0 where
  pub lines : List (List ℕ)
  pub rest : List ℕ
  pub each : AreLines lines
  pub taken : script.left ≡ prepend_known (joined lines ++ rest) script'.left
  pub few : length (joined lines ++ rest) ≤ 2 ^ 32
  pub ended : Ends options w w' script script' sink sink' lines rest status

-- the script reaches EXIT, whose LF is among its first 2^32 bytes
pub record ReachesExit (bytes : List ℕ) : Type 0 where
  pub lines : List (List ℕ)
  pub last : List ℕ
  pub more : List ℕ
  pub each : AreLines lines
  pub one_line : IsOneLine last
  pub ends : IsExit last
  pub whole : bytes ≡ joined lines ++ (last ++ 10 ∷ more)
  pub soon : length (joined lines ++ (last ++ 10 ∷ [])) ≤ 2 ^ 32

-- the script has fewer than 2^32 bytes, or it reaches EXIT
abbrev pub IsShort : List ℕ → Type 0
IsShort bytes = (length bytes < 2 ^ 32) ⊎ ReachesExit bytes

-- the status of the program
abbrev pub number_of : Status → ℕ
number_of (Done any) = if any then 1 else 0
number_of BadWords = 2
number_of ReadFault = 3
number_of WriteFault = 4
number_of NoMemory = 5
number_of TooManyBytes = 6

-- ---- laws

-- the answers that say that a call on a file failed
abbrev pub is_file_fault : Option Answer → Bool
is_file_fault None = false
is_file_fault (Some (accepted payload)) = false
is_file_fault (Some (refused code)) = bytes_eq code (file_code_text XKFI0002)

abbrev pub file_faults : List (Option Answer) → ℕ
file_faults answers = count_by is_file_fault answers

-- no more calls on files are answered as failed than their count of faults rose by, unless it stands at its last value
abbrev pub FileFaultsCount : Type 0
FileFaultsCount = (options : Options) (w w' : Workspace) (lines : List (List ℕ)) (answers : List (Option Answer)) → Right options w lines answers w'
    → min (w.files.faults + file_faults answers) (2 ^ 64 - 1) ≤ w'.files.faults
