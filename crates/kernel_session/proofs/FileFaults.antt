-- A reply that a call on a file failed has a rise of the count of faults to itself.
use Rattle.std.proofs.Common.{◌≡◌, inl, inr, ℕ, ◌+◌, ◌-◌, ◌^◌, ◌≤◌, min, Bool, true, false, cond, List, [], ◌∷◌, length, Option, Some, None, refl, sym, ap, ◌∙◌, subst, arith}
use Rattle.std.specs.Prelude.{codes, option_map}
use Rattle.std.specs.Str.{bytes_eq}
use Rattle.std.proofs.lemmas.Bool.{cases_lt}
use Rattle.std.proofs.lemmas.List.Sums.{sum_by-cons}
use Rattle.outer_io.specs.Files.{FilesSeen}
use Rattle.commands.specs.declared.options.Options.{Options}
use Rattle.commands.specs.Commands.{Input, text, file, Form, table, create, storage, list, query, export, exit, not_built, no_form, without_return}
use Rattle.commands.specs.CommandCodes.{CommandCode, XKCM0001, XKCM0002, XKDB0001, XKDB0002, XKDB0003, XKDB0004, XKDB0005, XKDB0006, XKLM0001, command_code_text}
use Rattle.query_paths.specs.Asked.{Asked, steps, wrong, not_valued, asked}
use Rattle.query_paths.proofs.Codes.{no_file_code}
use Rattle.tree_model.specs.QueryCodes.{QueryCode, XPDY0002, query_code_text}
use Rattle.kernel_session.specs.FileCodes.{FileCode, XKFI0001, XKFI0002, XKLM0002, DocumentCode, XKXM0001, XKXM0002, XKXM0003, XKXM0004, XKXM0005, XKXM0006, TooManyBytes, XKLM0003, document_code_text, file_code_text}
use Rattle.kernel_session.specs.LineAnswers.{IsAnswered, line_form}
use Rattle.kernel_session.specs.Replies.{Answer, accepted, refused}
use Rattle.kernel_session.specs.Sessions.{is_file_fault, FileFaultsCount}
use Rattle.kernel_session.specs.Steps.{IsGiven, IsNotGiven, IsUnread, reading_code, IsNoContent, IsQueryRefusal, IsAccepted, IsRefused, StepBy, Step, state_refusal}
use Rattle.kernel_session.specs.Workspaces.{Workspace}

-- the count has risen by so much, or stands at its last value
abbrev RisenBy : ℕ → ℕ → ℕ → Type 0
RisenBy before n now = min (before + n) (2 ^ 64 - 1) ≤ now

abbrev fault_of : List ℕ → ℕ
fault_of code = cond (bytes_eq code (codes "XKFI0002")) 1 0

stays : (before now : FilesSeen) (code : List ℕ) → bytes_eq code (codes "XKFI0002") ≡ false → before.faults ≤ now.faults → RisenBy before.faults (fault_of code) now.faults
stays before now code other le = subst (λ b. RisenBy before.faults (cond b 1 0) now.faults) (sym other) (omega arith)

rises : (before now : FilesSeen) (code : List ℕ) → min (before.faults + 1) (2 ^ 64 - 1) ≤ now.faults → RisenBy before.faults (fault_of code) now.faults
rises before now code le = by (bytes_eq code (codes "XKFI0002"))
  where
    by : (b : Bool) → RisenBy before.faults (cond b 1 0) now.faults
    by true = le
    by false = omega (arith, le)

-- ---- inputs

given_faults : (input : Input) (before now : FilesSeen) (bytes : List ℕ) → IsGiven input before now bytes → before.faults ≤ now.faults
given_faults (text xml) before now bytes g = subst (λ (s : FilesSeen). before.faults ≤ s.faults) (sym g.1) (omega arith)
given_faults (file name) before now bytes g = g.0.later.faults

is_other : (code word : List ℕ) → code ≡ word → bytes_eq word (codes "XKFI0002") ≡ false → bytes_eq code (codes "XKFI0002") ≡ false
is_other code word e h = ap (λ c. bytes_eq c (codes "XKFI0002")) e ∙ h

not_given_faults : (input : Input) (before now : FilesSeen) (code : List ℕ) → IsNotGiven input before now code → RisenBy before.faults (fault_of code) now.faults
not_given_faults (text xml) before now code h = absurd h
not_given_faults (file name) before now code h = by h.1 h.2 h.3
  where
    by : (why : FileCode) → IsUnread name before now why → code ≡ file_code_text why → RisenBy before.faults (fault_of code) now.faults
    by XKFI0001 unread e = stays before now code (is_other code (codes "XKFI0001") e refl) h.0.later.faults
    by XKFI0002 unread e = rises before now code unread
    by XKLM0002 unread e = stays before now code (is_other code (codes "XKLM0002") e refl) h.0.later.faults

-- the codes of documents, of commands and of queries are no file's
document_other : (why : Option DocumentCode) (code : List ℕ) → option_map document_code_text why ≡ Some code → bytes_eq code (codes "XKFI0002") ≡ false
document_other None code e = cc
document_other (Some XKXM0001) code e = let same : code ≡ codes "XKXM0001" = cc in is_other code _ same refl
document_other (Some XKXM0002) code e = let same : code ≡ codes "XKXM0002" = cc in is_other code _ same refl
document_other (Some XKXM0003) code e = let same : code ≡ codes "XKXM0003" = cc in is_other code _ same refl
document_other (Some XKXM0004) code e = let same : code ≡ codes "XKXM0004" = cc in is_other code _ same refl
document_other (Some XKXM0005) code e = let same : code ≡ codes "XKXM0005" = cc in is_other code _ same refl
document_other (Some XKXM0006) code e = let same : code ≡ codes "XKXM0006" = cc in is_other code _ same refl
document_other (Some TooManyBytes) code e = let same : code ≡ codes "XKLM0002" = cc in is_other code _ same refl
document_other (Some XKLM0003) code e = let same : code ≡ codes "XKLM0003" = cc in is_other code _ same refl

command_other : (why : CommandCode) → bytes_eq (command_code_text why) (codes "XKFI0002") ≡ false
command_other XKCM0001 = refl
command_other XKCM0002 = refl
command_other XKDB0001 = refl
command_other XKDB0002 = refl
command_other XKDB0003 = refl
command_other XKDB0004 = refl
command_other XKDB0005 = refl
command_other XKDB0006 = refl
command_other XKLM0001 = refl

query_other : (answer : Asked) (code : List ℕ) → IsQueryRefusal answer code → bytes_eq code (codes "XKFI0002") ≡ false
query_other (steps path) code h = absurd h
query_other (wrong why) code h = is_other code _ h (no_file_code why).failed
query_other not_valued code h = is_other code _ h refl

no_content_faults : (strip : Bool) (input : Input) (before now : FilesSeen) (code : List ℕ) → IsNoContent strip input before now code → RisenBy before.faults (fault_of code) now.faults
no_content_faults strip input before now code (inl h) = not_given_faults input before now code h
no_content_faults strip input before now code (inr h) = stays before now code (document_other (reading_code h.2.0) code h.2.2) (given_faults input before now h.0 h.1)

-- ---- commands

unchanged : (w w' : Workspace) → w' ≡ w → w.files.faults ≤ w'.files.faults
unchanged w w' e = subst (λ (x : Workspace). w.files.faults ≤ x.files.faults) (sym e) (omega arith)

files_unchanged : (before now : FilesSeen) → now ≡ before → before.faults ≤ now.faults
files_unchanged before now e = subst (λ (x : FilesSeen). before.faults ≤ x.faults) (sym e) (omega arith)

same_faults : (w w' : Workspace) (code : List ℕ) → bytes_eq code (codes "XKFI0002") ≡ false → w' ≡ w → RisenBy w.files.faults (fault_of code) w'.files.faults
same_faults w w' code other e = stays w.files w'.files code other (unchanged w w' e)

refused_faults : (options : Options) (w : Workspace) (form : Form) (code : List ℕ) (w' : Workspace) → IsRefused options w form code w' → RisenBy w.files.faults (fault_of code) w'.files.faults
refused_faults options w (table input) code w' h = no_content_faults options.strip input w.files w'.files code h.0
refused_faults options w (create name None) code w' h = absurd h.0
refused_faults options w (create name (Some input)) code w' h = no_content_faults options.strip input w.files w'.files code h.0
refused_faults options w (storage range) code w' h = absurd h
refused_faults options w list code w' h = absurd h
refused_faults options w (query words) code w' (inl h, same) = same_faults w w' code (query_other (asked words) code h) same
refused_faults options w (query words) code w' (inr h, same) = same_faults w w' code (is_other code (query_code_text XPDY0002) h.3 refl) same
refused_faults options w (export path name) code w' h = rises w.files w'.files code h.1.risen
refused_faults options w exit code w' h = absurd h
refused_faults options w not_built code w' h = absurd h
refused_faults options w no_form code w' h = absurd h

accepted_faults : (options : Options) (w : Workspace) (form : Form) (payload : List ℕ) (w' : Workspace) → IsAccepted options w form payload w' → w.files.faults ≤ w'.files.faults
accepted_faults options w (table input) payload w' h = given_faults input w.files w'.files h.1.0 h.1.1
accepted_faults options w (create name None) payload w' h = files_unchanged w.files w'.files h.1.1
accepted_faults options w (create name (Some input)) payload w' h = given_faults input w.files w'.files h.1.0 h.1.1
accepted_faults options w (storage range) payload w' h = unchanged w w' h.3
accepted_faults options w list payload w' h = unchanged w w' h.1
accepted_faults options w (query words) payload w' h = files_unchanged w.files w'.files h.5.1
accepted_faults options w (export path name) payload w' h = h.5.later.faults
accepted_faults options w exit payload w' h = unchanged w w' h.1
accepted_faults options w not_built payload w' h = absurd h
accepted_faults options w no_form payload w' h = absurd h

-- ---- lines

abbrev fault_count : Option Answer → ℕ
fault_count answer = cond (is_file_fault answer) 1 0

refused_same : (w w' : Workspace) (answer : Answer) (code : CommandCode) → answer ≡ refused (command_code_text code) → w' ≡ w → RisenBy w.files.faults (fault_count (Some answer)) w'.files.faults
refused_same w w' answer code e same =
    subst (λ a. RisenBy w.files.faults (fault_count (Some a)) w'.files.faults) (sym e) (same_faults w w' (command_code_text code) (command_other code) same)

step_faults : (options : Options) (w : Workspace) (form : Form) (answer : Answer) (w' : Workspace) → Step options w form answer w' → RisenBy w.files.faults (fault_count (Some answer)) w'.files.faults
step_faults options w form answer w' h = by (state_refusal w.state form) answer h
  where
    by : (code : Option CommandCode) (answer : Answer) → StepBy code options w form answer w' → RisenBy w.files.faults (fault_count (Some answer)) w'.files.faults
    by (Some code) answer h = refused_same w w' answer code h.0 h.1
    by None (accepted payload) h = omega (arith, accepted_faults options w form payload w' h)
    by None (refused code) (inl h) = refused_faults options w form code w' h
    by None (refused code) (inr h) = stays w.files w'.files code (is_other code (codes "XKMEM") h.code_is refl) h.files.later.faults

answer_faults : (options : Options) (w : Workspace) (l : List ℕ) (answer : Option Answer) (w' : Workspace) → IsAnswered options w l answer w' → RisenBy w.files.faults (fault_count answer) w'.files.faults
answer_faults options w l None w' h = omega (arith, unchanged w w' h.2)
answer_faults options w l (Some answer) w' h = elim (cases_lt (2 ^ 24) (length l)) [
  | inl lt ↦ (let told = h.long lt in refused_same w w' answer XKLM0001 told.0 told.1)
  | inr le ↦ step_faults options w (line_form (without_return l)) answer w' (h.short le).1
]

pub faults_counted : FileFaultsCount
faults_counted options w w' [] [] h = omega (arith, unchanged w w' h)
faults_counted options w w' [] (answer ∷ answers) h = absurd h
faults_counted options w w' (l ∷ lines) [] h = absurd h
faults_counted options w w' (l ∷ lines) (answer ∷ answers) h =
    omega (arith, answer_faults options w l answer h.0 h.1, faults_counted options h.0 w' lines answers h.2, sum_by-cons (λ a. cond (is_file_fault a) 1 0) answer answers)
