-- What may be answered to the lines of a script, one after the other.
use Rattle.std.specs.Prelude.{◌≡◌, ◌≢◌, ◌⊎◌, ℕ, ◌^◌, ◌<◌, ◌≤◌, Bool, true, false, if◌then◌else◌, List, [], ◌∷◌, length, Option, Some, None}
use Rattle.std.specs.Str.{is_utf8}
use Rattle.commands.specs.declared.options.Options.{Options}
use Rattle.commands.specs.Commands.{Form, exit, no_form, form_of, trimmed, without_return}
use Rattle.commands.specs.CommandCodes.{XKLM0001, command_code_text}
use Rattle.kernel_session.specs.Replies.{Answer, accepted, refused}
use Rattle.kernel_session.specs.Steps.{Step}
use Rattle.kernel_session.specs.Workspaces.{Workspace}

-- the form of a line; one that isn't UTF-8 has none
abbrev pub line_form : List ℕ → Form
line_form line = if is_utf8 line then form_of (trimmed line) else no_form

-- a line up to its LF is answered: by its length, and then by what it holds
pub record IsAnswer (options : Options) (w : Workspace) (l : List ℕ) (answer : Answer) (w' : Workspace) : Type 0 where
  pub long : 2 ^ 24 < length l → (answer ≡ refused (command_code_text XKLM0001)) × (w' ≡ w)
  pub short : length l ≤ 2 ^ 24 → (trimmed (without_return l) ≢ []) × Step options w (line_form (without_return l)) answer w'

-- a line of blanks alone is skipped and has no answer
abbrev pub IsAnswered : Options → Workspace → List ℕ → Option Answer → Workspace → Type 0
IsAnswered options w l None w' = (length l ≤ 2 ^ 24) × (trimmed (without_return l) ≡ []) × (w' ≡ w)
IsAnswered options w l (Some answer) w' = IsAnswer options w l answer w'

-- the answers to lines, one after the other: each begins with what the one before left
abbrev pub Right : Options → Workspace → List (List ℕ) → List (Option Answer) → Workspace → Type 0
Right options w [] [] w' = w' ≡ w
Right options w [] (answer ∷ answers) w' = ⊥
Right options w (l ∷ ls) [] w' = ⊥
Right options w (l ∷ ls) (answer ∷ answers) w' = (mid : Workspace) × IsAnswered options w l answer mid × Right options mid ls answers w'

-- ---- where a session stops

abbrev pub is_refusal : Option Answer → Bool
is_refusal None = false
is_refusal (Some (accepted payload)) = false
is_refusal (Some (refused code)) = true

abbrev pub IsExit : List ℕ → Type 0
IsExit l = (length l ≤ 2 ^ 24) × (line_form (without_return l) ≡ exit)

-- at EXIT, and, where that is asked for, at the first refusal
abbrev pub Stops : Options → List ℕ → Option Answer → Type 0
Stops options l answer = IsExit l ⊎ ((options.stop ≡ true) × (is_refusal answer ≡ true))

-- at none of the lines with these answers
abbrev pub AllGoOn : Options → List (List ℕ) → List (Option Answer) → Type 0
AllGoOn options [] answers = Unit {0}
AllGoOn options (l ∷ ls) [] = Unit {0}
AllGoOn options (l ∷ ls) (answer ∷ answers) = (¬ Stops options l answer) × AllGoOn options ls answers
