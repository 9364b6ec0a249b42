-- One line is answered.
use Rattle.std.proofs.Common.{◌≡◌, ◌≢◌, inl, inr, ℕ, ◌≤◌, ◌<◌, ◌^◌, Bool, true, false, ◌||◌, ◌&&◌, List, [], length, Option, Some, None, Result, Ok, Err, refl, sym, ap, ap₂, ◌∙◌, subst, arith}
use Rattle.std.specs.Prelude.{◌⊎◌, OnErr, if◌then◌else◌}
use Rattle.std.specs.Bool.{Decides}
use Rattle.std.specs.Str.{IsUtf8, is_utf8}
use Rattle.std.proofs.lemmas.Str.{IsUtf8-from_is_utf8, is_utf8-from_IsUtf8}
use Rattle.std.proofs.lemmas.Bool.{false≢true}
use Rattle.outer_io.specs.Outer.{SinkSeen}
use Rattle.tree_model.specs.CodeTexts.{text_of_code}
use Rattle.tree_model.specs.declared.code.Refusal.{Refusal}
use Rattle.tree_model.specs.declared.code.Refusal.TheVariants.{Code, NoMemory}
use Rattle.commands.specs.declared.options.Options.{Options}
use Rattle.commands.specs.declared.command.Command.{Command}
use Rattle.commands.specs.CommandView.{form_of_command, IsNoCommand, ReadsCommand}
use Rattle.commands.specs.Commands.{Form, exit, no_form, form_of, trimmed, without_return}
use Rattle.commands.specs.CommandCodes.{XKLM0001, command_code_text}
use Rattle.kernel_session.specs.Lines.{IsKept}
use Rattle.kernel_session.specs.LineAnswers.{IsExit, Stops, line_form, is_refusal}
use Rattle.kernel_session.specs.Replies.{Answer, refused, refusal_text, text_of, HasWritten}
use Rattle.kernel_session.specs.Serving.{AnswersLine, MeetsFault}
use Rattle.kernel_session.specs.Steps.{Step}
use Rattle.kernel_session.specs.Workspaces.{Workspace}
use Rattle.kernel_session.specs.declared.reply.WriteFailed.{WriteFailed}

-- ---- the form of a line that was read

pub form_read : (line : List ℕ) (command : Command) → ReadsCommand line (Ok command) → line_form line ≡ form_of_command command
form_read line command r = ap (λ b. if b then form_of (trimmed line) else no_form) (is_utf8-from_IsUtf8 line r.1) ∙ r.2

no_form_of : (line : List ℕ) → IsNoCommand line → line_form line ≡ no_form
no_form_of line (inl other) = by (is_utf8 line) refl
  where
    by : (b : Bool) → is_utf8 line ≡ b → (if b then form_of (trimmed line) else no_form) ≡ no_form
    by true e = absurd (other (IsUtf8-from_is_utf8 line e))
    by false e = refl
no_form_of line (inr none) = by (is_utf8 line)
  where
    by : (b : Bool) → (if b then form_of (trimmed line) else no_form) ≡ no_form
    by true = none
    by false = refl

pub not_read : (options : Options) (w : Workspace) (line : List ℕ) (why : Refusal) → length line ≤ 2 ^ 24 → ReadsCommand line (Err why) → Step options w (line_form line) (refused (refusal_text why)) w
not_read options w line (Code code) few (inl long) = absurd (omega (arith, few, long.0))
not_read options w line (Code code) few (inr h) = subst (λ (f : Form). Step options w f (refused (text_of_code code)) w) (sym (no_form_of line h.1)) (ap refused h.2, refl)
not_read options w line NoMemory few h = absurd h

pub not_read_goes_on : (line : List ℕ) (why : Refusal) → length line ≤ 2 ^ 24 → ReadsCommand line (Err why) → Decides false (line_form line ≡ exit)
not_read_goes_on line (Code code) few (inl long) = absurd (omega (arith, few, long.0))
not_read_goes_on line (Code code) few (inr h) = (λ e. absurd (false≢true e), λ is. let same : no_form ≡ exit = sym (no_form_of line h.1) ∙ is in cc)
not_read_goes_on line NoMemory few h = absurd h

-- ---- where a line is all kept

kept_whole : (P : List ℕ → Type 0) (l line : List ℕ) (is_long : Bool) → is_long ≡ false → IsKept l line is_long → P line → P l
kept_whole P l line is_long whole kept h = subst P (kept.whole whole).0 h

pub answered : (options : Options) (w w' : Workspace) (line : List ℕ) (is_long : Bool) (answer : Answer) → is_long ≡ false → trimmed (without_return line) ≢ [] → Step options w (line_form (without_return line)) answer w'
    → AnswersLine options w line is_long (Some answer) w'
answered options w w' line is_long answer whole some step l kept =
    let few : length l ≤ 2 ^ 24 = (kept.whole whole).1 in
    record {
      long = λ over. absurd (omega (arith, few, over));
      short = λ _. kept_whole (λ x. (trimmed (without_return x) ≢ []) × Step options w (line_form (without_return x)) answer w') l line is_long whole kept (some, step);
    }

pub ends_session : (line : List ℕ) (is_long exits : Bool) → is_long ≡ false → Decides exits (line_form (without_return line) ≡ exit) → (l : List ℕ) → IsKept l line is_long → Decides exits (IsExit l)
ends_session line is_long exits whole tells l kept =
    let same : line ≡ l = (kept.whole whole).0 in
    let told : Decides exits (line_form (without_return l) ≡ exit) = subst (λ x. Decides exits (line_form (without_return x) ≡ exit)) same tells in
    (λ e. ((kept.whole whole).1, told.0 e), λ is. told.1 is.1)

-- ---- a line of blanks alone

blank_no_exit : (line : List ℕ) (b : Bool) → trimmed line ≡ [] → (if b then form_of (trimmed line) else no_form) ≡ exit → ⊥
blank_no_exit line true none is = let same : form_of [] ≡ exit = sym (ap form_of none) ∙ is in cc
blank_no_exit line false none is = cc

pub skipped : (options : Options) (w : Workspace) (line : List ℕ) (is_long : Bool) → is_long ≡ false → trimmed (without_return line) ≡ [] → AnswersLine options w line is_long None w
skipped options w line is_long whole none l kept = ((kept.whole whole).1, kept_whole (λ x. trimmed (without_return x) ≡ []) l line is_long whole kept none, refl)

pub skipped_goes_on : (line : List ℕ) (is_long : Bool) → is_long ≡ false → trimmed (without_return line) ≡ [] → (l : List ℕ) → IsKept l line is_long → Decides false (IsExit l)
skipped_goes_on line is_long whole none l kept =
    let blank : trimmed (without_return l) ≡ [] = kept_whole (λ x. trimmed (without_return x) ≡ []) l line is_long whole kept none in
    (λ e. absurd (false≢true e), λ is. absurd (blank_no_exit (without_return l) (is_utf8 (without_return l)) blank is.1))

-- ---- a line that is too long

pub too_long : (options : Options) (w : Workspace) (line : List ℕ) (is_long : Bool) → is_long ≡ true → AnswersLine options w line is_long (Some (refused (command_code_text XKLM0001))) w
too_long options w line is_long over l kept =
    let many : 2 ^ 24 < length l = kept.long over in
    record { long = λ _. (refl, refl); short = λ few. absurd (omega (arith, many, few)) }

pub too_long_goes_on : (line : List ℕ) (is_long : Bool) → is_long ≡ true → (l : List ℕ) → IsKept l line is_long → Decides false (IsExit l)
too_long_goes_on line is_long over l kept =
    let many : 2 ^ 24 < length l = kept.long over in
    (λ e. absurd (false≢true e), λ is. absurd (omega (arith, many, is.0)))

-- ---- where the session stops

told_apart : (a b c : Bool) → (a || (b && c)) ≡ true → (a ≡ true) ⊎ ((b ≡ true) × (c ≡ true))
told_apart true b c is = inl refl
told_apart false true c is = inr (refl, is)
told_apart false false c is = absurd (false≢true is)

told_together : (a b c : Bool) → (a ≡ true) ⊎ ((b ≡ true) × (c ≡ true)) → (a || (b && c)) ≡ true
told_together a b c (inl is) = ap (λ x. x || (b && c)) is
told_together true b c (inr both) = refl
told_together false b c (inr both) = ap₂ (λ x y. x && y) both.0 both.1

pub stops_told : (options : Options) (l : List ℕ) (answer : Option Answer) (exits is_refused : Bool) → Decides exits (IsExit l) → is_refused ≡ is_refusal answer → Decides (exits || (options.stop && is_refused)) (Stops options l answer)
stops_told options l answer exits is_refused tells same = (λ e. there (told_apart exits options.stop is_refused e), λ stops. told_together exits options.stop is_refused (back stops))
  where
    there : (exits ≡ true) ⊎ ((options.stop ≡ true) × (is_refused ≡ true)) → Stops options l answer
    there (inl e) = inl (tells.0 e)
    there (inr both) = inr (both.0, sym same ∙ both.1)

    back : Stops options l answer → (exits ≡ true) ⊎ ((options.stop ≡ true) × (is_refused ≡ true))
    back (inl is) = inl (tells.1 is)
    back (inr both) = inr (both.0, same ∙ both.1)

-- ---- a write that failed

pub meets_fault : (old new : SinkSeen) (answer : Answer) (r : Result (Unit {0}) WriteFailed) → HasWritten old new (text_of answer) r → OnErr r (MeetsFault (Some answer) old new)
meets_fault old new answer (Ok x) h = tt
meets_fault old new answer (Err e) h = record { reply = answer; is = refl; risen = h.err.0; part = h.err.1 }
