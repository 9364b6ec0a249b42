-- A session on its way.
use Rattle.std.specs.Prelude.{◌≡◌, ℕ, ◌+◌, ◌^◌, ◌≤◌, Bool, true, false, ◌||◌, List, length, Option, Some, Result, IfOk, IfErr}
use Rattle.std.specs.Io.KnownBytes.{prepend_known, append_known}
use Rattle.std.specs.Bool.{Decides}
use Rattle.outer_io.specs.Outer.{Rose, SourceSeen, SinkSeen}
use Rattle.commands.specs.declared.options.Options.{Options}
use Rattle.kernel_session.specs.declared.reply.WriteFailed.{WriteFailed}
use Rattle.kernel_session.specs.declared.session.Served.{Served}
use Rattle.kernel_session.specs.declared.lines.LineEnd.{LineEnd}
use Rattle.kernel_session.specs.declared.lines.LineEnd.TheVariants.{Newline, EndOfScript, Failed, Full}
use Rattle.kernel_session.specs.declared.session.Status.{Status}
use Rattle.kernel_session.specs.declared.session.Status.TheVariants.{ReadFault, TooManyBytes}
use Rattle.kernel_session.specs.Lines.{IsKept}
use Rattle.kernel_session.specs.LineAnswers.{IsAnswered, Stops, is_refusal}
use Rattle.kernel_session.specs.Replies.{Answer, text_if, WrotePart}
use Rattle.kernel_session.specs.Sessions.{AreLines, HasReplied, has_refusal, joined}
use Rattle.kernel_session.specs.Workspaces.{Workspace}

-- a whole line was read, which may be the last one
abbrev pub IsWhole : LineEnd → Type 0
IsWhole Newline = Unit {0}
IsWhole EndOfScript = Unit {0}
IsWhole Failed = ⊥
IsWhole Full = ⊥

-- or why not, by the status that this gives
abbrev pub IsCutShort : LineEnd → Status → Type 0
IsCutShort Newline status = ⊥
IsCutShort EndOfScript status = ⊥
IsCutShort Failed status = status ≡ ReadFault
IsCutShort Full status = status ≡ TooManyBytes

abbrev pub ends_script : LineEnd → Bool
ends_script Newline = false
ends_script EndOfScript = true
ends_script Failed = false
ends_script Full = false

-- a line was answered, whatever was kept of it: all of it, or that it is too long
abbrev pub AnswersLine : Options → Workspace → List ℕ → Bool → Option Answer → Workspace → Type 0
AnswersLine options w line is_long answer w' = (l : List ℕ) → IsKept l line is_long → IsAnswered options w l answer w'

-- and whether the session stops there
abbrev pub TellsStop : Options → List ℕ → Bool → Option Answer → Bool → Type 0
TellsStop options line is_long answer stops = (l : List ℕ) → IsKept l line is_long → Decides stops (Stops options l answer)

-- a reply was written, whether one was refused so far, and whether the session stops
pub record HasServed (options : Options) (line : List ℕ) (is_long refused : Bool) (answer : Option Answer) (sink sink' : SinkSeen) (served : Served) : Type 0 where
  pub written : sink'.written ≡ append_known sink.written (text_if answer)
  pub refusal : served.refused ≡ (refused || is_refusal answer)
  pub stops : TellsStop options line is_long answer served.stops

-- the write of a reply failed
pub record MeetsFault (answer : Option Answer) (sink sink' : SinkSeen) : Type 0 where
  pub reply : Answer
  pub is : answer ≡ Some reply
  pub risen : Rose sink.faults sink'.faults
  pub part : WrotePart sink sink' (text_if answer)

-- a line was answered
pub record Serves (options : Options) (w w' : Workspace) (line : List ℕ) (is_long refused : Bool) (sink sink' : SinkSeen) (r : Result Served WriteFailed) : Type 0 where
  pub answer : Option Answer
  pub is : AnswersLine options w line is_long answer w'
  pub later : sink.faults ≤ sink'.faults
  pub ok : IfOk r (HasServed options line is_long refused answer sink sink')
  pub err : IfErr r (λ _. MeetsFault answer sink sink')

-- the lines so far, with how many bytes may still be taken, and whether one was refused
pub record IsServing (options : Options) (w w' : Workspace) (script script' : SourceSeen) (sink sink' : SinkSeen) (room : ℕ) (refused : Bool) : Type 0 where
  pub lines : List (List ℕ)
  pub each : AreLines lines
  pub taken : script.left ≡ prepend_known (joined lines) script'.left
  pub counted : room + length (joined lines) ≡ 2 ^ 32
  pub replied : HasReplied options w w' lines sink sink'
  pub refusal : refused ≡ has_refusal replied.answers
  pub reads : script.faults ≤ script'.faults
  pub writes : sink.faults ≤ sink'.faults
