-- The text of a reply, and what a write leaves of it.
use Rattle.std.specs.Prelude.{◌≡◌, ℕ, ◌≤◌, List, [], ◌∷◌, ◌++◌, length, codes, Option, Some, None, Result, OnOk, OnErr}
use Rattle.std.specs.Fmt.{decimal}
use Rattle.std.specs.Io.KnownBytes.{append_known}
use Rattle.outer_io.specs.Outer.{Rose, SinkSeen}
use Rattle.tree_model.specs.CodeTexts.{text_of_code}
use Rattle.tree_model.specs.declared.code.Refusal.{Refusal}
use Rattle.tree_model.specs.declared.code.Refusal.TheVariants as refusal
use Rattle.kernel_session.specs.declared.reply.WriteFailed.{WriteFailed}

pub data Answer : Type 0 where
  accepted : (payload : List ℕ) → Answer
  refused : (code : List ℕ) → Answer

-- a payload of this text, or want of memory
abbrev pub IsText : List ℕ → Answer → Type 0
IsText text (accepted payload) = payload ≡ text
IsText text (refused code) = code ≡ codes "XKMEM"

abbrev pub refusal_text : Refusal → List ℕ
refusal_text (refusal.Code code) = text_of_code code
refusal_text refusal.NoMemory = codes "XKMEM"

-- the line before a payload of so many bytes
unfoldable pub head_of : ℕ → List ℕ
head_of n = codes "ok " ++ decimal n ++ 10 ∷ []

abbrev pub text_of : Answer → List ℕ
text_of (accepted payload) = head_of (length payload) ++ (payload ++ 10 ∷ [])
text_of (refused code) = codes "err " ++ code ++ 10 ∷ []

-- a skipped line has no answer
abbrev pub text_if : Option Answer → List ℕ
text_if None = []
text_if (Some answer) = text_of answer

-- a front of the text was written
pub record WrotePart (old new : SinkSeen) (text : List ℕ) : Type 0 where
  pub front : List ℕ
  pub rest : List ℕ
  pub whole : text ≡ front ++ rest
  pub written : new.written ≡ append_known old.written front

-- all of the text was written, or a write failed and a front of it was
pub record HasWritten (old new : SinkSeen) (text : List ℕ) (r : Result (Unit {0}) WriteFailed) : Type 0 where
  pub later : old.faults ≤ new.faults
  pub ok : OnOk r (new.written ≡ append_known old.written text)
  pub err : OnErr r (Rose old.faults new.faults × WrotePart old new text)
