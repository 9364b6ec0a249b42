-- What was written, one piece after the other.
use Rattle.std.proofs.Common.{◌≡◌, ℕ, ◌≤◌, List, [], ◌++◌, take, drop, Option, Some, None, Result, Ok, Err, refl, sym, ap, ◌∙◌, arith, append_assoc, append-nil, take-append-drop}
use Rattle.std.specs.Io.KnownBytes.{append_known}
use Rattle.outer_io.specs.Outer.{Rose, SinkSeen}
use Rattle.kernel_session.specs.Replies.{HasWritten, WrotePart}
use Rattle.kernel_session.specs.declared.reply.WriteFailed.{WriteFailed}

pub append_nil : (old : Option (List ℕ)) → append_known old [] ≡ old
append_nil None = refl
append_nil (Some xs) = ap Some (append-nil xs)

pub append_more : (old : Option (List ℕ)) (p q : List ℕ) → append_known (append_known old p) q ≡ append_known old (p ++ q)
append_more None p q = refl
append_more (Some xs) p q = ap Some (append_assoc xs p q)

-- a piece more of the bytes was written
pub wrote_more : (bytes done rest : List ℕ) (n : ℕ) (old mid new : Option (List ℕ)) (before now later : ℕ)
    → bytes ≡ done ++ rest → mid ≡ append_known old done → before ≤ now → now ≤ later → new ≡ append_known mid (take n rest)
    → (all : List ℕ) × (bytes ≡ all ++ drop n rest) × (new ≡ append_known old all) × (before ≤ later)
wrote_more bytes done rest n old mid new before now later whole so rise more last = (
  done ++ take n rest,
  whole ∙ ap (λ l. done ++ l) (sym (take-append-drop n rest)) ∙ sym (append_assoc done (take n rest) (drop n rest)),
  last ∙ ap (λ x. append_known x (take n rest)) so ∙ append_more old done (take n rest),
  omega arith,
)

-- two texts, one after the other
pub part_then : (old new : SinkSeen) (a b : List ℕ) → WrotePart old new a → WrotePart old new (a ++ b)
part_then old new a b h = record { front = h.front; rest = h.rest ++ b; whole = ap (λ l. l ++ b) h.whole ∙ append_assoc h.front h.rest b; written = h.written }

pub then_part : (old mid new : SinkSeen) (a b : List ℕ) → mid.written ≡ append_known old.written a → WrotePart mid new b → WrotePart old new (a ++ b)
then_part old mid new a b is h = record {
  front = a ++ h.front;
  rest = h.rest;
  whole = ap (λ l. a ++ l) h.whole ∙ sym (append_assoc a h.front h.rest);
  written = h.written ∙ ap (λ x. append_known x h.front) is ∙ append_more old.written a h.front;
}

Raised : (before now later : ℕ) → before ≤ now → Rose now later → Rose before later
Raised before now later le rose = omega arith

pub both_then : (old mid new : SinkSeen) (a b : List ℕ) (r : Result (Unit {0}) WriteFailed)
    → mid.written ≡ append_known old.written a → old.faults ≤ mid.faults → HasWritten mid new b r → HasWritten old new (a ++ b) r
both_then old mid new a b (Ok x) is le h = record { later = omega (arith, h.later); ok = h.ok ∙ ap (λ x. append_known x b) is ∙ append_more old.written a b; err = tt }
both_then old mid new a b (Err e) is le h =
    record { later = omega (arith, h.later); ok = tt; err = (Raised old.faults mid.faults new.faults le h.err.0, then_part old mid new a b is h.err.1) }

pub first_failed : (old new : SinkSeen) (a b : List ℕ) (e : WriteFailed) → HasWritten old new a (Err e) → HasWritten old new (a ++ b) (Err e)
first_failed old new a b e h = record { later = h.later; ok = tt; err = (h.err.0, part_then old new a b h.err.1) }

pub then_all : {old mid new : SinkSeen} {a b : List ℕ} {r : Result (Unit {0}) WriteFailed} (x : Unit {0})
    → HasWritten old mid a (Ok x) → HasWritten mid new b r → HasWritten old new (a ++ b) r
then_all {old} {mid} {new} {a} {b} {r} x first second = both_then old mid new a b r first.ok first.later second
