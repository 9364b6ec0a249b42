-- A session goes on by a line, and ends.
use Rattle.std.proofs.Common.{◌≡◌, inl, inr, ℕ, ◌+◌, ◌-◌, ◌^◌, ◌<◌, ◌≤◌, Bool, true, false, ◌||◌, List, [], ◌∷◌, ◌++◌, length, Option, Some, Result, Ok, Err, refl, sym, ap, ◌∙◌, subst, arith, append_assoc, append-nil, length-append, length-take, drop}
use Rattle.std.specs.Io.KnownBytes.{prepend_known, append_known, IsAtEnd}
use Rattle.std.proofs.lemmas.List.Concat.{flat_map-append}
use Rattle.std.proofs.lemmas.List.Folds.{list_any-append}
use Rattle.std.specs.Bool.{Decides}
use Rattle.std.proofs.lemmas.Bool.{false≢true}
use Rattle.outer_io.specs.Outer.{Rose, SourceSeen, SinkSeen}
use Rattle.commands.specs.declared.options.Options.{Options}
use Rattle.kernel_session.specs.Lines.{IsOneLine, IsKept, IsUsed, ReadsLine, LosesLine, ending, behind, pending, stock}
use Rattle.kernel_session.specs.declared.line_reader.LineReader.{LineReader}
use Rattle.kernel_session.specs.LineAnswers.{IsAnswered, Right, AllGoOn, Stops, is_refusal}
use Rattle.kernel_session.specs.Replies.{Answer, text_of, text_if}
use Rattle.kernel_session.specs.Serving.{Serves, IsServing, IsWhole, IsCutShort, ends_script}
use Rattle.kernel_session.specs.Sessions.{joined, AreLines, EndsLine, texts, has_refusal, HasReplied, HasDone, HasFailed, Ran}
use Rattle.kernel_session.specs.Workspaces.{Workspace}
use Rattle.kernel_session.specs.declared.session.Served.{Served}
use Rattle.kernel_session.specs.declared.reply.WriteFailed.{WriteFailed}
use Rattle.kernel_session.specs.declared.lines.LineEnd.{LineEnd}
use Rattle.kernel_session.specs.declared.lines.LineEnd.TheVariants.{Newline, EndOfScript, Failed, Full}
use Rattle.kernel_session.specs.declared.session.Status.{Status}
use Rattle.kernel_session.specs.declared.session.Status.TheVariants.{Done, WriteFault, NoMemory, ReadFault, TooManyBytes}
use Rattle.kernel_session.proofs.Streams.{prepend_nil, prepend_append}
use Rattle.kernel_session.proofs.Written.{append_nil, append_more}

-- ---- lines and answers, and one more of each

lines_more : (ls : List (List ℕ)) (l : List ℕ) → AreLines ls → IsOneLine l → AreLines (ls ++ l ∷ [])
lines_more [] l h one = (one, tt)
lines_more (k ∷ ls) l h one = (h.0, lines_more ls l h.1 one)

right_more : (options : Options) (w mid w' : Workspace) (ls : List (List ℕ)) (answers : List (Option Answer)) (l : List ℕ) (answer : Option Answer)
    → Right options w ls answers mid → IsAnswered options mid l answer w' → Right options w (ls ++ l ∷ []) (answers ++ answer ∷ []) w'
right_more options w mid w' [] [] l answer h is = (w', subst (λ s. IsAnswered options s l answer w') h is, refl)
right_more options w mid w' [] (a ∷ more) l answer h is = absurd h
right_more options w mid w' (k ∷ ls) [] l answer h is = absurd h
right_more options w mid w' (k ∷ ls) (a ∷ more) l answer h is = (h.0, h.1, right_more options h.0 mid w' ls more l answer h.2 is)

go_on_more : (options : Options) (w mid : Workspace) (ls : List (List ℕ)) (answers : List (Option Answer)) (l : List ℕ) (answer : Option Answer)
    → Right options w ls answers mid → AllGoOn options ls answers → (¬ Stops options l answer) → AllGoOn options (ls ++ l ∷ []) (answers ++ answer ∷ [])
go_on_more options w mid [] [] l answer h all goes = (goes, tt)
go_on_more options w mid [] (a ∷ more) l answer h all goes = absurd h
go_on_more options w mid (k ∷ ls) [] l answer h all goes = absurd h
go_on_more options w mid (k ∷ ls) (a ∷ more) l answer h all goes = (all.0, go_on_more options h.0 mid ls more l answer h.2 all.1 goes)

joined_more : (ls : List (List ℕ)) (l : List ℕ) → joined (ls ++ l ∷ []) ≡ joined ls ++ (l ++ 10 ∷ [])
joined_more ls l = flat_map-append (λ x. x ++ 10 ∷ []) ls (l ∷ []) ∙ ap (λ x. joined ls ++ x) (append-nil (l ++ 10 ∷ []))

texts_more : (answers : List (Option Answer)) (answer : Option Answer) → texts (answers ++ answer ∷ []) ≡ texts answers ++ text_if answer
texts_more answers answer = flat_map-append text_if answers (answer ∷ []) ∙ ap (λ x. texts answers ++ x) (append-nil (text_if answer))

or_false : (b : Bool) → (b || false) ≡ b
or_false true = refl
or_false false = refl

refusal_more : (answers : List (Option Answer)) (answer : Option Answer) → has_refusal (answers ++ answer ∷ []) ≡ (has_refusal answers || is_refusal answer)
refusal_more answers answer = list_any-append is_refusal answers (answer ∷ []) ∙ ap (λ x. has_refusal answers || x) (or_false (is_refusal answer))

written_more : (old mid new : SinkSeen) (answers : List (Option Answer)) (answer : Option Answer) → mid.written ≡ append_known old.written (texts answers) → new.written ≡ append_known mid.written (text_if answer)
    → new.written ≡ append_known old.written (texts (answers ++ answer ∷ []))
written_more old mid new answers answer so more =
    more ∙ ap (λ x. append_known x (text_if answer)) so ∙ append_more old.written (texts answers) (text_if answer) ∙ ap (append_known old.written) (sym (texts_more answers answer))

-- the bytes so far, and those of one more line
taken_more : (script now : SourceSeen) (left : Option (List ℕ)) (ls : List (List ℕ)) (bytes : List ℕ) → script.left ≡ prepend_known (joined ls) now.left → now.left ≡ prepend_known bytes left → script.left ≡ prepend_known (joined ls ++ bytes) left
taken_more script now left ls bytes so more = so ∙ ap (prepend_known (joined ls)) more ∙ sym (prepend_append (joined ls) bytes left)

-- and those that were taken and aren't used
all_taken : (script now after : SourceSeen) (ls : List (List ℕ)) (bytes rest : List ℕ) → script.left ≡ prepend_known (joined ls) now.left → now.left ≡ prepend_known bytes (behind rest after).left
    → script.left ≡ prepend_known (joined ls ++ (bytes ++ rest)) after.left
all_taken script now after ls bytes rest so more =
    taken_more script now (prepend_known rest after.left) ls bytes so more ∙ sym (prepend_append (joined ls ++ bytes) rest after.left) ∙ ap (λ x. prepend_known x after.left) (append_assoc (joined ls) bytes rest)

counts : (ls : List (List ℕ)) (bytes rest : List ℕ) → length (joined ls ++ (bytes ++ rest)) ≡ length (joined ls) + (length bytes + length rest)
counts ls bytes rest = length-append (joined ls) (bytes ++ rest) ∙ ap (λ n. length (joined ls) + n) (length-append bytes rest)

-- ---- on its way

pub serving_none : (options : Options) (w : Workspace) (script : SourceSeen) (sink : SinkSeen) (room : ℕ) → room ≡ 2 ^ 32 → IsServing options w w script (behind [] script) sink sink room false
serving_none options w script sink room is = record {
  lines = [];
  each = tt;
  taken = sym (prepend_nil script.left) ∙ ap (prepend_known []) (sym (prepend_nil script.left));
  counted = omega arith;
  replied = record { answers = []; right = refl; go_on = tt; written = sym (append_nil sink.written) };
  refusal = refl;
  reads = omega arith;
  writes = omega arith;
}

pub serving_more : (options : Options) (w mid w' : Workspace) (script now after : SourceSeen) (sink part sink' : SinkSeen) (room room' : ℕ) (refused : Bool) (served : Served) (line : List ℕ) (long : Bool)
    → IsServing options w mid script now sink part room refused → ReadsLine now after room room' line long Newline → Serves options mid w' line long refused part sink' (Ok served) → served.stops ≡ false
    → IsServing options w w' script after sink sink' room' served.refused
serving_more options w mid w' script now after sink part sink' room room' refused served line long h r s never = record {
  lines = h.lines ++ r.l ∷ [];
  each = lines_more h.lines r.l h.each r.one_line;
  taken = taken_more script now after.left h.lines (r.l ++ 10 ∷ []) h.taken r.consumed ∙ ap (λ x. prepend_known x after.left) (sym (joined_more h.lines r.l));
  counted = omega (arith, h.counted, r.counted, ap length (joined_more h.lines r.l), length-append (joined h.lines) (r.l ++ 10 ∷ []));
  replied = record {
    answers = h.replied.answers ++ s.answer ∷ [];
    right = right_more options w mid w' h.lines h.replied.answers r.l s.answer h.replied.right (s.is r.l r.kept);
    go_on = go_on_more options w mid h.lines h.replied.answers r.l s.answer h.replied.right h.replied.go_on (λ stops. false≢true (sym never ∙ (s.ok.stops r.l r.kept).1 stops));
    written = written_more sink part sink' h.replied.answers s.answer h.replied.written s.ok.written;
  };
  refusal = s.ok.refusal ∙ ap (λ x. x || is_refusal s.answer) h.refusal ∙ sym (refusal_more h.replied.answers s.answer);
  reads = omega (arith, h.reads, r.later);
  writes = omega (arith, h.writes, s.later);
}

-- ---- at its end

pub no_memory : (options : Options) (w mid : Workspace) (script now after : SourceSeen) (sink sink' : SinkSeen) (room room' : ℕ) (refused : Bool) (rest : List ℕ)
    → IsServing options w mid script now sink sink' room refused → LosesLine now (behind rest after) room room' → length rest ≤ room' → Ran options w mid script after sink sink' NoMemory
no_memory options w mid script now after sink sink' room room' refused rest h r held = record {
  lines = h.lines;
  rest = r.bytes ++ rest;
  each = h.each;
  taken = all_taken script now after h.lines r.bytes rest h.taken r.consumed;
  few = omega (arith, counts h.lines r.bytes rest, h.counted, r.counted, held);
  ended = h.replied;
}

-- a reader that was never made has taken nothing
pub no_reader : (options : Options) (w : Workspace) (script : SourceSeen) (sink : SinkSeen) → Ran options w w script script sink sink NoMemory
no_reader options w script sink = record {
  lines = [];
  rest = [];
  each = tt;
  taken = sym (prepend_nil script.left);
  few = omega arith;
  ended = record { answers = []; right = refl; go_on = tt; written = sym (append_nil sink.written) };
}

-- what is pending is within what may still be used
pub pending_few : (r : LineReader) → length (pending r) ≤ stock r
pending_few r = omega (arith, length-take (r.end - r.start) (drop r.start r.buffer.items))

plain : (l rest : List ℕ) → rest ≡ [] → (l ++ []) ++ rest ≡ l
plain l rest none = ap (λ x. (l ++ []) ++ x) none ∙ append-nil (l ++ []) ∙ append-nil l

-- what was read is no whole line
pub cut_short : (options : Options) (w mid : Workspace) (script now after : SourceSeen) (sink sink' : SinkSeen) (room room' : ℕ) (refused : Bool) (line rest : List ℕ) (long : Bool) (end : LineEnd) (status : Status)
    → IsServing options w mid script now sink sink' room refused → ReadsLine now (behind rest after) room room' line long end → IsUsed end rest → length rest ≤ room' → IsCutShort end status → Ran options w mid script after sink sink' status
cut_short options w mid script now after sink sink' room room' refused line rest long Newline status h r used held is = absurd is
cut_short options w mid script now after sink sink' room room' refused line rest long EndOfScript status h r used held is = absurd is
cut_short options w mid script now after sink sink' room room' refused line rest long Failed status h r used held is = subst (Ran options w mid script after sink sink') (sym is) (record {
  lines = h.lines;
  rest = (r.l ++ []) ++ rest;
  each = h.each;
  taken = all_taken script now after h.lines (r.l ++ []) rest h.taken r.consumed;
  few = omega (arith, counts h.lines (r.l ++ []) rest, h.counted, r.counted, held);
  ended = (omega (arith, h.reads, r.ended), subst IsOneLine (sym (plain r.l rest used)) r.one_line, h.replied);
})
cut_short options w mid script now after sink sink' room room' refused line rest long Full status h r used held is = subst (Ran options w mid script after sink sink') (sym is) (record {
  lines = h.lines;
  rest = (r.l ++ []) ++ rest;
  each = h.each;
  taken = all_taken script now after h.lines (r.l ++ []) rest h.taken r.consumed;
  few = omega (arith, all);
  ended = (all, subst IsOneLine (sym (plain r.l rest used)) r.one_line, h.replied);
})
  where
    all : length (joined h.lines ++ ((r.l ++ []) ++ rest)) ≡ 2 ^ 32
    all = omega (arith, counts h.lines (r.l ++ []) rest, h.counted, r.counted, r.ended, ap length used)

-- a whole line was answered, and its write failed
pub write_fault : (options : Options) (w mid w' : Workspace) (script now after : SourceSeen) (sink part sink' : SinkSeen) (room room' : ℕ) (refused : Bool) (line rest : List ℕ) (long : Bool) (end : LineEnd) (e : WriteFailed)
    → IsServing options w mid script now sink part room refused → ReadsLine now (behind rest after) room room' line long end → IsUsed end rest → length rest ≤ room' → IsWhole end → Serves options mid w' line long refused part sink' (Err e)
    → Ran options w w' script after sink sink' WriteFault
write_fault options w mid w' script now after sink part sink' room room' refused line rest long end e h r used held whole s = record {
  lines = h.lines;
  rest = (r.l ++ ending end) ++ rest;
  each = h.each;
  taken = all_taken script now after h.lines (r.l ++ ending end) rest h.taken r.consumed;
  few = omega (arith, counts h.lines (r.l ++ ending end) rest, h.counted, r.counted, held);
  ended = (omega (arith, h.writes, s.err.risen), r.l, ending end ++ rest, append_assoc r.l (ending end) rest, r.one_line, follows end r used whole, failed);
}
  where
    -- what stands behind the line
    follows : (end : LineEnd) (r : ReadsLine now (behind rest after) room room' line long end) → IsUsed end rest → IsWhole end → EndsLine (ending end ++ rest) (joined h.lines ++ ((r.l ++ ending end) ++ rest)) after.left
    follows Newline r used whole = refl
    follows EndOfScript r used whole = subst (λ x. EndsLine x (joined h.lines ++ ((r.l ++ []) ++ rest)) after.left) (sym used) (
      subst IsAtEnd (ap (λ x. prepend_known x after.left) used ∙ prepend_nil after.left) r.ended.0,
      omega (arith, counts h.lines (r.l ++ []) rest, h.counted, r.counted, r.ended.1, ap length used),
    )
    follows Failed r used whole = absurd whole
    follows Full r used whole = absurd whole

    failed : HasFailed options w w' h.lines r.l sink sink'
    failed = record {
      answers = h.replied.answers;
      answer = s.err.reply;
      right = right_more options w mid w' h.lines h.replied.answers r.l (Some s.err.reply) h.replied.right (subst (λ a. IsAnswered options mid r.l a w') s.err.is (s.is r.l r.kept));
      go_on = h.replied.go_on;
      front = s.err.part.front;
      rest = s.err.part.rest;
      whole = subst (λ a. text_if a ≡ s.err.part.front ++ s.err.part.rest) s.err.is s.err.part.whole;
      written = s.err.part.written ∙ ap (λ x. append_known x s.err.part.front) h.replied.written ∙ append_more sink.written (texts h.replied.answers) s.err.part.front;
    }

or_true : (a b : Bool) → b ≡ false → (a || b) ≡ true → a ≡ true
or_true true b never is = refl
or_true false b never is = absurd (false≢true (sym never ∙ is))

-- a whole line was answered, by which the session ends
pub done : (options : Options) (w mid w' : Workspace) (script now after : SourceSeen) (sink part sink' : SinkSeen) (room room' : ℕ) (refused : Bool) (served : Served) (line rest : List ℕ) (long : Bool) (end : LineEnd)
    → IsServing options w mid script now sink part room refused → ReadsLine now (behind rest after) room room' line long end → IsUsed end rest → length rest ≤ room' → IsWhole end → Serves options mid w' line long refused part sink' (Ok served)
    → (served.stops || ends_script end) ≡ true → Ran options w w' script after sink sink' (Done served.refused)
done options w mid w' script now after sink part sink' room room' refused served line rest long end h r used held whole s last = by end r used held whole last
  where
    replied : (l : List ℕ) → IsKept l line long → HasDone options w w' h.lines l sink sink' served.refused
    replied l kept = record {
      answers = h.replied.answers;
      answer = s.answer;
      right = right_more options w mid w' h.lines h.replied.answers l s.answer h.replied.right (s.is l kept);
      go_on = h.replied.go_on;
      written = written_more sink part sink' h.replied.answers s.answer h.replied.written s.ok.written;
      refusal = s.ok.refusal ∙ ap (λ x. x || is_refusal s.answer) h.refusal ∙ sym (refusal_more h.replied.answers s.answer);
    }

    by : (end : LineEnd) (r : ReadsLine now (behind rest after) room room' line long end) → IsUsed end rest → length rest ≤ room' → IsWhole end → (served.stops || ends_script end) ≡ true
        → Ran options w w' script after sink sink' (Done served.refused)
    by Newline r used held whole last = record {
      lines = h.lines;
      rest = (r.l ++ 10 ∷ []) ++ rest;
      each = h.each;
      taken = all_taken script now after h.lines (r.l ++ 10 ∷ []) rest h.taken r.consumed;
      few = omega (arith, counts h.lines (r.l ++ 10 ∷ []) rest, h.counted, r.counted, held);
      ended = inr (r.l, rest, append_assoc r.l (10 ∷ []) rest, r.one_line, replied r.l r.kept, (s.ok.stops r.l r.kept).0 (or_true served.stops false refl last));
    }
    by EndOfScript r used held whole last = record {
      lines = h.lines;
      rest = r.l;
      each = h.each;
      taken = taken;
      few = omega (arith, short);
      ended = inl ((subst IsAtEnd (ap (λ x. prepend_known x after.left) used ∙ prepend_nil after.left) r.ended.0, short), r.one_line, replied r.l r.kept);
    }
      where
        taken : script.left ≡ prepend_known (joined h.lines ++ r.l) after.left
        taken = all_taken script now after h.lines (r.l ++ []) rest h.taken r.consumed ∙ ap (λ x. prepend_known (joined h.lines ++ x) after.left) (plain r.l rest used)

        short : length (joined h.lines ++ r.l) < 2 ^ 32
        short = omega (arith, length-append (joined h.lines) r.l, h.counted, r.counted, r.ended.1, ap length (append-nil r.l))
    by Failed r used held whole last = absurd whole
    by Full r used held whole last = absurd whole

-- a whole line was answered, and the session goes on
pub goes_on : (options : Options) (w mid w' : Workspace) (script now after : SourceSeen) (sink part sink' : SinkSeen) (room room' : ℕ) (refused : Bool) (served : Served) (line : List ℕ) (long : Bool) (end : LineEnd)
    → IsServing options w mid script now sink part room refused → ReadsLine now after room room' line long end → IsWhole end → Serves options mid w' line long refused part sink' (Ok served)
    → (served.stops || ends_script end) ≡ false → IsServing options w w' script after sink sink' room' served.refused
goes_on options w mid w' script now after sink part sink' room room' refused served line long Newline h r whole s more =
    serving_more options w mid w' script now after sink part sink' room room' refused served line long h r s (sym (or_false served.stops) ∙ more)
goes_on options w mid w' script now after sink part sink' room room' refused served line long EndOfScript h r whole s more = absurd (false≢true (sym more ∙ always served.stops))
  where
    always : (b : Bool) → (b || true) ≡ true
    always true = refl
    always false = refl
goes_on options w mid w' script now after sink part sink' room room' refused served line long Failed h r whole s more = absurd whole
goes_on options w mid w' script now after sink part sink' room room' refused served line long Full h r whole s more = absurd whole

-- and a byte of the script less is left
pub used_up : (now after : SourceSeen) (room room' : ℕ) (line : List ℕ) (long : Bool) (end : LineEnd) → ReadsLine now after room room' line long end → IsWhole end → ends_script end ≡ false → room' < room
used_up now after room room' line long Newline r whole more = omega (arith, r.counted, length-append r.l (10 ∷ []))
used_up now after room room' line long EndOfScript r whole more = absurd (false≢true (sym more))
used_up now after room room' line long Failed r whole more = absurd whole
used_up now after room room' line long Full r whole more = absurd whole
