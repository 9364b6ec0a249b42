-- A session that meets no fault serves a short script to its end.
use Rattle.std.proofs.Common.{◌≡◌, ◌≢◌, inl, inr, ℕ, ◌+◌, ◌<◌, ◌≤◌, Bool, true, false, List, [], ◌∷◌, ◌++◌, length, Option, Some, None, refl, sym, ap, ◌∙◌, subst, arith, append_assoc, length-append}
use Rattle.std.specs.Prelude.{◌⊎◌}
use Rattle.std.specs.Io.KnownBytes.{prepend_known}
use Rattle.std.proofs.lemmas.List.Elements.{All-head, All-tail}
use Rattle.outer_io.specs.Outer.{Rose, SourceSeen, SinkSeen}
use Rattle.commands.specs.declared.options.Options.{Options}
use Rattle.kernel_session.specs.Lines.{IsOneLine}
use Rattle.kernel_session.specs.LineAnswers.{AllGoOn, IsExit, Right}
use Rattle.kernel_session.specs.Replies.{Answer}
use Rattle.kernel_session.specs.Sessions.{AreLines, joined, Ran, IsShort, number_of}
use Rattle.kernel_session.specs.Workspaces.{Workspace}
use Rattle.kernel_session.specs.declared.session.Status.{Status}
use Rattle.kernel_session.specs.declared.session.Status.TheVariants.{Done, BadWords, ReadFault, WriteFault, NoMemory, TooManyBytes}
use Rattle.kernel_session.proofs.Cuts.{apart, whole}

-- a front without a newline ends before the first newline
front_short : (rest tail l more : List ℕ) → IsOneLine rest → rest ++ tail ≡ l ++ 10 ∷ more → length rest ≤ length l
front_short [] tail l more one is = omega arith
front_short (d ∷ rest) tail [] more one is = let same : d ≡ 10 = cc in absurd (All-head (λ c. c ≢ 10) d rest one same)
front_short (d ∷ rest) tail (c ∷ l) more one is =
    let next : rest ++ tail ≡ l ++ 10 ∷ more = cc in
    omega (arith, front_short rest tail l more (All-tail (λ c. c ≢ 10) d rest one) next)

whole_length : (k : List ℕ) (ks : List (List ℕ)) (rest : List ℕ) → length (joined (k ∷ ks) ++ rest) ≡ length k + 1 + length (joined ks ++ rest)
whole_length k ks rest = ap length (whole k (joined ks) rest) ∙ length-append k (10 ∷ (joined ks ++ rest)) ∙ omega arith

whole_then : (k : List ℕ) (ks : List (List ℕ)) (rest tail : List ℕ) → (joined (k ∷ ks) ++ rest) ++ tail ≡ k ++ 10 ∷ ((joined ks ++ rest) ++ tail)
whole_then k ks rest tail = ap (λ x. x ++ tail) (whole k (joined ks) rest) ∙ append_assoc k (10 ∷ (joined ks ++ rest)) tail

-- none of the lines is EXIT
abbrev NoExit : List (List ℕ) → Type 0
NoExit [] = Unit {0}
NoExit (l ∷ ls) = (¬ IsExit l) × NoExit ls

no_exit : (options : Options) (w w' : Workspace) (ls : List (List ℕ)) (answers : List (Option Answer)) → Right options w ls answers w' → AllGoOn options ls answers → NoExit ls
no_exit options w w' [] answers right goes = tt
no_exit options w w' (l ∷ ls) [] right goes = absurd right
no_exit options w w' (l ∷ ls) (answer ∷ answers) right goes = (λ exits. goes.0 (inl exits), no_exit options right.0 w' ls answers right.2 goes.1)

-- where no line so far ends the session, fewer bytes were taken than up to one that does
reached : (ks : List (List ℕ)) (rest tail : List ℕ) (ls : List (List ℕ)) (l more : List ℕ) → AreLines ks → NoExit ks → IsOneLine rest → AreLines ls → IsOneLine l → IsExit l
    → (joined ks ++ rest) ++ tail ≡ joined ls ++ (l ++ 10 ∷ more) → length (joined ks ++ rest) < length (joined ls ++ (l ++ 10 ∷ []))
reached [] rest tail [] l more each goes one lines last ends is = omega (arith, front_short rest tail l more one is, length-append l (10 ∷ []))
reached [] rest tail (m ∷ ls) l more each goes one lines last ends is =
    omega (arith, front_short rest tail m (joined ls ++ (l ++ 10 ∷ more)) one (is ∙ whole m (joined ls) (l ++ 10 ∷ more)), whole_length m ls (l ++ 10 ∷ []))
reached (k ∷ ks) rest tail [] l more each goes one lines last ends is =
    absurd (goes.0 (subst IsExit (sym (apart k l ((joined ks ++ rest) ++ tail) more each.0 last (sym (whole_then k ks rest tail) ∙ is)).0) ends))
reached (k ∷ ks) rest tail (m ∷ ls) l more each goes one lines last ends is =
    let both = apart k m ((joined ks ++ rest) ++ tail) (joined ls ++ (l ++ 10 ∷ more)) each.0 lines.0 (sym (whole_then k ks rest tail) ∙ is ∙ whole m (joined ls) (l ++ 10 ∷ more)) in
    let more_of = reached ks rest tail ls l more each.1 goes.1 one lines.1 last ends both.1 in
    omega (arith, more_of, ap length both.0, whole_length k ks rest, whole_length m ls (l ++ 10 ∷ []))

known : (left left' : Option (List ℕ)) (bytes front : List ℕ) → left ≡ Some bytes → left ≡ prepend_known front left' → (tail : List ℕ) × (bytes ≡ front ++ tail)
known left None bytes front e taken = cc
known left (Some tail) bytes front e taken = (tail, cc)

not_too_many : (options : Options) (w w' : Workspace) (script script' : SourceSeen) (sink sink' : SinkSeen) (bytes : List ℕ) → Ran options w w' script script' sink sink' TooManyBytes → script.left ≡ Some bytes → IsShort bytes → ⊥
not_too_many options w w' script script' sink sink' bytes r e short = by short
  where
    front : List ℕ
    front = joined r.lines ++ r.rest

    rest_of : (tail : List ℕ) × (bytes ≡ front ++ tail)
    rest_of = known script.left script'.left bytes front e r.taken

    by : IsShort bytes → ⊥
    by (inl few) = omega (arith, few, r.ended.0, ap length rest_of.1, length-append front rest_of.0)
    by (inr x) =
        let replied = r.ended.2 in
        let goes = no_exit options w w' r.lines replied.answers replied.right replied.go_on in
        let less = reached r.lines r.rest rest_of.0 x.lines x.last x.more r.each goes r.ended.1 x.each x.one_line x.ends (sym rest_of.1 ∙ x.whole) in
        omega (arith, less, r.ended.0, x.soon)

number_done : (any : Bool) → (number_of (Done any) ≡ 0) ⊎ (number_of (Done any) ≡ 1) ⊎ (number_of (Done any) ≡ 5)
number_done true = inr (inl refl)
number_done false = inl refl

pub served_whole : (options : Options) (w w' : Workspace) (script script' : SourceSeen) (sink sink' : SinkSeen) (bytes : List ℕ) (status : Status)
    → Ran options w w' script script' sink sink' status → status ≢ BadWords → script.left ≡ Some bytes → IsShort bytes → (Rose script.faults script'.faults → ⊥) → (Rose sink.faults sink'.faults → ⊥)
    → (number_of status ≡ 0) ⊎ (number_of status ≡ 1) ⊎ (number_of status ≡ 5)
served_whole options w w' script script' sink sink' bytes (Done any) r known_words e short no_read no_write = number_done any
served_whole options w w' script script' sink sink' bytes BadWords r known_words e short no_read no_write = absurd (known_words refl)
served_whole options w w' script script' sink sink' bytes ReadFault r known_words e short no_read no_write = absurd (no_read r.ended.0)
served_whole options w w' script script' sink sink' bytes WriteFault r known_words e short no_read no_write = absurd (no_write r.ended.0)
served_whole options w w' script script' sink sink' bytes NoMemory r known_words e short no_read no_write = inr (inr refl)
served_whole options w w' script script' sink sink' bytes TooManyBytes r known_words e short no_read no_write = absurd (not_too_many options w w' script script' sink sink' bytes r e short)
