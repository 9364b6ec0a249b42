-- A line ends among the bytes that were taken.
use Rattle.std.proofs.Common.{◌≡◌, ◌≢◌, ℕ, suc, add_assoc, take, drop, take-append-drop, drop-cons, add-one, length-take, length-drop, ◌+◌, ◌-◌, ◌<◌, ◌≤◌, Bool, List, [], ◌∷◌, ◌++◌, length, Option, Some, None, refl, sym, ap, ◌∙◌, subst, arith, append_assoc, length-append}
use Rattle.std.specs.Prelude.{slice_range, slice_index}
use Rattle.std.proofs.lemmas.List.{drop-take, drop-drop, take-take}
use Rattle.std.specs.Io.KnownBytes.{prepend_known}
use Rattle.std.proofs.lemmas.List.Elements.{All-append}
use Rattle.outer_io.specs.Outer.{SourceSeen}
use Rattle.kernel_session.specs.Lines.{IsOneLine, IsKept, HasRead, ReadsLine, behind}
use Rattle.kernel_session.specs.declared.lines.LineEnd.TheVariants.{Newline}

pub prepend_nil : (left : Option (List ℕ)) → prepend_known [] left ≡ left
prepend_nil None = refl
prepend_nil (Some xs) = refl

pub prepend_append : (p q : List ℕ) (left : Option (List ℕ)) → prepend_known (p ++ q) left ≡ prepend_known p (prepend_known q left)
prepend_append p q None = refl
prepend_append p q (Some xs) = ap Some (append_assoc p q xs)

-- a newline: what stands after it is left
pub ends_line : (before now : SourceSeen) (stock room : ℕ) (l line line' p q r : List ℕ) (long long' : Bool)
    → HasRead before (behind p now) stock (room + length p) l line long → p ≡ q ++ 10 ∷ r → IsOneLine q → IsKept (l ++ q) line' long'
    → ReadsLine before (behind r now) stock (room + length r) line' long' Newline
ends_line before now stock room l line line' p q r long long' h split clean kept = record {
  l = l ++ q;
  one_line = All-append (λ c. c ≢ 10) l q h.one_line clean;
  kept = kept;
  consumed = h.consumed ∙ sym (prepend_append l p now.left) ∙ ap (λ x. prepend_known x now.left) whole ∙ prepend_append ((l ++ q) ++ 10 ∷ []) r now.left;
  later = h.later;
  counted = omega (arith, h.counted, ap length whole, length-append l p, length-append ((l ++ q) ++ 10 ∷ []) r);
  ended = tt;
}
  where
    whole : l ++ p ≡ ((l ++ q) ++ 10 ∷ []) ++ r
    whole = ap (λ x. l ++ x) split ∙ sym (append_assoc l q (10 ∷ r)) ∙ sym (append_assoc (l ++ q) (10 ∷ []) r)

-- the parts of a range round a newline
at_newline : (b : List ℕ) (s at e : ℕ) → at < length (slice_range b s e) → slice_index (slice_range b s e) at ≡ 10
    → slice_range b s e ≡ slice_range b s (s + at) ++ 10 ∷ slice_range b (s + at + 1) e
at_newline b s at e lt is =
    let d = drop s b in
    let n = e - s in
    let few : at < n = omega (arith, lt, length-take n d) in
    let m = e - (s + at + 1) in
    let counts : n ≡ (at + 1) + m = omega arith in
    let front : take at (take n d) ≡ take ((s + at) - s) d = take-take at n d (omega arith) ∙ ap (λ k. take k d) (omega arith) in
    let back : drop (at + 1) (take n d) ≡ take m (drop (s + at + 1) b) =
    ap (λ k. drop (at + 1) (take k d)) counts ∙ drop-take (at + 1) m d ∙ ap (take m) (drop-drop (at + 1) s b ∙ ap (λ k. drop k b) (sym (add_assoc s at 1))) in
    sym (take-append-drop at (take n d)) ∙ ap (λ l. l ++ drop at (take n d)) front ∙ ap (λ l. take ((s + at) - s) d ++ l) (drop_at_head at (take n d) lt is ∙ ap (λ l. 10 ∷ l) back)
  where
    drop_at_head : (k : ℕ) (l : List ℕ) → k < length l → slice_index l k ≡ 10 → drop k l ≡ 10 ∷ drop (k + 1) l
    drop_at_head k l lt is = rw (add-one) (drop-cons l k 0 lt ∙ ap (λ x. x ∷ drop (suc k) l) is)

range_length : (b : List ℕ) (s e : ℕ) → e ≤ length b → length (slice_range b s e) ≡ e - s
range_length b s e le = omega (arith, length-take (e - s) (drop s b), length-drop s b)

one_line_front : (b : List ℕ) (s at e : ℕ) → at < length (slice_range b s e) → IsOneLine (take at (slice_range b s e)) → IsOneLine (slice_range b s (s + at))
one_line_front b s at e lt h =
    let few : at < e - s = omega (arith, lt, length-take (e - s) (drop s b)) in
    subst IsOneLine (take-take at (e - s) (drop s b) (omega arith) ∙ ap (λ k. take k (drop s b)) (omega arith)) h

-- a newline, in the terms of the code
pub ends_line_at : (before now : SourceSeen) (stock room : ℕ) (l line line' b : List ℕ) (s at e : ℕ) (long long' : Bool) → e ≤ length b → s ≤ e
    → HasRead before (behind (slice_range b s e) now) stock (room + (e - s)) l line long
    → at < length (slice_range b s e) → slice_index (slice_range b s e) at ≡ 10 → IsOneLine (take at (slice_range b s e)) → IsKept (l ++ slice_range b s (s + at)) line' long'
    → ReadsLine before (behind (slice_range b (s + at + 1) e) now) stock (room + (e - (s + at + 1))) line' long' Newline
ends_line_at before now stock room l line line' b s at e long long' le se h lt is clean kept =
    let sizes : room + length (slice_range b s e) ≡ room + (e - s) = ap (λ k. room + k) (range_length b s e le) in
    let sizes' : room + length (slice_range b (s + at + 1) e) ≡ room + (e - (s + at + 1)) = ap (λ k. room + k) (range_length b (s + at + 1) e le) in
    let h' = subst (λ (k : ℕ). HasRead before (behind (slice_range b s e) now) stock k l line long) (sym sizes) h in
    let done = ends_line before now stock room l line line' (slice_range b s e) (slice_range b s (s + at)) (slice_range b (s + at + 1) e) long long' h' (at_newline b s at e lt is) (one_line_front b s at e lt clean) kept in
    subst (λ (k : ℕ). ReadsLine before (behind (slice_range b (s + at + 1) e) now) stock k line' long' Newline) sizes' done
