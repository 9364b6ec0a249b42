-- A text is cut before and behind an ASCII character at the boundary of a character.
use Rattle.std.proofs.Common.{◌≡◌, inl, inr, ℕ, zero, suc, ◌+◌, ◌-◌, ◌<◌, ◌==◌, Bool, true, false, not, List, length, get_or, refl, sym, ap, ◌∙◌, subst, arith, reverse}
use Rattle.std.specs.Prelude.{◌⊎◌}
use Rattle.std.specs.List.{prefix_len, suffix_len}
use Rattle.std.specs.Str.{IsUtf8, IsCharBoundary}
use Rattle.std.proofs.Math.Nat.{eq-or-lt_of_le}
use Rattle.std.proofs.lemmas.Bool.Decides.{nat_tests}
use Rattle.std.proofs.lemmas.List.{get_or-reverse, length-reverse}
use Rattle.std.proofs.lemmas.List.Sums.{prefix_len-le-length, suffix_len-le-length, prefix_len_passes, prefix_len_stops}
use Rattle.std.proofs.lemmas.Str.{IsCharBoundary-start, IsCharBoundary-end, IsCharBoundary-before_ascii, IsCharBoundary-after_ascii}
use Rattle.commands.specs.Commands.{is_blank, is_no_blank}

blank_ascii : (c : ℕ) → is_blank c ≡ true → c < 128
blank_ascii c h = grind (arith, nat_tests)

no_blank_not : (c : ℕ) → is_no_blank c ≡ false → c < 128
no_blank_not c h = grind (arith, nat_tests)

abbrev is_no_slash : ℕ → Bool
is_no_slash c = not (c == 47)

slash_ascii : (c : ℕ) → is_no_slash c ≡ false → c < 128
slash_ascii c h = grind (arith, nat_tests)

-- behind a front of blanks
pub behind_front : (line : List ℕ) (n : ℕ) → IsUtf8 line → n ≡ prefix_len is_blank line → IsCharBoundary line n
behind_front line zero u e = IsCharBoundary-start line u
behind_front line (suc k) u e =
    let lt : k < length line = omega (arith, e, prefix_len-le-length is_blank line) in
    let blank : get_or line k 0 < 128 = blank_ascii (get_or line k 0) (prefix_len_passes is_blank line k 0 (omega (arith, e))) in
    let same : k + 1 ≡ suc k = omega arith in
    subst (IsCharBoundary line) same (IsCharBoundary-after_ascii line k u lt blank)

-- before blanks at the end
end_by : (line : List ℕ) (n m : ℕ) → n ≡ suffix_len is_blank line → m ≡ length line - n → IsCharBoundary line m
end_by line zero m e is =
    let all : length line ≡ m = omega (arith, is) in
    subst (IsCharBoundary line) all (IsCharBoundary-end line)
end_by line (suc k) m e is =
    let lt : k < length line = omega (arith, e, suffix_len-le-length is_blank line) in
    let last : get_or (reverse line) k 0 ≡ get_or line (length line - 1 - k) 0 = get_or-reverse line k 0 lt in
    let at : length line - 1 - k ≡ m = omega (arith, is) in
    let blank : get_or (reverse line) k 0 < 128 = blank_ascii (get_or (reverse line) k 0) (prefix_len_passes is_blank (reverse line) k 0 (omega (arith, e))) in
    IsCharBoundary-before_ascii line m (omega (arith, is)) (subst (λ c. c < 128) (last ∙ ap (λ n. get_or line n 0) at) blank)

pub before_end : (line : List ℕ) (m : ℕ) → m ≡ length line - suffix_len is_blank line → IsCharBoundary line m
before_end line m is = end_by line (suffix_len is_blank line) m refl is

-- behind the first word
word_by : (line : List ℕ) (n : ℕ) → n ≡ prefix_len is_no_blank line → (n ≡ length line) ⊎ (n < length line) → IsCharBoundary line n
word_by line n e (inl whole) = subst (IsCharBoundary line) (sym whole) (IsCharBoundary-end line)
word_by line n e (inr lt) =
    let stops : is_no_blank (get_or line n 0) ≡ false = ap (λ m. is_no_blank (get_or line m 0)) e ∙ prefix_len_stops is_no_blank line 0 (omega (arith, e)) in
    IsCharBoundary-before_ascii line n lt (no_blank_not (get_or line n 0) stops)

pub behind_word : (line : List ℕ) (n : ℕ) → n ≡ prefix_len is_no_blank line → IsCharBoundary line n
behind_word line n e = word_by line n e (eq-or-lt_of_le (omega (arith, e, prefix_len-le-length is_no_blank line)))

-- behind the last slash
slash_by : (name : List ℕ) (m : ℕ) → IsUtf8 name → m ≡ length name - suffix_len is_no_slash name → (m ≡ 0) ⊎ (0 < m) → IsCharBoundary name m
slash_by name m u e (inl first) = subst (IsCharBoundary name) (sym first) (IsCharBoundary-start name u)
slash_by name m u e (inr some) =
    let n : ℕ = suffix_len is_no_slash name in
    let len = length-reverse name in
    let lt : n < length name = omega (arith, e) in
    let stops : is_no_slash (get_or (reverse name) n 0) ≡ false = prefix_len_stops is_no_slash (reverse name) 0 (omega (arith, len)) in
    let last : get_or (reverse name) n 0 ≡ get_or name (length name - 1 - n) 0 = get_or-reverse name n 0 lt in
    let at : length name - 1 - n ≡ m - 1 = omega (arith, e) in
    let low : get_or name (m - 1) 0 < 128 = subst (λ c. c < 128) (last ∙ ap (λ n. get_or name n 0) at) (slash_ascii (get_or (reverse name) n 0) stops) in
    let same : m - 1 + 1 ≡ m = omega arith in
    subst (IsCharBoundary name) same (IsCharBoundary-after_ascii name (m - 1) u (omega (arith, e)) low)

pub behind_slash : (name : List ℕ) (m : ℕ) → IsUtf8 name → m ≡ length name - suffix_len (λ c. not (c == 47)) name → IsCharBoundary name m
behind_slash name m u e = slash_by name m u e (by m)
  where
    by : (m : ℕ) → (m ≡ 0) ⊎ (0 < m)
    by zero = inl refl
    by (suc k) = inr (omega arith)
