-- A line has blanks alone where nothing is left of it without the blanks at its ends.
use Rattle.std.proofs.Common.{◌≡◌, inl, inr, ℕ, ◌+◌, ◌-◌, ◌<◌, true, false, List, [], length, drop, get_or, sym, ap, ◌∙◌, arith, reverse}
use Rattle.std.specs.Prelude.{◌⊎◌}
use Rattle.std.specs.List.{prefix_len, suffix_len}
use Rattle.std.proofs.Math.Nat.{eq-or-lt_of_le}
use Rattle.std.proofs.lemmas.List.{get_or-reverse, get_or-drop, length-drop, length-take-le, drop_all}
use Rattle.std.proofs.lemmas.List.Sums.{prefix_len-le-length, prefix_len_passes, prefix_len_stops}
use Rattle.commands.specs.Commands.{is_blank, before_blanks, trimmed}

-- what has a first byte that is no blank has more than blanks
some_left : (line : List ℕ) → prefix_len is_blank line < length line → trimmed line ≡ [] → ⊥
some_left line lt none =
    let n : ℕ = prefix_len is_blank line in
    let rest : List ℕ = drop n line in
    let len : length rest ≡ length line - n = length-drop n line in
    let m : ℕ = length rest - suffix_len is_blank rest in
    let zero : m ≡ 0 = sym (length-take-le m rest (omega arith)) ∙ ap length none in
    let last : ℕ = length rest - 1 in
    let blank : is_blank (get_or (reverse rest) last 0) ≡ true = prefix_len_passes is_blank (reverse rest) last 0 (omega (arith, zero, len)) in
    let turned : get_or (reverse rest) last 0 ≡ get_or rest (length rest - 1 - last) 0 = get_or-reverse rest last 0 (omega (arith, len)) in
    let first : length rest - 1 - last ≡ 0 = omega arith in
    let there : get_or rest 0 0 ≡ get_or line (n + 0) 0 = get_or-drop n line 0 0 in
    let same : n + 0 ≡ n = omega arith in
    let stops : is_blank (get_or line n 0) ≡ false = prefix_len_stops is_blank line 0 lt in
    let at : get_or (reverse rest) last 0 ≡ get_or line n 0 = turned ∙ ap (λ i. get_or rest i 0) first ∙ there ∙ ap (λ i. get_or line i 0) same in
    let both : true ≡ false = sym blank ∙ ap is_blank at ∙ stops in
    cc

pub all_blank : (line : List ℕ) → prefix_len is_blank line ≡ length line → trimmed line ≡ []
all_blank line e = ap before_blanks (drop_all (prefix_len is_blank line) line (omega (arith, e)))

pub none_left : (line : List ℕ) → trimmed line ≡ [] → prefix_len is_blank line ≡ length line
none_left line none = by (eq-or-lt_of_le (prefix_len-le-length is_blank line))
  where
    by : (prefix_len is_blank line ≡ length line) ⊎ (prefix_len is_blank line < length line) → prefix_len is_blank line ≡ length line
    by (inl all) = all
    by (inr lt) = absurd (some_left line lt none)
