-- Places that a directory says, by its sizes.
use Rattle.std.proofs.Common.{◌≡◌, ℕ, ◌+◌, ◌<◌, ◌≤◌, List, length, get_or, take, ap, ap₂, ◌∙◌, arith}
use Rattle.paged_seq.specs.Sizes.{amount}
use Rattle.paged_seq.specs.Directories.{place_of, IsDirectory}
use Rattle.paged_seq.proofs.Amounts.{length_starts, place_is, start_at, amount_some, amount_more, amount_split}

pub many_places : (firsts : List ℕ) (len : ℕ) (w : IsDirectory firsts len) → length firsts ≡ length w.sizes
many_places firsts len w = ap (λ (l : List ℕ). length l) w.firsts_are ∙ length_starts 0 w.sizes

pub place_amount : (firsts : List ℕ) (len k : ℕ) (w : IsDirectory firsts len) → place_of firsts len k ≡ amount (take k w.sizes)
place_amount firsts len k w = ap₂ (λ l n. get_or l k n) w.firsts_are w.len_is ∙ place_is w.sizes k

pub some_places : (firsts : List ℕ) (len at : ℕ) → IsDirectory firsts len → at ≤ len → (at ≡ len → ⊥) → 0 < length firsts
some_places firsts len at w le ne =
    let lt : at < len = omega arith in
    omega (arith, many_places firsts len w, amount_some w.sizes (omega (arith, w.len_is, lt)))

pub zero_place : (firsts : List ℕ) (at : ℕ) (len : ℕ) → IsDirectory firsts len → 0 < length firsts → place_of firsts 0 0 ≤ at
zero_place firsts at len w some =
    let e : place_of firsts 0 0 ≡ 0 = ap (λ l. get_or l 0 0) w.firsts_are ∙ start_at 0 w.sizes 0 0 (omega (arith, many_places firsts len w)) in
    omega (arith, e)

pub size_at_place : (firsts : List ℕ) (len k : ℕ) (w : IsDirectory firsts len) → k < length firsts → place_of firsts len (k + 1) ≡ place_of firsts len k + get_or w.sizes k 256
size_at_place firsts len k w lt =
    omega (arith, place_amount firsts len k w, place_amount firsts len (k + 1) w, amount_more w.sizes k 256 (omega (arith, many_places firsts len w)))

pub place_le : (firsts : List ℕ) (len k : ℕ) → IsDirectory firsts len → place_of firsts len k ≤ len
place_le firsts len k w = omega (arith, place_amount firsts len k w, amount_split w.sizes k, w.len_is)
