-- The elements of a list from a place up to another.
use Rattle.std.proofs.Common.{◌≡◌, ℕ, suc, ◌+◌, ◌-◌, ◌<◌, ◌≤◌, List, [], ◌∷◌, ◌++◌, length, get_or, take, drop, drop-cons, add-one, length-drop, ap, sym, ◌∙◌, arith}
use Rattle.std.specs.Prelude.{slice_range}
use Rattle.std.proofs.Math.Seq.{take-suc}
use Rattle.std.proofs.lemmas.List.{get_or-drop}

-- the first
pub range_first : {A : Type 0} (rows : List A) (pre end : ℕ) (d : A) → pre < end → end ≤ length rows → slice_range rows pre end ≡ get_or rows pre d ∷ slice_range rows (pre + 1) end
range_first rows pre end d lt le =
    let many : end - pre ≡ suc (end - (pre + 1)) = omega arith in
    ap (λ n. take n (drop pre rows)) many ∙ ap (take (suc (end - (pre + 1)))) (drop-cons rows pre d (omega arith)) ∙ ap (λ n. get_or rows pre d ∷ take (end - (pre + 1)) (drop n rows)) (sym (add-one pre))

-- there is none
pub no_range : {A : Type 0} (rows : List A) (pre end : ℕ) → end ≤ pre → slice_range rows pre end ≡ []
no_range rows pre end le = let none : end - pre ≡ 0 = omega arith in ap (λ n. take n (drop pre rows)) none

-- one more
pub range_last : {A : Type 0} (rows : List A) (from pre : ℕ) (d : A) → from ≤ pre → pre < length rows → slice_range rows from (pre + 1) ≡ slice_range rows from pre ++ get_or rows pre d ∷ []
range_last rows from pre d le lt =
    let k : ℕ = pre - from in
    let more : pre + 1 - from ≡ suc k = omega arith in
    let at : from + k ≡ pre = omega arith in
    ap (λ n. take n (drop from rows)) more ∙ take-suc (drop from rows) k d (omega (arith, length-drop from rows))
    ∙ ap (λ x. take k (drop from rows) ++ x ∷ []) (get_or-drop from rows k d ∙ ap (λ n. get_or rows n d) at)
