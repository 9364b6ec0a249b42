-- A front that passes in blocks, and what is behind it.
use Rattle.std.proofs.Common.{◌≡◌, ℕ, zero, suc, ◌+◌, ◌-◌, ◌≤◌, Bool, true, ◌&&◌, cond, List, [], ◌∷◌, length, take, drop, sym, ap, ◌∙◌, arith}
use Rattle.std.specs.Prelude.{slice_range}
use Rattle.std.specs.List.{list_all, prefix_len}
use Rattle.std.proofs.Math.Seq.{take-add}
use Rattle.std.proofs.lemmas.List.Folds.{list_all-append}
use Rattle.tree_model.specs.XmlGood.{in_data, in_value}
use Rattle.xml_pieces.proofs.Spans.{both_true}

block_more_by : (p : ℕ → Bool) (bytes : List ℕ) (len n : ℕ) → list_all p (take len bytes) ≡ true → list_all p (take n (drop len bytes)) ≡ true → list_all p (take (len + n) bytes) ≡ true
block_more_by p bytes len n all more =
    ap (list_all p) (take-add len n bytes) ∙ list_all-append p (take len bytes) (take n (drop len bytes)) ∙ ap (λ b. b && list_all p (take n (drop len bytes))) all ∙ more

pub block_more : (p : ℕ → Bool) (bytes : List ℕ) (len n : ℕ) → list_all p (take len bytes) ≡ true → list_all p (slice_range bytes len (len + n)) ≡ true → list_all p (take (len + n) bytes) ≡ true
block_more p bytes len n all more =
    let size : (len + n) - len ≡ n = omega arith in
    block_more_by p bytes len n all (ap (λ k. list_all p (take k (drop len bytes))) (sym size) ∙ more)

behind_by : (p : ℕ → Bool) (bytes : List ℕ) (len : ℕ) → len ≤ length bytes → list_all p (take len bytes) ≡ true → len + prefix_len p (drop len bytes) ≡ prefix_len p bytes
behind_by p bytes zero le all = omega arith
behind_by p [] (suc len) le all = absurd (omega arith)
behind_by p (c ∷ bytes) (suc len) le all =
    let parts = both_true (p c) (list_all p (take len bytes)) all in
    let on = behind_by p bytes len (omega arith) parts.1 in
    let here : 1 + prefix_len p bytes ≡ cond (p c) (1 + prefix_len p bytes) 0 = ap (λ b. cond b (1 + prefix_len p bytes) 0) (sym parts.0) in
    omega (arith, on, here)

pub behind_data : (bytes : List ℕ) (len : ℕ) → len ≤ length bytes → list_all in_data (take len bytes) ≡ true → len + prefix_len in_data (drop len bytes) ≡ prefix_len in_data bytes
behind_data bytes len le all = behind_by in_data bytes len le all

pub behind_value : (delim : ℕ) (bytes : List ℕ) (len : ℕ) → len ≤ length bytes → list_all (in_value delim) (take len bytes) ≡ true
    → len + prefix_len (in_value delim) (drop len bytes) ≡ prefix_len (in_value delim) bytes
behind_value delim bytes len le all = behind_by (in_value delim) bytes len le all
