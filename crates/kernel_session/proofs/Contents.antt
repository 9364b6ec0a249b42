-- Rows and the forests that they stand for.
use Rattle.std.proofs.Common.{◌≡◌, ℕ, length, take, sym, ap, ◌∙◌, arith}
use Rattle.std.specs.List.{join_with_byte}
use Rattle.std.proofs.lemmas.List.{length-map}
use Rattle.std.proofs.Math.Seq.{take-length}
use Rattle.tree_model.specs.Forest.{Forest, count, flatten}
use Rattle.tree_model.specs.Labels.{Label}
use Rattle.tree_model.specs.Printed.{row_texts, rows_text, range_text}
use Rattle.tree_model.specs.Rows.{line_of}
use Rattle.tree_model.specs.Trees.{flat-length, length-lines}

-- all rows, as a range
pub range_all : (f : Forest Label) (len : ℕ) → len ≡ count f → range_text 0 len f ≡ rows_text f
range_all f len e =
    ap (λ ls. join_with_byte 10 (row_texts 0 ls)) (ap (λ n. take n (flatten f)) (omega arith ∙ e ∙ sym (length-lines 0 f)) ∙ take-length (flatten f))
