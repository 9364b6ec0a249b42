use Rattle.std.proofs.Common.{◌<◌, ◌∙◌, ℕ}
use Rattle.std.specs.Prelude.{eqb}
use Rattle.std.proofs.lemmas.List.Filters.{All-dedup, dedup_is}
use Rattle.std.proofs.lemmas.List.Sorted.{All-permutation}
use Rattle.axis_steps.proofs.DocumentOrder.{in_order_already, in_order_sorted}
use Rattle.axis_steps.proofs.order.in_document_order.Goals as goal

pub returns-then-not-rises : goal.returns-then-not-rises
returns-then-not-rises c =
    dedup_is eqb _ _ c.dedup.ensures.filtered
    ∙ in_order_sorted c.args.len _ _ c.sort_unstable.ensures.permutation c.sort_unstable.ensures.sorted
    (All-dedup eqb (λ (p : ℕ). p < c.args.len) _ (All-permutation (λ (p : ℕ). p < c.args.len) _ _ c.sort_unstable.ensures.permutation c.requires))

pub returns-else-not-rises : goal.returns-else-not-rises
returns-else-not-rises c = in_order_already c.args.len _ (rw c.deref.ensures.value at (c.rises.ensures c.if-not-rises.false)) c.requires
