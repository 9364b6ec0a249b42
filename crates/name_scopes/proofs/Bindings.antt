-- Bindings that were added and given up again.
use Rattle.std.proofs.Common.{◌≡◌, List, ◌++◌, ℕ, length, take, ap, ◌∙◌}
use Rattle.std.proofs.Math.Seq.{take-append_seam}
use Rattle.query_terms.specs.declared.parts.Binding.{Binding}
use Rattle.query_terms.specs.Static.{Environment, with_bindings}
use Rattle.name_scopes.specs.Kept.{with_only}

-- bindings that were added are given up by their number
pub bindings_kept : (bs : List Binding) (env inner kept : Environment) (n : ℕ) → n ≡ length env.bindings → inner ≡ with_bindings bs env →
    kept ≡ with_only (take n inner.bindings) inner → kept ≡ env
bindings_kept bs env inner kept n n_is inner_is kept_is =
    kept_is ∙ ap (λ (x : Environment). with_only (take n x.bindings) x) inner_is
    ∙ ap (λ k. with_only (take k (env.bindings ++ bs)) env) n_is
    ∙ ap (λ ds. with_only ds env) (take-append_seam env.bindings bs)
