-- What is made of a query that has no fault.
use Rattle.std.proofs.Common.{◌≡◌, ◌∙◌, ap, sym, Bool, Option, None, Ok}
use Rattle.query_terms.specs.declared.tree.Expr.{Expr}
use Rattle.query_terms.specs.declared.tree.QueryTree.{QueryTree}
use Rattle.query_terms.specs.Parse.{IsRead}
use Rattle.query_terms.specs.Static.{Fault, first_fault}
use Rattle.query_terms.specs.Resolved.{resolved_query}
use Rattle.query_terms.specs.Updating.{is_updating}
use Rattle.static_rules.specs.Checks.{Checks}
use Rattle.static_rules.specs.Verdict.{IsChecked}
use Rattle.static_rules.proofs.ResolvedUpdating.{query_keeps}

module _ (q tree taken made : QueryTree) (body : Expr) (updates : Bool) (found : Option Fault) (same : tree ≡ q) (finds : found ≡ first_fault tree) (none : found ≡ None) (takes : taken ≡ q) (makes : made ≡ resolved_query taken) (tells : updates ≡ is_updating body) (whole : body ≡ made.body) where
  faultless : first_fault q ≡ None
  faultless = ap first_fault (sym same) ∙ sym finds ∙ none

  resolves : made ≡ resolved_query q
  resolves = makes ∙ ap resolved_query takes

  pub is_checked : IsRead q → IsChecked (record { query = made; is_updating = updates })
  is_checked read = record { text = read.0; written = q; read = read.1; faultless = faultless; resolved = resolves; updating = tells ∙ ap is_updating whole }

  pub checks : Checks q (Ok (record { query = made; is_updating = updates }))
  checks = (faultless, resolves, tells ∙ ap is_updating whole ∙ ap (λ (t : QueryTree). is_updating t.body) resolves ∙ query_keeps q)
