-- A query that was checked, as contracts see it.
use Rattle.std.specs.Prelude.{◌≡◌, Bool, None, Ok}
use Rattle.query_terms.specs.declared.tree.QueryTree.{QueryTree}
use Rattle.query_terms.specs.Rule.{Text}
use Rattle.query_terms.specs.Parse.{parse}
use Rattle.query_terms.specs.Static.{first_fault}
use Rattle.query_terms.specs.Resolved.{resolved_query}
use Rattle.query_terms.specs.Updating.{is_updating_query}

pub record Verdict : Type 0 where
  pub query : QueryTree
  pub is_updating : Bool

-- it is what resolving makes of a query that some text is read as, and that has no fault
pub record IsChecked (v : Verdict) : Type 0 where
  pub text : Text
  pub written : QueryTree
  pub read : parse text ≡ Ok written
  pub faultless : first_fault written ≡ None
  pub resolved : v.query ≡ resolved_query written
  pub updating : v.is_updating ≡ is_updating_query v.query
