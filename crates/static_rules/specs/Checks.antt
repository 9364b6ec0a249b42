-- What is answered for a query.
use Rattle.std.specs.Prelude.{◌≡◌, None, Result, Ok, Err}
use Rattle.tree_model.specs.declared.code.Refusal.{Refusal}
use Rattle.tree_model.specs.declared.code.Refusal.TheVariants.{Code, NoMemory}
use Rattle.query_terms.specs.declared.tree.QueryTree.{QueryTree}
use Rattle.query_terms.specs.Static.{first_fault}
use Rattle.query_terms.specs.Resolved.{resolved_query}
use Rattle.query_terms.specs.Updating.{is_updating_query}
use Rattle.static_rules.specs.Codes.{HasCode}
use Rattle.static_rules.specs.Verdict.{Verdict}

-- the query with its names resolved, exactly where it has no fault, and else the code of its first fault. Want of memory says nothing
abbrev pub Checks : QueryTree → Result Verdict Refusal → Type 0
Checks q (Ok c) = (first_fault q ≡ None) × (c.query ≡ resolved_query q) × (c.is_updating ≡ is_updating_query q)
Checks q (Err (Code code)) = HasCode (first_fault q) code
Checks q (Err NoMemory) = Unit {0}
