-- What the functions that read a whole query ensure.
use Rattle.std.specs.Prelude.{◌≡◌, ◌≢◌, Result, Ok, Err}
use Rattle.query_terms.specs.declared.stop.Stop.{Stop}
use Rattle.query_terms.specs.declared.stop.Stop.TheVariants as stops
use Rattle.query_terms.specs.declared.stop.SyntaxFault.{SyntaxFault}
use Rattle.query_terms.specs.declared.stop.SyntaxFault.TheVariants as faults
use Rattle.query_terms.specs.declared.tree.QueryTree.{QueryTree}
use Rattle.query_terms.specs.Rule.{Text, Outcome, query}
use Rattle.query_terms.specs.Parse.{parse}

-- a query and whatever is behind it, or why there is none; memory may be wanting
abbrev pub Answers : Outcome → Result QueryTree Stop → Type 0
Answers o (Ok q) = (s : Text) × (o ≡ Ok (query q, s))
Answers o (Err e) = e ≢ stops.NoMemory → o ≡ Err e

-- the answer is that of the definition, but that memory may be wanting
abbrev pub Parses : Text → Result QueryTree SyntaxFault → Type 0
Parses t (Ok q) = parse t ≡ Ok q
Parses t (Err e) = e ≢ faults.NoMemory → parse t ≡ Err e
