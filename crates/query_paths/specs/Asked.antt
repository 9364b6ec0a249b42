-- What is answered for the text of a query, as far as queries are valued: the steps of a path, or why there are none.
use Rattle.std.specs.Prelude.{◌≡◌, ℕ, true, ◌⊎◌, List, Option, Some, None, Result, Ok, Err, codes}
use Rattle.tree_model.specs.CodeTexts.{text_of_code}
use Rattle.tree_model.specs.QueryCodes.{QueryCode, XPST0003, XKLM0004, query_code, is_query_code}
use Rattle.tree_model.specs.declared.axis.AxisStep.{AxisStep}
use Rattle.tree_model.specs.declared.code.Refusal.{Refusal}
use Rattle.tree_model.specs.declared.code.Refusal.TheVariants.{Code, NoMemory}
use Rattle.query_terms.specs.declared.stop.SyntaxFault.{SyntaxFault}
use Rattle.query_terms.specs.declared.stop.SyntaxFault.TheVariants as faults
use Rattle.query_terms.specs.declared.tree.QueryTree.{QueryTree}
use Rattle.query_terms.specs.Rule.{Text}
use Rattle.query_terms.specs.Parse.{parse}
use Rattle.query_terms.specs.Static.{Fault, first_fault}
use Rattle.query_paths.specs.Paths.{path_in}

pub data Asked : Type 0 where
  steps : List AxisStep → Asked
  wrong : QueryCode → Asked  -- no query, or one with a static fault
  not_valued : Asked

-- a path, if it has no static fault
abbrev pub checked : List AxisStep → Option Fault → Asked
checked path None = steps path
checked path (Some f) = wrong f.code

abbrev pub answered : QueryTree → Option (List AxisStep) → Asked
answered q None = not_valued
answered q (Some path) = checked path (first_fault q)

abbrev pub asked_by : Result QueryTree SyntaxFault → Asked
asked_by (Ok q) = answered q (path_in q)
asked_by (Err faults.TooDeep) = wrong XKLM0004
asked_by (Err faults.NoReading) = wrong XPST0003
asked_by (Err faults.NoMemory) = wrong XPST0003

unfoldable pub asked : Text → Asked
asked t = asked_by (parse t)

-- ---- answers, where memory may be wanting

-- the code of this number is the one that the query is refused with
abbrev pub IsRefusedAs : Asked → ℕ → Type 0
IsRefusedAs answer number =
    ((answer ≡ wrong (query_code number)) × (is_query_code number ≡ true)) ⊎ ((answer ≡ not_valued) × (text_of_code number ≡ codes "XKCM0002"))

abbrev pub Refuses : Asked → Refusal → Type 0
Refuses answer (Code number) = IsRefusedAs answer number
Refuses answer NoMemory = Unit {0}

abbrev pub IsRead : Text → Result QueryTree Refusal → Type 0
IsRead t (Ok q) = parse t ≡ Ok q
IsRead t (Err refusal) = Refuses (asked t) refusal

abbrev pub AreSteps : {A : Type 0} → (A → List AxisStep) → QueryTree → Result A Refusal → Type 0
AreSteps items q (Ok path) = path_in q ≡ Some (items path)
AreSteps items q (Err refusal) = Refuses (answered q (path_in q)) refusal

abbrev pub Asks : {A : Type 0} → (A → List AxisStep) → Text → Result A Refusal → Type 0
Asks items t (Ok path) = asked t ≡ steps (items path)
Asks items t (Err refusal) = Refuses (asked t) refusal
