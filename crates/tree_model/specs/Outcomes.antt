-- What is valued: a value, or the first code.
use Rattle.std.specs.Prelude.{◌≡◌, ℕ, true, Result, Ok, Err}
use Rattle.tree_model.specs.QueryCodes.{QueryCode, query_code, is_query_code}
use Rattle.tree_model.specs.declared.code.Code.{Code}

-- a value, or a code
abbrev pub Checked : Type 0 → Type 0
Checked A = Result A QueryCode

-- the code where there is one, and else what follows the value
abbrev pub and_then : {A B : Type 0} → Checked A → (A → Checked B) → Checked B
and_then (Ok x) next = next x
and_then (Err code) next = Err code

-- what was valued has the code of this number
abbrev pub IsRefusedBy : {A : Type 0} → Checked A → ℕ → Type 0
IsRefusedBy defined number = (defined ≡ Err (query_code number)) × (is_query_code number ≡ true)

-- an answer is the value, or its code
abbrev pub IsAnswer : {A : Type 0} → Checked A → Result A Code → Type 0
IsAnswer defined (Ok x) = defined ≡ Ok x
IsAnswer defined (Err code) = IsRefusedBy defined code
