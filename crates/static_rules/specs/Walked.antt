-- What a walk over a part of a query has found.
use Rattle.std.specs.Prelude.{◌≡◌, ℕ, Result, Ok, Err}
use Rattle.std.specs.declared.alloc.AllocError.{AllocError}
use Rattle.std.specs.declared.alloc.Global.{Global}
use denote.Ref.{Bor, MutBor}
use Rattle.query_terms.specs.declared.tree.Expr.{Expr}
use Rattle.query_terms.specs.Static.{Environment, Meaning, faults, least_of}
use Rattle.static_rules.specs.declared.state.State.{State}

-- the faults of what stands there are found
pub record Noted (part : Meaning) (old new : State) : Type 0 where
  pub found : new.found ≡ least_of old.found (part old.environment)
  pub environment : new.environment ≡ old.environment

-- the faults of the part are found, and the environment is as before. Want of memory says nothing
abbrev pub Walked : Meaning → Result (Unit {0}) AllocError → State → State → Type 0
Walked part (Ok x) old new = (new.found ≡ least_of old.found (part old.environment)) × (new.environment ≡ old.environment)
Walked part (Err e) old new = Unit {0}

-- and what stands behind it is in this environment
abbrev pub WalkedInto : Meaning → (Environment → Environment) → Result (Unit {0}) AllocError → State → State → Type 0
WalkedInto part behind (Ok x) old new = (new.found ≡ least_of old.found (part old.environment)) × (new.environment ≡ behind old.environment)
WalkedInto part behind (Err e) old new = Unit {0}

-- a function value that walks over expressions, at one depth
pub record Walks (depth : ℕ) (pre : Global → ℕ → MutBor State → Bor Expr → Type 0)
    (post : Global → ℕ → MutBor State → Bor Expr → Result (Unit {0}) AllocError → MutBor State → Type 0) : Type 0 where
  pub callable : (alloc : Global) (old : MutBor State) (e : Bor Expr) → pre alloc depth old e
  pub finds : (alloc : Global) (old new : MutBor State) (e : Bor Expr) (r : Result (Unit {0}) AllocError) → post alloc depth old e r new
      → Walked (faults e.now) r old.now new.now
