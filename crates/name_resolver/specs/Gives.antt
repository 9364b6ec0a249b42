-- What a part of a query becomes, and where the walk then stands.
use Rattle.std.specs.Prelude.{◌≡◌, ℕ, List, map, Result, Ok, Err}
use Rattle.std.specs.declared.alloc.AllocError.{AllocError}
use Rattle.std.specs.declared.alloc.Global.{Global}
use denote.Ref.{Bor, MutBor}
use Rattle.query_terms.specs.declared.parts.QName.{QName}
use Rattle.query_terms.specs.declared.parts.Span.{Span}
use Rattle.query_terms.specs.declared.tree.Attribute.{Attribute}
use Rattle.query_terms.specs.declared.tree.Content.{Content}
use Rattle.query_terms.specs.declared.tree.Expr.{Expr}
use Rattle.query_terms.specs.declared.tree.Expr.TheVariants as exprs
use Rattle.query_terms.specs.Static.{Environment}
use Rattle.query_terms.specs.Resolved.{Resolution, attribute, content, each_attribute, each_content, element_name, resolved}

-- what it becomes in the environment, which is as before. Want of memory says nothing
abbrev pub Gives : {A : Type 0} → Resolution A → Result A AllocError → Environment → Environment → Type 0
Gives part (Ok x) old new = (x ≡ part old.bindings) × (new ≡ old)
Gives part (Err e) old new = Unit {0}

-- an element, by what its declarations have brought into force
abbrev pub element : Span → QName → List Attribute → List Content → Resolution Expr
element span name attributes parts inside =
    exprs.Element span (element_name inside name) (each_attribute (map attribute attributes) inside) (each_content (map content parts) inside)

-- a function value that resolves expressions, at one depth
pub record Resolves (depth : ℕ) (pre : Global → ℕ → MutBor Environment → Bor Expr → Type 0)
    (post : Global → ℕ → MutBor Environment → Bor Expr → Result Expr AllocError → MutBor Environment → Type 0) : Type 0 where
  pub callable : (alloc : Global) (old : MutBor Environment) (e : Bor Expr) → pre alloc depth old e
  pub gives : (alloc : Global) (old new : MutBor Environment) (e : Bor Expr) (r : Result Expr AllocError) → post alloc depth old e r new
      → Gives (resolved e.now) r old.now new.now
