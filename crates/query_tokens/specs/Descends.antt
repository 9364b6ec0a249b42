-- What a function that may open nests ensures, and what it may be given to open them with.
use Rattle.std.specs.Prelude.{◌≡◌, ◌≢◌, Option, Some, None, Result, Ok, Err}
use denote.Ref.{Bor}
use Rattle.std.specs.declared.alloc.Global.{Global}
use Rattle.query_terms.specs.declared.stop.Nest.{Nest}
use Rattle.query_terms.specs.declared.stop.Stop.{Stop}
use Rattle.query_terms.specs.declared.stop.Stop.TheVariants.{Refused, TooDeep, NoMemory}
use Rattle.query_terms.specs.declared.tree.Expr.{Expr}
use Rattle.query_terms.specs.Rule.{Text, Value, nothing, list, term, call, nested, Outcome}
use Rattle.query_tokens.specs.declared.source.QuerySource.{QuerySource}
use Rattle.query_tokens.specs.Reads.{at}

-- the answer stands for what the rule reads, but that memory may be wanting
abbrev pub Opens : {A : Type 0} → (A → Value) → Outcome → Result (A × Bor Text) Stop → Type 0
Opens f o (Ok x) = o ≡ Ok (f x.0, x.1.now)
Opens f o (Err e) = e ≢ NoMemory → o ≡ Err e

-- one that gives nothing but the text behind
abbrev pub Skips : Outcome → Result (Bor Text) Stop → Type 0
Skips o (Ok s) = o ≡ Ok (nothing, s.now)
Skips o (Err e) = e ≢ NoMemory → o ≡ Err e

-- a repetition, whose values come to this
abbrev pub Gathers : {A : Type 0} → (Value → A) → Outcome → Result (A × Bor Text) Stop → Type 0
Gathers f o (Ok x) = (v : Value) × (o ≡ Ok (list v, x.1.now)) × (f v ≡ x.0)
Gathers f o (Err e) = e ≢ NoMemory → o ≡ Err e

-- a refusal as no answer, so that another alternative is tried
abbrev pub Tried : {T : Type 0} → Result T Stop → Result (Option T) Stop → Type 0
Tried r (Ok (Some x)) = r ≡ Ok x
Tried r (Ok None) = r ≡ Err Refused
Tried r (Err e) = (r ≡ Err e) × (e ≢ NoMemory → e ≡ TooDeep)

-- a function that reads each nest at a source as its rule says
pub record Nests (source : QuerySource) (pre : Global → QuerySource → Nest → Bor Text → Type 0) (post : Global → QuerySource → Nest → Bor Text → Result (Expr × Bor Text) Stop → Type 0) : Type 0 where
  pub callable : (alloc : Global) (nest : Nest) (s : Bor Text) → pre alloc source nest s
  pub reads : (alloc : Global) (nest : Nest) (s : Bor Text) (r : Result (Expr × Bor Text) Stop) → post alloc source nest s r → Opens term (at source (call (nested nest)) s.now) r
