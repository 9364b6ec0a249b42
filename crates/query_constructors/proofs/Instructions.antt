-- What a computed processing instruction reads, from what its parts read: a name or an expression for the target, and a body or none.
use Rattle.std.proofs.Common.{◌≡◌, ◌-◌, length, Option, Some, None, Ok, refl}
use Rattle.std.specs.Prelude.{codes}
use Rattle.query_terms.specs.declared.parts.ComputedKind.TheVariants as kinds
use Rattle.query_terms.specs.declared.tree.Expr.{Expr}
use Rattle.query_terms.specs.Rule.{Text, nothing}
use Rattle.query_terms.specs.Lexis.{between, blanks, keyword}
use Rattle.query_terms.specs.Markup.{computed_as, computed_body, computed_instruction, instruction_name}
use Rattle.query_tokens.specs.Reads.{at}
use Rattle.query_tokens.specs.declared.source.QuerySource.{QuerySource}
use Rattle.query_constructors.specs.declared.computed_constructors.ComputedName.{ComputedName}
use Rattle.query_constructors.specs.declared.computed_constructors.ComputedName.TheVariants as names
use Rattle.query_constructors.specs.Runs.{as_computed_name, as_maybe_term}

pub instruction_is : (source : QuerySource) (s t u v w : Text) (name : ComputedName) (body : Option Expr) → at source (keyword (codes "processing-instruction")) s ≡ Ok (nothing, t) →
    at source instruction_name t ≡ Ok (as_computed_name name, u) → at source blanks u ≡ Ok (nothing, v) → at source computed_body v ≡ Ok (as_maybe_term body, w) →
    at source computed_instruction s ≡ Ok (computed_as (between (length source.query.now - length s) (length source.query.now - length w)) kinds.Instruction (as_computed_name name) body, w)
unfolding computed_instruction
instruction_is source s t u v w (names.Written q) None a b c d = rw (a, b, c, d) refl
instruction_is source s t u v w (names.Written q) (Some e) a b c d = rw (a, b, c, d) refl
instruction_is source s t u v w (names.Enclosed x) None a b c d = rw (a, b, c, d) refl
instruction_is source s t u v w (names.Enclosed x) (Some e) a b c d = rw (a, b, c, d) refl
