-- What resolving an element and a part of content comes to.
use Rattle.std.specs.Prelude.{◌≡◌, List, [], ◌∷◌, ◌++◌, map, refl, Result}
use Rattle.std.proofs.Common.{ap, sym, ◌∙◌}
use Rattle.std.specs.declared.alloc.AllocError.{AllocError}
use Rattle.query_terms.specs.declared.parts.Span.{Span}
use Rattle.query_terms.specs.declared.parts.QName.{QName}
use Rattle.query_terms.specs.declared.parts.Binding.{Binding}
use Rattle.query_terms.specs.declared.tree.Clause.TheOpen.{Content-F}
use Rattle.query_terms.specs.declared.tree.Clause.TheFolds.{map-Content}
use Rattle.query_terms.specs.declared.tree.Clause.TheViews.{out-Content, roll-out-Content, out-Attribute}
use Rattle.query_terms.specs.declared.tree.Attribute.{Attribute}
use Rattle.query_terms.specs.declared.tree.Clause.{Clause}
use Rattle.query_terms.specs.declared.tree.Content.{Content}
use Rattle.query_terms.specs.declared.tree.Expr.{Expr}
use Rattle.query_terms.specs.declared.tree.Expr.TheVariants as exprs
use Rattle.query_terms.specs.declared.tree.Operand.{Operand}
use Rattle.query_terms.specs.declared.tree.OrderKey.{OrderKey}
use Rattle.query_terms.specs.declared.tree.PathStep.{PathStep}
use Rattle.query_terms.specs.Static.{Environment, declared_in}
use Rattle.query_terms.specs.Resolved.{Resolution, ContentResolution, AttributeResolution, in_content, resolving, resolved, clause, content, attribute, operand, key, step}
use Rattle.query_terms.proofs.Folds as folds
use Rattle.name_scopes.specs.Declares.{characters_in, declared_of, text_of}
use Rattle.name_resolver.specs.Gives.{Gives, element}

text_by : (x : Content-F Clause Content Expr Attribute Operand OrderKey PathStep) → (in_content (map-Content Clause Content Expr Attribute Operand OrderKey PathStep (Resolution Clause) ContentResolution (Resolution Expr) AttributeResolution (Resolution Operand) (Resolution OrderKey) (Resolution PathStep) clause content resolved attribute operand key step x)).text ≡ characters_in x
text_by (Content-F.Characters l) = refl
text_by (Content-F.Enclosed body) = refl
text_by (Content-F.Constructor body) = refl

text_is : (c : Content) → (content c).text ≡ text_of c
text_is c = ap (λ (m : ContentResolution). m.text) (ap content (sym (roll-out-Content c)) ∙ folds.content_roll resolving (out-Content c)) ∙ text_by (out-Content c)

text_same : (xs : List Content) → map (λ (c : ContentResolution). c.text) (map content xs) ≡ map text_of xs
text_same [] = refl
text_same (c ∷ xs) = rw (text_is c) (ap (λ z. text_of c ∷ z) (text_same xs))

declared_same : (xs : List Attribute) → map (λ (a : AttributeResolution). a.declared) (map attribute xs) ≡ map declared_of xs
declared_same [] = refl
declared_same (a ∷ xs) = rw (folds.attribute_is resolving a, text_same (out-Attribute a).value) (ap (λ z. declared_of a ∷ z) (declared_same xs))

pub element_is : (span : Span) (name : QName) (attributes : List Attribute) (parts : List Content) →
    resolved (exprs.Element span name attributes parts) ≡ (λ (bindings : List Binding). element span name attributes parts (bindings ++ declared_in (map declared_of attributes)))
element_is span name attributes parts =
    folds.element_is resolving span name attributes parts
    ∙ ap (λ ds (bindings : List Binding). element span name attributes parts (bindings ++ declared_in ds)) (declared_same attributes)

-- the same part, by an equation
pub gives_along : {A : Type 0} (part same : Resolution A) (x : Result A AllocError) (old new : Environment) → same ≡ part → Gives part x old new → Gives same x old new
gives_along part same x old new is given = rw is given
