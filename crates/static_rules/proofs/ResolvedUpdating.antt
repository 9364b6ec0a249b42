-- Resolving the names of an expression doesn't change whether it updates.
use Rattle.std.proofs.Common.{◌≡◌, ◌∙◌, refl, ap, sym, subst, ◌||◌, Bool, List, [], ◌∷◌, map, option_map, Option, Some, None}
use Rattle.query_terms.specs.declared.parts.Binding.{Binding}
use Rattle.query_terms.specs.declared.tree.Clause.TheOpen.{Expr-F}
use Rattle.query_terms.specs.declared.tree.Clause.TheFolds.{ind-Expr, map-Expr}
use Rattle.query_terms.specs.declared.tree.Clause.TheViews.{roll-Expr}
use Rattle.query_terms.specs.declared.tree.Attribute.{Attribute}
use Rattle.query_terms.specs.declared.tree.Clause.{Clause}
use Rattle.query_terms.specs.declared.tree.Content.{Content}
use Rattle.query_terms.specs.declared.tree.Expr.{Expr}
use Rattle.query_terms.specs.declared.tree.Operand.{Operand}
use Rattle.query_terms.specs.declared.tree.OrderKey.{OrderKey}
use Rattle.query_terms.specs.declared.tree.PathStep.{PathStep}
use Rattle.query_terms.specs.declared.tree.QueryTree.{QueryTree}
use Rattle.query_terms.specs.Constructors.{some}
use Rattle.query_terms.specs.Static.{prolog_bindings}
use Rattle.query_terms.specs.Resolved.{ContentResolution, AttributeResolution, Resolution, resolving, resolved, resolved_query, clause, content, attribute, operand, key, step, each, perhaps}
use Rattle.query_terms.specs.Updating.{updating, is_updating, is_updating_query}
use Rattle.query_terms.specs.Folds.{attribute_value, clause_value, content_value, key_value, operand_value, step_value}
use Rattle.query_terms.proofs.Folds as folds

abbrev KeepsUpdating : Expr → Type 0
KeepsUpdating e = (bindings : List Binding) → is_updating (resolved e bindings) ≡ is_updating e

-- parts, each with what is known of it
abbrev firsts : {A : Type 0} {P : A → Type 0} → List ((x : A) × P x) → List A
firsts parts = map (λ x. x.0) parts

abbrev first_of : {A : Type 0} {P : A → Type 0} → Option ((x : A) × P x) → Option A
first_of part = option_map (λ x. x.0) part

abbrev Known : Type 0 → Type 0
Known A = A × Unit {0}

some_kept : (parts : List ((e : Expr) × KeepsUpdating e)) (b : List Binding) → some (map is_updating (each (map resolved (firsts parts)) b)) ≡ some (map is_updating (firsts parts))
unfolding each
some_kept [] b = refl
some_kept (p ∷ more) b =
    ap (λ (u : Bool). u || some (map is_updating (each (map resolved (firsts more)) b))) (p.1 b)
    ∙ ap (λ (u : Bool). is_updating p.0 || u) (some_kept more b)

abbrev Level : Type 0
Level = Expr-F (Known Clause) (Known Content) ((e : Expr) × KeepsUpdating e) (Known Attribute) (Known Operand) (Known OrderKey) (Known PathStep)

abbrev plain : Level → Expr-F Clause Content Expr Attribute Operand OrderKey PathStep
plain y = map-Expr (Known Clause) (Known Content) ((e : Expr) × KeepsUpdating e) (Known Attribute) (Known Operand) (Known OrderKey) (Known PathStep) Clause Content Expr Attribute Operand OrderKey PathStep (λ x. x.0) (λ x. x.0) (λ x. x.0) (λ x. x.0) (λ x. x.0) (λ x. x.0) (λ x. x.0) y

abbrev resolved_level : Level → Resolution Expr
resolved_level y = resolving.of_expression (map-Expr Clause Content Expr Attribute Operand OrderKey PathStep (Resolution Clause) ContentResolution (Resolution Expr) AttributeResolution (Resolution Operand) (Resolution OrderKey) (Resolution PathStep) clause content resolved attribute operand key step (plain y))

abbrev updating_level : Level → Bool
updating_level y = updating.of_expression (map-Expr Clause Content Expr Attribute Operand OrderKey PathStep Bool Bool Bool Bool Bool Bool Bool (clause_value updating) (content_value updating) is_updating (attribute_value updating) (operand_value updating) (key_value updating) (step_value updating) (plain y))

by_level : (y : Level) (b : List Binding) → is_updating (resolved_level y b) ≡ updating_level y
unfolding perhaps
by_level (Expr-F.Comma span first others) b = folds.comma_is updating _ _ _ ∙ ap (λ (u : Bool). u || some (map is_updating (each (map resolved (firsts others)) b))) (first.1 b) ∙ ap (λ (u : Bool). is_updating first.0 || u) (some_kept others b)
by_level (Expr-F.Flwor span clauses None order body) b = folds.flwor_is updating _ _ None _ _ ∙ body.1 b
by_level (Expr-F.Flwor span clauses (Some condition) order body) b = folds.flwor_is updating _ _ (Some _) _ _ ∙ body.1 b
by_level (Expr-F.Quantified span quantifier clauses test) b = folds.quantified_is updating _ _ _ _
by_level (Expr-F.If span condition positive negative) b = folds.if_is updating _ _ _ _ ∙ ap (λ (u : Bool). u || is_updating (resolved negative.0 b)) (positive.1 b) ∙ ap (λ (u : Bool). is_updating positive.0 || u) (negative.1 b)
by_level (Expr-F.Insert span source place target) b = folds.insert_is updating _ _ _ _
by_level (Expr-F.Delete span target) b = folds.delete_is updating _ _
by_level (Expr-F.Replace span is_value target source) b = folds.replace_is updating _ _ _ _
by_level (Expr-F.Rename span target name scope) b = folds.rename_is updating _ _ _ _
by_level (Expr-F.Or span first others) b = folds.or_is updating _ _ _
by_level (Expr-F.And span first others) b = folds.and_is updating _ _ _
by_level (Expr-F.Comparison span comparator left right) b = folds.comparison_is updating _ _ _ _
by_level (Expr-F.Range span from to) b = folds.range_is updating _ _ _
by_level (Expr-F.Additive span first others) b = folds.additive_is updating _ _ _
by_level (Expr-F.Multiplicative span first others) b = folds.multiplicative_is updating _ _ _
by_level (Expr-F.Union span first others) b = folds.union_is updating _ _ _
by_level (Expr-F.Intersection span first others) b = folds.intersection_is updating _ _ _
by_level (Expr-F.Unary span is_negative part) b = folds.unary_is updating _ _ _
by_level (Expr-F.Root span) b = folds.root_is updating _
by_level (Expr-F.Path span start first others) b = folds.path_is updating _ _ _ _
by_level (Expr-F.Filter span head predicates) b = folds.filter_is updating _ _ _
by_level (Expr-F.AxisStep span axis test tested) b = folds.axis_step_is updating _ _ _ _
by_level (Expr-F.Number span text) b = folds.number_is updating _ _
by_level (Expr-F.String span literal) b = folds.string_is updating _ _
by_level (Expr-F.Variable variable) b = folds.variable_is updating _
by_level (Expr-F.Parenthesized span None) b = folds.parenthesized_is updating _ None
by_level (Expr-F.Parenthesized span (Some body)) b = folds.parenthesized_is updating _ (Some _) ∙ body.1 b
by_level (Expr-F.ContextItem span) b = folds.context_item_is updating _
by_level (Expr-F.Element span name attributes contents) b = folds.element_is updating _ _ _ _
by_level (Expr-F.DirectComment span text) b = folds.direct_comment_is updating _ _
by_level (Expr-F.DirectInstruction span target text) b = folds.direct_instruction_is updating _ _ _
by_level (Expr-F.Computed span kind name None) b = folds.computed_is updating _ _ _ None
by_level (Expr-F.Computed span kind name (Some body)) b = folds.computed_is updating _ _ _ (Some _)
by_level (Expr-F.ComputedByValue span kind name scope None) b = folds.computed_by_value_is updating _ _ _ _ None
by_level (Expr-F.ComputedByValue span kind name scope (Some body)) b = folds.computed_by_value_is updating _ _ _ _ (Some _)
by_level (Expr-F.ComputedUnnamed span kind body) b = folds.computed_unnamed_is updating _ _ _
by_level (Expr-F.Call span name arguments function) b = folds.call_is updating _ _ _ _

by : (y : Level) → KeepsUpdating (roll-Expr (plain y))
by y b =
    ap is_updating (ap (λ (r : Resolution Expr). r b) (folds.expression_roll resolving (plain y)))
    ∙ by_level y b ∙ sym (folds.expression_roll updating (plain y))

pub resolving_keeps : (e : Expr) (bindings : List Binding) → is_updating (resolved e bindings) ≡ is_updating e
resolving_keeps =
    ind-Expr (λ x. Unit {0}) (λ x. Unit {0}) KeepsUpdating (λ x. Unit {0}) (λ x. Unit {0}) (λ x. Unit {0}) (λ x. Unit {0})
    (λ x y is. tt) (λ x y is. tt) (λ x y is. subst (λ z. KeepsUpdating (roll-Expr z)) is (by y)) (λ x y is. tt) (λ x y is. tt) (λ x y is. tt) (λ x y is. tt)

pub query_keeps : (q : QueryTree) → is_updating_query (resolved_query q) ≡ is_updating_query q
unfolding resolved_query
query_keeps q = resolving_keeps q.body (prolog_bindings q.declarations)
