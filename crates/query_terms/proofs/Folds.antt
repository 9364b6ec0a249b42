-- A value by recursion over the tree of a query, kind by kind, for every algebra.
use Rattle.std.specs.Prelude.{◌≡◌, ℕ, Bool, List, map, Option, Some, None}
use Rattle.std.specs.Option.{option_map}
use Rattle.std.proofs.Common.{ap, sym, ◌∙◌}
use Rattle.tree_model.specs.declared.axis.Axis.{Axis}
use Rattle.tree_model.specs.declared.axis.Test.{Test}
use Rattle.tree_model.specs.declared.function.Function.{Function}
use Rattle.query_terms.specs.declared.parts.Span.{Span}
use Rattle.query_terms.specs.declared.parts.QName.{QName}
use Rattle.query_terms.specs.declared.parts.Literal.{Literal}
use Rattle.query_terms.specs.declared.parts.Variable.{Variable}
use Rattle.query_terms.specs.declared.parts.Scope.{Scope}
use Rattle.query_terms.specs.declared.parts.NodeTest.{NodeTest}
use Rattle.query_terms.specs.declared.parts.Place.{Place}
use Rattle.query_terms.specs.declared.parts.Comparator.{Comparator}
use Rattle.query_terms.specs.declared.parts.PathStart.{PathStart}
use Rattle.query_terms.specs.declared.parts.Quantifier.{Quantifier}
use Rattle.query_terms.specs.declared.parts.ComputedKind.{ComputedKind}
use Rattle.query_terms.specs.declared.parts.UnnamedKind.{UnnamedKind}
use Rattle.query_terms.specs.declared.tree.Attribute.{Attribute}
use Rattle.query_terms.specs.declared.tree.Clause.{Clause}
use Rattle.query_terms.specs.declared.tree.Clause.TheVariants as clauses
use Rattle.query_terms.specs.declared.tree.Content.{Content}
use Rattle.query_terms.specs.declared.tree.Expr.{Expr}
use Rattle.query_terms.specs.declared.tree.Expr.TheVariants as exprs
use Rattle.query_terms.specs.declared.tree.Operand.{Operand}
use Rattle.query_terms.specs.declared.tree.OrderKey.{OrderKey}
use Rattle.query_terms.specs.declared.tree.PathStep.{PathStep}
use Rattle.query_terms.specs.declared.tree.Content.TheVariants as contents
use Rattle.query_terms.specs.declared.tree.Clause.TheOpen.{Clause-F, Content-F, Expr-F}
use Rattle.query_terms.specs.declared.tree.Clause.TheFolds.{fold_out-Attribute, fold_out-Operand, fold_out-OrderKey, fold_out-PathStep, fold-roll-Clause, fold-roll-Content, fold-roll-Expr, map-Attribute, map-Clause, map-Content, map-Expr, map-Operand, map-OrderKey, map-PathStep}
use Rattle.query_terms.specs.declared.tree.Clause.TheViews.{out-Attribute, out-Operand, out-OrderKey, out-PathStep, roll-Clause, roll-Content, roll-Expr}
use Rattle.query_terms.specs.declared.parts.Literal.{Literal}
use Rattle.query_terms.specs.Folds.{Algebra, attribute_value, clause_value, content_value, expression_value, key_value, operand_value, step_value}

pub clause_roll : {C T E A O K S : Type 0} (g : Algebra C T E A O K S) (x : Clause-F Clause Content Expr Attribute Operand OrderKey PathStep) → clause_value g (roll-Clause x) ≡ g.of_clause (map-Clause Clause Content Expr Attribute Operand OrderKey PathStep C T E A O K S (clause_value g) (content_value g) (expression_value g) (attribute_value g) (operand_value g) (key_value g) (step_value g) x)
unfolding clause_value content_value expression_value attribute_value operand_value key_value step_value
clause_roll {C} {T} {E} {A} {O} {K} {S} g x = fold-roll-Clause C T E A O K S g.of_clause g.of_content g.of_expression g.of_attribute g.of_operand g.of_key g.of_step x

pub content_roll : {C T E A O K S : Type 0} (g : Algebra C T E A O K S) (x : Content-F Clause Content Expr Attribute Operand OrderKey PathStep) → content_value g (roll-Content x) ≡ g.of_content (map-Content Clause Content Expr Attribute Operand OrderKey PathStep C T E A O K S (clause_value g) (content_value g) (expression_value g) (attribute_value g) (operand_value g) (key_value g) (step_value g) x)
unfolding clause_value content_value expression_value attribute_value operand_value key_value step_value
content_roll {C} {T} {E} {A} {O} {K} {S} g x = fold-roll-Content C T E A O K S g.of_clause g.of_content g.of_expression g.of_attribute g.of_operand g.of_key g.of_step x

pub expression_roll : {C T E A O K S : Type 0} (g : Algebra C T E A O K S) (x : Expr-F Clause Content Expr Attribute Operand OrderKey PathStep) → expression_value g (roll-Expr x) ≡ g.of_expression (map-Expr Clause Content Expr Attribute Operand OrderKey PathStep C T E A O K S (clause_value g) (content_value g) (expression_value g) (attribute_value g) (operand_value g) (key_value g) (step_value g) x)
unfolding clause_value content_value expression_value attribute_value operand_value key_value step_value
expression_roll {C} {T} {E} {A} {O} {K} {S} g x = fold-roll-Expr C T E A O K S g.of_clause g.of_content g.of_expression g.of_attribute g.of_operand g.of_key g.of_step x

pub comma_is : {C T E A O K S : Type 0} (g : Algebra C T E A O K S) (span : Span) (first : Expr) (others : List Expr) → expression_value g (exprs.Comma span first others) ≡ g.of_expression (Expr-F.Comma span (expression_value g first) (map (expression_value g) others))
comma_is g span first others = ap (expression_value g) (sym (exprs.rolls-Comma span first others)) ∙ expression_roll g (Expr-F.Comma span first others)

pub flwor_is : {C T E A O K S : Type 0} (g : Algebra C T E A O K S) (span : Span) (clauses : List Clause) (condition : Option Expr) (order : List OrderKey) (body : Expr) → expression_value g (exprs.Flwor span clauses condition order body) ≡ g.of_expression (Expr-F.Flwor span (map (clause_value g) clauses) (option_map (expression_value g) condition) (map (key_value g) order) (expression_value g body))
flwor_is g span clauses None order body = ap (expression_value g) (sym (exprs.rolls-Flwor span clauses None order body)) ∙ expression_roll g (Expr-F.Flwor span clauses None order body)
flwor_is g span clauses (Some e) order body = ap (expression_value g) (sym (exprs.rolls-Flwor span clauses (Some e) order body)) ∙ expression_roll g (Expr-F.Flwor span clauses (Some e) order body)

pub quantified_is : {C T E A O K S : Type 0} (g : Algebra C T E A O K S) (span : Span) (quantifier : Quantifier) (clauses : List Clause) (test : Expr) → expression_value g (exprs.Quantified span quantifier clauses test) ≡ g.of_expression (Expr-F.Quantified span quantifier (map (clause_value g) clauses) (expression_value g test))
quantified_is g span quantifier clauses test = ap (expression_value g) (sym (exprs.rolls-Quantified span quantifier clauses test)) ∙ expression_roll g (Expr-F.Quantified span quantifier clauses test)

pub if_is : {C T E A O K S : Type 0} (g : Algebra C T E A O K S) (span : Span) (condition : Expr) (positive : Expr) (negative : Expr) → expression_value g (exprs.If span condition positive negative) ≡ g.of_expression (Expr-F.If span (expression_value g condition) (expression_value g positive) (expression_value g negative))
if_is g span condition positive negative = ap (expression_value g) (sym (exprs.rolls-If span condition positive negative)) ∙ expression_roll g (Expr-F.If span condition positive negative)

pub insert_is : {C T E A O K S : Type 0} (g : Algebra C T E A O K S) (span : Span) (source : Expr) (place : Place) (target : Expr) → expression_value g (exprs.Insert span source place target) ≡ g.of_expression (Expr-F.Insert span (expression_value g source) place (expression_value g target))
insert_is g span source place target = ap (expression_value g) (sym (exprs.rolls-Insert span source place target)) ∙ expression_roll g (Expr-F.Insert span source place target)

pub delete_is : {C T E A O K S : Type 0} (g : Algebra C T E A O K S) (span : Span) (target : Expr) → expression_value g (exprs.Delete span target) ≡ g.of_expression (Expr-F.Delete span (expression_value g target))
delete_is g span target = ap (expression_value g) (sym (exprs.rolls-Delete span target)) ∙ expression_roll g (Expr-F.Delete span target)

pub replace_is : {C T E A O K S : Type 0} (g : Algebra C T E A O K S) (span : Span) (is_value : Bool) (target : Expr) (source : Expr) → expression_value g (exprs.Replace span is_value target source) ≡ g.of_expression (Expr-F.Replace span is_value (expression_value g target) (expression_value g source))
replace_is g span is_value target source = ap (expression_value g) (sym (exprs.rolls-Replace span is_value target source)) ∙ expression_roll g (Expr-F.Replace span is_value target source)

pub rename_is : {C T E A O K S : Type 0} (g : Algebra C T E A O K S) (span : Span) (target : Expr) (name : Expr) (scope : Scope) → expression_value g (exprs.Rename span target name scope) ≡ g.of_expression (Expr-F.Rename span (expression_value g target) (expression_value g name) scope)
rename_is g span target name scope = ap (expression_value g) (sym (exprs.rolls-Rename span target name scope)) ∙ expression_roll g (Expr-F.Rename span target name scope)

pub or_is : {C T E A O K S : Type 0} (g : Algebra C T E A O K S) (span : Span) (first : Expr) (others : List Expr) → expression_value g (exprs.Or span first others) ≡ g.of_expression (Expr-F.Or span (expression_value g first) (map (expression_value g) others))
or_is g span first others = ap (expression_value g) (sym (exprs.rolls-Or span first others)) ∙ expression_roll g (Expr-F.Or span first others)

pub and_is : {C T E A O K S : Type 0} (g : Algebra C T E A O K S) (span : Span) (first : Expr) (others : List Expr) → expression_value g (exprs.And span first others) ≡ g.of_expression (Expr-F.And span (expression_value g first) (map (expression_value g) others))
and_is g span first others = ap (expression_value g) (sym (exprs.rolls-And span first others)) ∙ expression_roll g (Expr-F.And span first others)

pub comparison_is : {C T E A O K S : Type 0} (g : Algebra C T E A O K S) (span : Span) (comparator : Comparator) (left : Expr) (right : Expr) → expression_value g (exprs.Comparison span comparator left right) ≡ g.of_expression (Expr-F.Comparison span comparator (expression_value g left) (expression_value g right))
comparison_is g span comparator left right = ap (expression_value g) (sym (exprs.rolls-Comparison span comparator left right)) ∙ expression_roll g (Expr-F.Comparison span comparator left right)

pub range_is : {C T E A O K S : Type 0} (g : Algebra C T E A O K S) (span : Span) (from : Expr) (to : Expr) → expression_value g (exprs.Range span from to) ≡ g.of_expression (Expr-F.Range span (expression_value g from) (expression_value g to))
range_is g span from to = ap (expression_value g) (sym (exprs.rolls-Range span from to)) ∙ expression_roll g (Expr-F.Range span from to)

pub additive_is : {C T E A O K S : Type 0} (g : Algebra C T E A O K S) (span : Span) (first : Expr) (others : List Operand) → expression_value g (exprs.Additive span first others) ≡ g.of_expression (Expr-F.Additive span (expression_value g first) (map (operand_value g) others))
additive_is g span first others = ap (expression_value g) (sym (exprs.rolls-Additive span first others)) ∙ expression_roll g (Expr-F.Additive span first others)

pub multiplicative_is : {C T E A O K S : Type 0} (g : Algebra C T E A O K S) (span : Span) (first : Expr) (others : List Operand) → expression_value g (exprs.Multiplicative span first others) ≡ g.of_expression (Expr-F.Multiplicative span (expression_value g first) (map (operand_value g) others))
multiplicative_is g span first others = ap (expression_value g) (sym (exprs.rolls-Multiplicative span first others)) ∙ expression_roll g (Expr-F.Multiplicative span first others)

pub union_is : {C T E A O K S : Type 0} (g : Algebra C T E A O K S) (span : Span) (first : Expr) (others : List Expr) → expression_value g (exprs.Union span first others) ≡ g.of_expression (Expr-F.Union span (expression_value g first) (map (expression_value g) others))
union_is g span first others = ap (expression_value g) (sym (exprs.rolls-Union span first others)) ∙ expression_roll g (Expr-F.Union span first others)

pub intersection_is : {C T E A O K S : Type 0} (g : Algebra C T E A O K S) (span : Span) (first : Expr) (others : List Operand) → expression_value g (exprs.Intersection span first others) ≡ g.of_expression (Expr-F.Intersection span (expression_value g first) (map (operand_value g) others))
intersection_is g span first others = ap (expression_value g) (sym (exprs.rolls-Intersection span first others)) ∙ expression_roll g (Expr-F.Intersection span first others)

pub unary_is : {C T E A O K S : Type 0} (g : Algebra C T E A O K S) (span : Span) (is_negative : Bool) (part : Expr) → expression_value g (exprs.Unary span is_negative part) ≡ g.of_expression (Expr-F.Unary span is_negative (expression_value g part))
unary_is g span is_negative part = ap (expression_value g) (sym (exprs.rolls-Unary span is_negative part)) ∙ expression_roll g (Expr-F.Unary span is_negative part)

pub root_is : {C T E A O K S : Type 0} (g : Algebra C T E A O K S) (span : Span) → expression_value g (exprs.Root span) ≡ g.of_expression (Expr-F.Root span)
root_is g span = ap (expression_value g) (sym (exprs.rolls-Root span)) ∙ expression_roll g (Expr-F.Root span)

pub path_is : {C T E A O K S : Type 0} (g : Algebra C T E A O K S) (span : Span) (start : PathStart) (first : Expr) (others : List PathStep) → expression_value g (exprs.Path span start first others) ≡ g.of_expression (Expr-F.Path span start (expression_value g first) (map (step_value g) others))
path_is g span start first others = ap (expression_value g) (sym (exprs.rolls-Path span start first others)) ∙ expression_roll g (Expr-F.Path span start first others)

pub filter_is : {C T E A O K S : Type 0} (g : Algebra C T E A O K S) (span : Span) (head : Expr) (predicates : List Expr) → expression_value g (exprs.Filter span head predicates) ≡ g.of_expression (Expr-F.Filter span (expression_value g head) (map (expression_value g) predicates))
filter_is g span head predicates = ap (expression_value g) (sym (exprs.rolls-Filter span head predicates)) ∙ expression_roll g (Expr-F.Filter span head predicates)

pub axis_step_is : {C T E A O K S : Type 0} (g : Algebra C T E A O K S) (span : Span) (axis : Axis) (test : NodeTest) (tested : Option Test) → expression_value g (exprs.AxisStep span axis test tested) ≡ g.of_expression (Expr-F.AxisStep span axis test tested)
axis_step_is g span axis test tested = ap (expression_value g) (sym (exprs.rolls-AxisStep span axis test tested)) ∙ expression_roll g (Expr-F.AxisStep span axis test tested)

pub number_is : {C T E A O K S : Type 0} (g : Algebra C T E A O K S) (span : Span) (text : List ℕ) → expression_value g (exprs.Number span text) ≡ g.of_expression (Expr-F.Number span text)
number_is g span text = ap (expression_value g) (sym (exprs.rolls-Number span text)) ∙ expression_roll g (Expr-F.Number span text)

pub string_is : {C T E A O K S : Type 0} (g : Algebra C T E A O K S) (span : Span) (literal : Literal) → expression_value g (exprs.String span literal) ≡ g.of_expression (Expr-F.String span literal)
string_is g span literal = ap (expression_value g) (sym (exprs.rolls-String span literal)) ∙ expression_roll g (Expr-F.String span literal)

pub variable_is : {C T E A O K S : Type 0} (g : Algebra C T E A O K S) (variable : Variable) → expression_value g (exprs.Variable variable) ≡ g.of_expression (Expr-F.Variable variable)
variable_is g variable = ap (expression_value g) (sym (exprs.rolls-Variable variable)) ∙ expression_roll g (Expr-F.Variable variable)

pub parenthesized_is : {C T E A O K S : Type 0} (g : Algebra C T E A O K S) (span : Span) (body : Option Expr) → expression_value g (exprs.Parenthesized span body) ≡ g.of_expression (Expr-F.Parenthesized span (option_map (expression_value g) body))
parenthesized_is g span None = ap (expression_value g) (sym (exprs.rolls-Parenthesized span None)) ∙ expression_roll g (Expr-F.Parenthesized span None)
parenthesized_is g span (Some e) = ap (expression_value g) (sym (exprs.rolls-Parenthesized span (Some e))) ∙ expression_roll g (Expr-F.Parenthesized span (Some e))

pub context_item_is : {C T E A O K S : Type 0} (g : Algebra C T E A O K S) (span : Span) → expression_value g (exprs.ContextItem span) ≡ g.of_expression (Expr-F.ContextItem span)
context_item_is g span = ap (expression_value g) (sym (exprs.rolls-ContextItem span)) ∙ expression_roll g (Expr-F.ContextItem span)

pub element_is : {C T E A O K S : Type 0} (g : Algebra C T E A O K S) (span : Span) (name : QName) (attributes : List Attribute) (contents : List Content) → expression_value g (exprs.Element span name attributes contents) ≡ g.of_expression (Expr-F.Element span name (map (attribute_value g) attributes) (map (content_value g) contents))
element_is g span name attributes contents = ap (expression_value g) (sym (exprs.rolls-Element span name attributes contents)) ∙ expression_roll g (Expr-F.Element span name attributes contents)

pub direct_comment_is : {C T E A O K S : Type 0} (g : Algebra C T E A O K S) (span : Span) (text : List ℕ) → expression_value g (exprs.DirectComment span text) ≡ g.of_expression (Expr-F.DirectComment span text)
direct_comment_is g span text = ap (expression_value g) (sym (exprs.rolls-DirectComment span text)) ∙ expression_roll g (Expr-F.DirectComment span text)

pub direct_instruction_is : {C T E A O K S : Type 0} (g : Algebra C T E A O K S) (span : Span) (target : List ℕ) (text : List ℕ) → expression_value g (exprs.DirectInstruction span target text) ≡ g.of_expression (Expr-F.DirectInstruction span target text)
direct_instruction_is g span target text = ap (expression_value g) (sym (exprs.rolls-DirectInstruction span target text)) ∙ expression_roll g (Expr-F.DirectInstruction span target text)

pub computed_is : {C T E A O K S : Type 0} (g : Algebra C T E A O K S) (span : Span) (kind : ComputedKind) (name : QName) (body : Option Expr) → expression_value g (exprs.Computed span kind name body) ≡ g.of_expression (Expr-F.Computed span kind name (option_map (expression_value g) body))
computed_is g span kind name None = ap (expression_value g) (sym (exprs.rolls-Computed span kind name None)) ∙ expression_roll g (Expr-F.Computed span kind name None)
computed_is g span kind name (Some e) = ap (expression_value g) (sym (exprs.rolls-Computed span kind name (Some e))) ∙ expression_roll g (Expr-F.Computed span kind name (Some e))

pub computed_by_value_is : {C T E A O K S : Type 0} (g : Algebra C T E A O K S) (span : Span) (kind : ComputedKind) (name : Expr) (scope : Scope) (body : Option Expr) → expression_value g (exprs.ComputedByValue span kind name scope body) ≡ g.of_expression (Expr-F.ComputedByValue span kind (expression_value g name) scope (option_map (expression_value g) body))
computed_by_value_is g span kind name scope None = ap (expression_value g) (sym (exprs.rolls-ComputedByValue span kind name scope None)) ∙ expression_roll g (Expr-F.ComputedByValue span kind name scope None)
computed_by_value_is g span kind name scope (Some e) = ap (expression_value g) (sym (exprs.rolls-ComputedByValue span kind name scope (Some e))) ∙ expression_roll g (Expr-F.ComputedByValue span kind name scope (Some e))

pub computed_unnamed_is : {C T E A O K S : Type 0} (g : Algebra C T E A O K S) (span : Span) (kind : UnnamedKind) (body : Expr) → expression_value g (exprs.ComputedUnnamed span kind body) ≡ g.of_expression (Expr-F.ComputedUnnamed span kind (expression_value g body))
computed_unnamed_is g span kind body = ap (expression_value g) (sym (exprs.rolls-ComputedUnnamed span kind body)) ∙ expression_roll g (Expr-F.ComputedUnnamed span kind body)

pub call_is : {C T E A O K S : Type 0} (g : Algebra C T E A O K S) (span : Span) (name : QName) (arguments : List Expr) (function : Option Function) → expression_value g (exprs.Call span name arguments function) ≡ g.of_expression (Expr-F.Call span name (map (expression_value g) arguments) function)
call_is g span name arguments function = ap (expression_value g) (sym (exprs.rolls-Call span name arguments function)) ∙ expression_roll g (Expr-F.Call span name arguments function)

pub for_is : {C T E A O K S : Type 0} (g : Algebra C T E A O K S) (variable : Variable) (position : Option Variable) (source : Expr) → clause_value g (clauses.For variable position source) ≡ g.of_clause (Clause-F.For variable position (expression_value g source))
for_is g variable position source = ap (clause_value g) (sym (clauses.rolls-For variable position source)) ∙ clause_roll g (Clause-F.For variable position source)

pub let_is : {C T E A O K S : Type 0} (g : Algebra C T E A O K S) (variable : Variable) (value : Expr) → clause_value g (clauses.Let variable value) ≡ g.of_clause (Clause-F.Let variable (expression_value g value))
let_is g variable value = ap (clause_value g) (sym (clauses.rolls-Let variable value)) ∙ clause_roll g (Clause-F.Let variable value)

pub characters_is : {C T E A O K S : Type 0} (g : Algebra C T E A O K S) (literal : Literal) → content_value g (contents.Characters literal) ≡ g.of_content (Content-F.Characters literal)
characters_is g literal = ap (content_value g) (sym (contents.rolls-Characters literal)) ∙ content_roll g (Content-F.Characters literal)

pub enclosed_is : {C T E A O K S : Type 0} (g : Algebra C T E A O K S) (body : Expr) → content_value g (contents.Enclosed body) ≡ g.of_content (Content-F.Enclosed (expression_value g body))
enclosed_is g body = ap (content_value g) (sym (contents.rolls-Enclosed body)) ∙ content_roll g (Content-F.Enclosed body)

pub constructor_is : {C T E A O K S : Type 0} (g : Algebra C T E A O K S) (body : Expr) → content_value g (contents.Constructor body) ≡ g.of_content (Content-F.Constructor (expression_value g body))
constructor_is g body = ap (content_value g) (sym (contents.rolls-Constructor body)) ∙ content_roll g (Content-F.Constructor body)

pub attribute_is : {C T E A O K S : Type 0} (g : Algebra C T E A O K S) (x : Attribute) → attribute_value g x ≡ g.of_attribute (map-Attribute Clause Content Expr Attribute Operand OrderKey PathStep C T E A O K S (clause_value g) (content_value g) (expression_value g) (attribute_value g) (operand_value g) (key_value g) (step_value g) (out-Attribute x))
unfolding clause_value content_value expression_value attribute_value operand_value key_value step_value
attribute_is {C} {T} {E} {A} {O} {K} {S} g x = fold_out-Attribute C T E A O K S g.of_clause g.of_content g.of_expression g.of_attribute g.of_operand g.of_key g.of_step x

pub operand_is : {C T E A O K S : Type 0} (g : Algebra C T E A O K S) (x : Operand) → operand_value g x ≡ g.of_operand (map-Operand Clause Content Expr Attribute Operand OrderKey PathStep C T E A O K S (clause_value g) (content_value g) (expression_value g) (attribute_value g) (operand_value g) (key_value g) (step_value g) (out-Operand x))
unfolding clause_value content_value expression_value attribute_value operand_value key_value step_value
operand_is {C} {T} {E} {A} {O} {K} {S} g x = fold_out-Operand C T E A O K S g.of_clause g.of_content g.of_expression g.of_attribute g.of_operand g.of_key g.of_step x

pub key_is : {C T E A O K S : Type 0} (g : Algebra C T E A O K S) (x : OrderKey) → key_value g x ≡ g.of_key (map-OrderKey Clause Content Expr Attribute Operand OrderKey PathStep C T E A O K S (clause_value g) (content_value g) (expression_value g) (attribute_value g) (operand_value g) (key_value g) (step_value g) (out-OrderKey x))
unfolding clause_value content_value expression_value attribute_value operand_value key_value step_value
key_is {C} {T} {E} {A} {O} {K} {S} g x = fold_out-OrderKey C T E A O K S g.of_clause g.of_content g.of_expression g.of_attribute g.of_operand g.of_key g.of_step x

pub step_is : {C T E A O K S : Type 0} (g : Algebra C T E A O K S) (x : PathStep) → step_value g x ≡ g.of_step (map-PathStep Clause Content Expr Attribute Operand OrderKey PathStep C T E A O K S (clause_value g) (content_value g) (expression_value g) (attribute_value g) (operand_value g) (key_value g) (step_value g) (out-PathStep x))
unfolding clause_value content_value expression_value attribute_value operand_value key_value step_value
step_is {C} {T} {E} {A} {O} {K} {S} g x = fold_out-PathStep C T E A O K S g.of_clause g.of_content g.of_expression g.of_attribute g.of_operand g.of_key g.of_step x

-- for a search
pub ruleset by_kind = (comma_is, flwor_is, quantified_is, if_is, insert_is, delete_is, replace_is, rename_is, or_is, and_is, comparison_is, range_is, additive_is, multiplicative_is, union_is, intersection_is, unary_is, root_is, path_is, filter_is, axis_step_is, number_is, string_is, variable_is, parenthesized_is, context_item_is, element_is, direct_comment_is, direct_instruction_is, computed_is, computed_by_value_is, computed_unnamed_is, call_is)

pub ruleset by_part = (for_is, let_is, characters_is, enclosed_is, constructor_is, attribute_is, operand_is, key_is, step_is)
