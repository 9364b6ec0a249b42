-- A query with the URIs of its names (XQuery 1.0, section 2.1.1), and with the namespaces that are in force where a name is first known
-- when it is valued.
use Rattle.std.specs.Prelude.{Bool, true, false, if◌then◌else◌, List, [], ◌∷◌, ◌++◌, map, Option, Some, None}
use Rattle.std.specs.Str.{bytes_eq}
use Rattle.tree_model.specs.Functions.{function_named}
use Rattle.tree_model.specs.declared.function.Function.{Function}
use Rattle.tree_model.specs.declared.axis.Test.{Test}
use Rattle.tree_model.specs.declared.axis.Test.TheVariants as walked
use Rattle.tree_model.specs.declared.axis.Axis.{Axis}
use Rattle.tree_model.specs.declared.axis.Axis.TheVariants as axes
use Rattle.query_terms.specs.declared.parts.QName.{QName}
use Rattle.query_terms.specs.declared.parts.Span.{Span}
use Rattle.query_terms.specs.declared.parts.Variable.{Variable}
use Rattle.query_terms.specs.declared.parts.Binding.{Binding}
use Rattle.query_terms.specs.declared.parts.Scope.{Scope}
use Rattle.query_terms.specs.declared.parts.ComputedKind.{ComputedKind}
use Rattle.query_terms.specs.declared.parts.ComputedKind.TheVariants as kinds
use Rattle.query_terms.specs.declared.parts.NodeTest.{NodeTest}
use Rattle.query_terms.specs.declared.parts.NodeTest.TheVariants as tests
use Rattle.query_terms.specs.declared.tree.Clause.TheOpen.{Attribute-F, Clause-F, Content-F, Expr-F, Operand-F, OrderKey-F, PathStep-F}
use Rattle.query_terms.specs.declared.tree.Attribute.{Attribute, roll-Attribute}
use Rattle.query_terms.specs.declared.tree.Clause.{Clause}
use Rattle.query_terms.specs.declared.tree.Clause.TheVariants as clauses
use Rattle.query_terms.specs.declared.tree.Content.{Content}
use Rattle.query_terms.specs.declared.tree.Content.TheVariants as contents
use Rattle.query_terms.specs.declared.tree.Expr.{Expr}
use Rattle.query_terms.specs.declared.tree.Expr.TheVariants as exprs
use Rattle.query_terms.specs.declared.tree.Operand.{Operand, roll-Operand}
use Rattle.query_terms.specs.declared.tree.OrderKey.{OrderKey, roll-OrderKey}
use Rattle.query_terms.specs.declared.tree.PathStep.{PathStep, roll-PathStep}
use Rattle.query_terms.specs.declared.tree.QueryTree.{QueryTree}
use Rattle.query_terms.specs.Rule.{Text}
use Rattle.query_terms.specs.Static.{declared_by, declared_in, functions_uri, prolog_bindings, uri_of, uri_or}
use Rattle.query_terms.specs.Folds.{Algebra, attribute_value, clause_value, content_value, expression_value, key_value, operand_value, step_value}

-- ---- names

abbrev pub with_uri : Text → QName → QName
with_uri uri q = record { span = q.span; name = record { uri = uri; prefix = q.name.prefix; local = q.name.local } }

-- without a prefix: of an element, with the default element namespace
unfoldable pub element_name : List Binding → QName → QName
element_name bindings q = with_uri (uri_of bindings q.name.prefix) q

-- of an attribute, a variable or a processing instruction, with no URI
unfoldable pub bare_name : List Binding → QName → QName
bare_name bindings q = with_uri (uri_or [] bindings q.name) q

-- of a function, with the URI of the functions
unfoldable pub function_name : List Binding → QName → QName
function_name bindings q = with_uri (uri_or functions_uri bindings q.name) q

unfoldable pub computed_name : ComputedKind → List Binding → QName → QName
computed_name kinds.Element bindings q = element_name bindings q
computed_name kinds.Attribute bindings q = bare_name bindings q
computed_name kinds.Instruction bindings q = bare_name bindings q

abbrev pub is_attribute_axis : Axis → Bool
is_attribute_axis axes.Attribute = true
is_attribute_axis _ = false

unfoldable pub tested_name : Axis → List Binding → QName → QName
tested_name axis bindings q = if is_attribute_axis axis then bare_name bindings q else element_name bindings q

unfoldable pub resolved_test : Axis → NodeTest → List Binding → NodeTest
resolved_test axis (tests.Element (Some q)) bindings = tests.Element (Some (element_name bindings q))
resolved_test axis (tests.Attribute (Some q)) bindings = tests.Attribute (Some (bare_name bindings q))
resolved_test axis (tests.Namespace q) bindings = tests.Namespace (bare_name bindings q)
resolved_test axis (tests.Name q) bindings = tests.Name (tested_name axis bindings q)
resolved_test axis test bindings = test

unfoldable pub resolved_variable : Variable → List Binding → Variable
resolved_variable v bindings = record { span = v.span; name = bare_name bindings v.name }

-- ---- what walks and calls take

-- of a test whose names have their URIs
unfoldable pub walked_test : NodeTest → Test
walked_test tests.Node = walked.Node
walked_test tests.Text = walked.Text
walked_test tests.Comment = walked.Comment
walked_test tests.Document = walked.Document
walked_test (tests.Instruction None) = walked.Pi None
walked_test (tests.Instruction (Some l)) = walked.Pi (Some l.text)
walked_test (tests.Element None) = walked.Element None None
walked_test (tests.Element (Some q)) = walked.Element (Some q.name.uri) (Some q.name.local)
walked_test (tests.Attribute None) = walked.Attribute None None
walked_test (tests.Attribute (Some q)) = walked.Attribute (Some q.name.uri) (Some q.name.local)
walked_test tests.Any = walked.Principal None None
walked_test (tests.LocalName local) = walked.Principal None (Some local)
walked_test (tests.Namespace q) = walked.Principal (Some q.name.uri) None
walked_test (tests.Name q) = walked.Principal (Some q.name.uri) (Some q.name.local)

abbrev pub axis_step : Span → Axis → NodeTest → Expr
axis_step span axis test = exprs.AxisStep span axis test (Some (walked_test test))

-- of a name with its URI
unfoldable pub called_function : QName → Option Function
called_function q = if bytes_eq q.name.uri functions_uri then function_named q.name.local else None

abbrev pub function_call : Span → QName → List Expr → Expr
function_call span q arguments = exprs.Call span q arguments (called_function q)

-- ---- what parts become where these bindings are in force

abbrev pub Resolution : Type 0 → Type 0
Resolution A = List Binding → A

unfoldable pub each : {A : Type 0} → List (Resolution A) → Resolution (List A)
each [] bindings = []
each (r ∷ more) bindings = r bindings ∷ each more bindings

unfoldable pub perhaps : {A : Type 0} → Option (Resolution A) → Resolution (Option A)
perhaps None bindings = None
perhaps (Some r) bindings = Some (r bindings)

abbrev pub maybe_variable : Option Variable → Resolution (Option Variable)
maybe_variable None bindings = None
maybe_variable (Some v) bindings = Some (resolved_variable v bindings)

pub record ContentResolution : Type 0 where
  pub resolved : Resolution Content
  pub text : Text

pub record AttributeResolution : Type 0 where
  pub declared : List Binding
  pub resolved : Resolution Attribute

abbrev pub scope_of : List Binding → Scope
scope_of bindings = record { bindings = bindings }

abbrev pub declared_there : List AttributeResolution → List Binding
declared_there attributes = declared_in (map (λ (a : AttributeResolution). a.declared) attributes)

unfoldable pub each_attribute : List AttributeResolution → Resolution (List Attribute)
each_attribute [] bindings = []
each_attribute (a ∷ more) bindings = a.resolved bindings ∷ each_attribute more bindings

unfoldable pub each_content : List ContentResolution → Resolution (List Content)
each_content [] bindings = []
each_content (c ∷ more) bindings = c.resolved bindings ∷ each_content more bindings

-- ---- one level of the tree

abbrev pub Level : Type 0
Level = Expr-F (Resolution Clause) ContentResolution (Resolution Expr) AttributeResolution (Resolution Operand) (Resolution OrderKey) (Resolution PathStep)

abbrev pub in_expression : Level → Resolution Expr
in_expression (Expr-F.Comma span first others) b = exprs.Comma span (first b) (each others b)
in_expression (Expr-F.Flwor span clauses condition order result) b = exprs.Flwor span (each clauses b) (perhaps condition b) (each order b) (result b)
in_expression (Expr-F.Quantified span quantifier clauses test) b = exprs.Quantified span quantifier (each clauses b) (test b)
in_expression (Expr-F.If span condition positive negative) b = exprs.If span (condition b) (positive b) (negative b)
in_expression (Expr-F.Insert span source place target) b = exprs.Insert span (source b) place (target b)
in_expression (Expr-F.Delete span target) b = exprs.Delete span (target b)
in_expression (Expr-F.Replace span is_value target source) b = exprs.Replace span is_value (target b) (source b)
in_expression (Expr-F.Rename span target name scope) b = exprs.Rename span (target b) (name b) (scope_of b)
in_expression (Expr-F.Or span first others) b = exprs.Or span (first b) (each others b)
in_expression (Expr-F.And span first others) b = exprs.And span (first b) (each others b)
in_expression (Expr-F.Comparison span comparator left right) b = exprs.Comparison span comparator (left b) (right b)
in_expression (Expr-F.Range span from to) b = exprs.Range span (from b) (to b)
in_expression (Expr-F.Additive span first others) b = exprs.Additive span (first b) (each others b)
in_expression (Expr-F.Multiplicative span first others) b = exprs.Multiplicative span (first b) (each others b)
in_expression (Expr-F.Union span first others) b = exprs.Union span (first b) (each others b)
in_expression (Expr-F.Intersection span first others) b = exprs.Intersection span (first b) (each others b)
in_expression (Expr-F.Unary span is_negative operand) b = exprs.Unary span is_negative (operand b)
in_expression (Expr-F.Root span) b = exprs.Root span
in_expression (Expr-F.Path span start first others) b = exprs.Path span start (first b) (each others b)
in_expression (Expr-F.Filter span head predicates) b = exprs.Filter span (head b) (each predicates b)
in_expression (Expr-F.AxisStep span axis test tested) b = axis_step span axis (resolved_test axis test b)
in_expression (Expr-F.Number span text) b = exprs.Number span text
in_expression (Expr-F.String span literal) b = exprs.String span literal
in_expression (Expr-F.Variable variable) b = exprs.Variable (resolved_variable variable b)
in_expression (Expr-F.Parenthesized span body) b = exprs.Parenthesized span (perhaps body b)
in_expression (Expr-F.ContextItem span) b = exprs.ContextItem span
in_expression (Expr-F.Element span name attributes content) b =
    let inside = b ++ declared_there attributes in
    exprs.Element span (element_name inside name) (each_attribute attributes inside) (each_content content inside)
in_expression (Expr-F.DirectComment span text) b = exprs.DirectComment span text
in_expression (Expr-F.DirectInstruction span target text) b = exprs.DirectInstruction span target text
in_expression (Expr-F.Computed span kind name body) b = exprs.Computed span kind (computed_name kind b name) (perhaps body b)
in_expression (Expr-F.ComputedByValue span kind name scope body) b = exprs.ComputedByValue span kind (name b) (scope_of b) (perhaps body b)
in_expression (Expr-F.ComputedUnnamed span kind body) b = exprs.ComputedUnnamed span kind (body b)
in_expression (Expr-F.Call span name arguments function) b = function_call span (function_name b name) (each arguments b)

abbrev pub in_clause : Clause-F (Resolution Clause) ContentResolution (Resolution Expr) AttributeResolution (Resolution Operand) (Resolution OrderKey) (Resolution PathStep) → Resolution Clause
in_clause (Clause-F.For variable position source) b = clauses.For (resolved_variable variable b) (maybe_variable position b) (source b)
in_clause (Clause-F.Let variable value) b = clauses.Let (resolved_variable variable b) (value b)

abbrev pub in_content : Content-F (Resolution Clause) ContentResolution (Resolution Expr) AttributeResolution (Resolution Operand) (Resolution OrderKey) (Resolution PathStep) → ContentResolution
in_content (Content-F.Characters literal) = record { resolved = λ b. contents.Characters literal; text = literal.text }
in_content (Content-F.Enclosed body) = record { resolved = λ b. contents.Enclosed (body b); text = [] }
in_content (Content-F.Constructor body) = record { resolved = λ b. contents.Constructor (body b); text = [] }

abbrev pub in_attribute : Attribute-F (Resolution Clause) ContentResolution (Resolution Expr) AttributeResolution (Resolution Operand) (Resolution OrderKey) (Resolution PathStep) → AttributeResolution
in_attribute a = record {
  declared = declared_by a.name.name a.written (map (λ (c : ContentResolution). c.text) a.value);
  resolved = λ b. roll-Attribute (record { span = a.span; name = bare_name b a.name; value = each_content a.value b; written = a.written });
}

abbrev pub in_operand : Operand-F (Resolution Clause) ContentResolution (Resolution Expr) AttributeResolution (Resolution Operand) (Resolution OrderKey) (Resolution PathStep) → Resolution Operand
in_operand o b = roll-Operand (record { operator = o.operator; operand = o.operand b })

abbrev pub in_key : OrderKey-F (Resolution Clause) ContentResolution (Resolution Expr) AttributeResolution (Resolution Operand) (Resolution OrderKey) (Resolution PathStep) → Resolution OrderKey
in_key k b = roll-OrderKey (record { key = k.key b; is_descending = k.is_descending; is_empty_greatest = k.is_empty_greatest })

abbrev pub in_step : PathStep-F (Resolution Clause) ContentResolution (Resolution Expr) AttributeResolution (Resolution Operand) (Resolution OrderKey) (Resolution PathStep) → Resolution PathStep
in_step s b = roll-PathStep (record { is_deep = s.is_deep; step = s.step b })

-- ---- whole terms

-- what a term becomes, by its parts
abbrev pub resolving : Algebra (Resolution Clause) ContentResolution (Resolution Expr) AttributeResolution (Resolution Operand) (Resolution OrderKey) (Resolution PathStep)
resolving = record {
  of_clause = in_clause;
  of_content = in_content;
  of_expression = in_expression;
  of_attribute = in_attribute;
  of_operand = in_operand;
  of_key = in_key;
  of_step = in_step;
}

abbrev pub resolved : Expr → Resolution Expr
resolved = expression_value resolving

abbrev pub clause : Clause → Resolution Clause
clause = clause_value resolving

abbrev pub content : Content → ContentResolution
content = content_value resolving

abbrev pub attribute : Attribute → AttributeResolution
attribute = attribute_value resolving

abbrev pub operand : Operand → Resolution Operand
operand = operand_value resolving

abbrev pub key : OrderKey → Resolution OrderKey
key = key_value resolving

abbrev pub step : PathStep → Resolution PathStep
step = step_value resolving

unfoldable pub resolved_query : QueryTree → QueryTree
resolved_query q = record { declarations = q.declarations; body = resolved q.body (prolog_bindings q.declarations) }
