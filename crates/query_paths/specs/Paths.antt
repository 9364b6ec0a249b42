-- Queries that are paths of axis steps (XQuery 1.0, section 3.2), as the steps from the documents.
use Rattle.std.specs.Prelude.{Bool, true, false, if◌then◌else◌, List, [], ◌∷◌, ◌++◌, option_map, Option, Some, None}
use Rattle.std.specs.List.{fold}
use Rattle.tree_model.specs.Sound.{is_empty}
use Rattle.tree_model.specs.declared.axis.Axis.TheVariants as axes
use Rattle.tree_model.specs.declared.axis.Test.{Test}
use Rattle.tree_model.specs.declared.axis.Test.TheVariants as stored
use Rattle.tree_model.specs.declared.axis.AxisStep.{AxisStep}
use Rattle.query_terms.specs.declared.parts.QName.{QName}
use Rattle.query_terms.specs.declared.parts.Literal.{Literal}
use Rattle.query_terms.specs.declared.parts.NodeTest.{NodeTest}
use Rattle.query_terms.specs.declared.parts.NodeTest.TheVariants as tests
use Rattle.query_terms.specs.declared.parts.PathStart.{PathStart}
use Rattle.query_terms.specs.declared.parts.PathStart.TheVariants as starts
use Rattle.query_terms.specs.declared.tree.Expr.{Expr}
use Rattle.query_terms.specs.declared.tree.Clause.TheOpen.{Expr-F}
use Rattle.query_terms.specs.declared.tree.Clause.TheViews.{out-Expr}
use Rattle.query_terms.specs.declared.tree.Clause.{Clause}
use Rattle.query_terms.specs.declared.tree.Content.{Content}
use Rattle.query_terms.specs.declared.tree.Attribute.{Attribute}
use Rattle.query_terms.specs.declared.tree.Operand.{Operand}
use Rattle.query_terms.specs.declared.tree.OrderKey.{OrderKey}
use Rattle.query_terms.specs.declared.tree.PathStep.{PathStep, out-PathStep}
use Rattle.query_terms.specs.declared.tree.Declaration.{Declaration}
use Rattle.query_terms.specs.declared.tree.QueryTree.{QueryTree}
use Rattle.query_terms.specs.Rule.{Text}

-- ---- steps

-- the local part of a name without a prefix
abbrev pub plain_name : QName → Option Text
plain_name q = if is_empty q.name.prefix then Some q.name.local else None

abbrev pub spelled : Option Literal → Option Text
spelled l = option_map (λ (x : Literal). x.text) l

abbrev pub element_named : Text → Test
element_named local = stored.Element (Some []) (Some local)

abbrev pub attribute_named : Text → Test
attribute_named local = stored.Attribute (Some []) (Some local)

abbrev pub principal_named : Text → Test
principal_named local = stored.Principal (Some []) (Some local)

-- a test without a prefix
unfoldable pub test_of : NodeTest → Option Test
test_of tests.Node = Some stored.Node
test_of tests.Text = Some stored.Text
test_of tests.Comment = Some stored.Comment
test_of tests.Document = Some stored.Document
test_of (tests.Instruction target) = Some (stored.Pi (spelled target))
test_of (tests.Element None) = Some (stored.Element None None)
test_of (tests.Element (Some q)) = option_map element_named (plain_name q)
test_of (tests.Attribute None) = Some (stored.Attribute None None)
test_of (tests.Attribute (Some q)) = option_map attribute_named (plain_name q)
test_of tests.Any = Some (stored.Principal None None)
test_of (tests.LocalName local) = Some (stored.Principal None (Some local))
test_of (tests.Namespace q) = None
test_of (tests.Name q) = option_map principal_named (plain_name q)

-- a step without predicates, by what the term is made of
abbrev pub step_by : Expr-F Clause Content Expr Attribute Operand OrderKey PathStep → Option AxisStep
step_by (Expr-F.AxisStep span axis test tested) = option_map (λ (t : Test). record { axis = axis; test = t }) (test_of test)
step_by _ = None

unfoldable pub step_of : Expr → Option AxisStep
step_of e = step_by (out-Expr e)

-- ---- paths

-- the step that // stands for
abbrev pub deep : AxisStep
deep = record { axis = axes.DescendantOrSelf; test = stored.Node }

abbrev pub led : Bool → List AxisStep → List AxisStep
led is_deep found = if is_deep then found ++ deep ∷ [] else found

abbrev pub with_step : Bool → List AxisStep → Option AxisStep → Option (List AxisStep)
with_step is_deep found None = None
with_step is_deep found (Some s) = Some (led is_deep found ++ s ∷ [])

abbrev pub behind : Option (List AxisStep) → PathStep → Option (List AxisStep)
behind None s = None
behind (Some found) s = with_step ((out-PathStep s).is_deep) found (step_of ((out-PathStep s).step))

abbrev pub is_below : PathStart → Bool
is_below starts.BelowRoot = true
is_below _ = false

-- by what the term is made of
abbrev pub steps_by : Expr → Expr-F Clause Content Expr Attribute Operand OrderKey PathStep → Option (List AxisStep)
steps_by body (Expr-F.Root span) = Some []
steps_by body (Expr-F.Path span start first others) = fold behind (with_step (is_below start) [] (step_of first)) others
steps_by body _ = with_step false [] (step_of body)

unfoldable pub steps_of : Expr → Option (List AxisStep)
steps_of body = steps_by body (out-Expr body)

abbrev pub undeclared : List Declaration → Option (List AxisStep) → Option (List AxisStep)
undeclared [] found = found
undeclared (d ∷ more) found = None

-- the steps of a query that is such a path
unfoldable pub path_in : QueryTree → Option (List AxisStep)
path_in q = undeclared q.declarations (steps_of q.body)
