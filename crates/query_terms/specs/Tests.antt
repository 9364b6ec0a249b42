-- Node tests and axis steps (XQuery 1.0, section 3.2.1).
use Rattle.std.specs.Prelude.{ℕ, [], Option, Some, None, codes}
use Rattle.tree_model.specs.declared.axis.Axis.{Axis}
use Rattle.tree_model.specs.declared.axis.Axis.TheVariants as axes
use Rattle.query_terms.specs.declared.parts.QName.{QName}
use Rattle.query_terms.specs.declared.parts.Literal.{Literal}
use Rattle.query_terms.specs.declared.parts.NodeTest.{NodeTest}
use Rattle.query_terms.specs.declared.parts.NodeTest.TheVariants as tests
use Rattle.query_terms.specs.declared.tree.Expr.TheVariants as exprs
use Rattle.query_terms.specs.Rule.{Value, absent, literal, name, axis, test, term, Rule, word, opt, node, ◌~◌, ◌//◌}
use Rattle.query_terms.specs.Lexis.{left, right, text_of, name_of, between, giving, blanks, ncname, qname, a_name, string_rule}

-- ---- parts of values

abbrev pub axis_of : Value → Axis
axis_of (axis a) = a
axis_of _ = axes.Slf

abbrev pub test_of : Value → NodeTest
test_of (test t) = t
test_of _ = tests.Node

abbrev pub maybe_name : Value → Option QName
maybe_name (name q) = Some q
maybe_name _ = None

abbrev pub maybe_literal : Value → Option Literal
maybe_literal (literal l) = Some l
maybe_literal _ = None

-- ---- node tests

abbrev pub an_element_test : ℕ → ℕ → Value → Value
an_element_test from to v = test (tests.Element (maybe_name v))

abbrev pub an_attribute_test : ℕ → ℕ → Value → Value
an_attribute_test from to v = test (tests.Attribute (maybe_name v))

abbrev pub an_instruction_test : ℕ → ℕ → Value → Value
an_instruction_test from to v = test (tests.Instruction (maybe_literal v))

abbrev pub a_local_name : ℕ → ℕ → Value → Value
a_local_name from to v = test (tests.LocalName (text_of v))

-- the prefix as a name whose local part is empty
abbrev pub a_namespace : ℕ → ℕ → Value → Value
a_namespace from to v = a_name from to (text_of v) []

abbrev pub a_namespace_test : ℕ → ℕ → Value → Value
a_namespace_test from to v = test (tests.Namespace (name_of v))

abbrev pub a_name_test : ℕ → ℕ → Value → Value
a_name_test from to v = test (tests.Name (name_of v))

unfoldable pub bare_kind_name : Rule
bare_kind_name = giving (test tests.Node) (word (codes "node")) // giving (test tests.Text) (word (codes "text"))
    // giving (test tests.Comment) (word (codes "comment")) // giving (test tests.Document) (word (codes "document-node"))

unfoldable pub bare_kind : Rule
bare_kind = bare_kind_name ~ blanks ~ word (codes "(") ~ blanks ~ word (codes ")")

-- a name stands for the target that it spells
abbrev pub a_target : ℕ → ℕ → Value → Value
a_target from to v = literal (record { text = text_of v; bad_reference = None })

unfoldable pub target : Rule
target = node a_target ncname // string_rule

-- the target in the parentheses of a test for processing instructions
unfoldable pub target_in_parentheses : Rule
target_in_parentheses = blanks ~ word (codes "(") ~ blanks ~ opt target ~ blanks ~ word (codes ")")

unfoldable pub instruction_kind : Rule
instruction_kind = node an_instruction_test (word (codes "processing-instruction") ~ target_in_parentheses)

unfoldable pub name_or_all : Rule
name_or_all = qname // giving absent (word (codes "*"))

-- the name in the parentheses of a test for elements or attributes
unfoldable pub name_in_parentheses : Rule
name_in_parentheses = blanks ~ word (codes "(") ~ blanks ~ opt name_or_all ~ blanks ~ word (codes ")")

unfoldable pub element_kind : Rule
element_kind = node an_element_test (word (codes "element") ~ name_in_parentheses)

unfoldable pub attribute_kind : Rule
attribute_kind = node an_attribute_test (word (codes "attribute") ~ name_in_parentheses)

unfoldable pub kind_test : Rule
kind_test = bare_kind // instruction_kind // element_kind // attribute_kind

unfoldable pub local_name_test : Rule
local_name_test = node a_local_name (word (codes "*:") ~ ncname)

unfoldable pub namespace_test : Rule
namespace_test = node a_namespace_test (node a_namespace (ncname ~ word (codes ":*")))

unfoldable pub name_test : Rule
name_test = local_name_test // giving (test tests.Any) (word (codes "*")) // namespace_test // node a_name_test qname

unfoldable pub node_test : Rule
node_test = kind_test // name_test

-- ---- steps

unfoldable pub downward_axis : Rule
downward_axis = giving (axis axes.Child) (word (codes "child"))
    // giving (axis axes.DescendantOrSelf) (word (codes "descendant-or-self")) // giving (axis axes.Descendant) (word (codes "descendant"))

unfoldable pub near_axis : Rule
near_axis = giving (axis axes.Attribute) (word (codes "attribute")) // giving (axis axes.Slf) (word (codes "self"))

unfoldable pub following_axis : Rule
following_axis = giving (axis axes.FollowingSibling) (word (codes "following-sibling")) // giving (axis axes.Following) (word (codes "following"))

unfoldable pub reverse_axis : Rule
reverse_axis = giving (axis axes.Parent) (word (codes "parent"))
    // giving (axis axes.AncestorOrSelf) (word (codes "ancestor-or-self")) // giving (axis axes.Ancestor) (word (codes "ancestor"))
    // giving (axis axes.PrecedingSibling) (word (codes "preceding-sibling")) // giving (axis axes.Preceding) (word (codes "preceding"))

-- an axis whose name begins another's stands behind it, so the longest that fits is read
unfoldable pub axis_name : Rule
axis_name = downward_axis // near_axis // following_axis // reverse_axis

abbrev pub step_on : Axis → NodeTest → ℕ → ℕ → Value
step_on a t from to = term (exprs.AxisStep (between from to) a t None)

-- the axis of a test that stands alone
abbrev pub default_axis : NodeTest → Axis
default_axis (tests.Attribute q) = axes.Attribute
default_axis _ = axes.Child

abbrev pub a_parent_step : ℕ → ℕ → Value → Value
a_parent_step from to v = step_on axes.Parent tests.Node from to

abbrev pub a_full_step : ℕ → ℕ → Value → Value
a_full_step from to v = step_on (axis_of (left v)) (test_of (right v)) from to

abbrev pub an_attribute_step : ℕ → ℕ → Value → Value
an_attribute_step from to v = step_on axes.Attribute (test_of v) from to

abbrev pub a_bare_step : ℕ → ℕ → Value → Value
a_bare_step from to v = step_on (default_axis (test_of v)) (test_of v) from to

unfoldable pub parent_step : Rule
parent_step = node a_parent_step (word (codes ".."))

unfoldable pub full_step : Rule
full_step = node a_full_step (axis_name ~ blanks ~ word (codes "::") ~ blanks ~ node_test)

unfoldable pub attribute_step : Rule
attribute_step = node an_attribute_step (word (codes "@") ~ blanks ~ node_test)

unfoldable pub bare_step : Rule
bare_step = node a_bare_step node_test

unfoldable pub axis_step : Rule
axis_step = parent_step // full_step // attribute_step // bare_step
