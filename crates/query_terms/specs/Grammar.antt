-- The rules of expressions and of the prolog (XQuery 1.0, appendix A.1; XQuery Update Facility 1.0, appendix A.1). Single and Elem are the rules that nest.
use Rattle.std.specs.Prelude.{ℕ, Bool, true, false, not as not_bool, if◌then◌else◌, List, [], ◌∷◌, ◌++◌, Option, Some, None, codes}
use Rattle.tree_model.specs.XmlChars.{is_inner_name_char}
use Rattle.query_terms.specs.declared.stop.Nest.{Nest}
use Rattle.query_terms.specs.declared.stop.Nest.TheVariants as nests
use Rattle.query_terms.specs.declared.parts.Span.{Span}
use Rattle.query_terms.specs.declared.parts.Variable.{Variable}
use Rattle.query_terms.specs.declared.parts.Place.{Place}
use Rattle.query_terms.specs.declared.parts.Place.TheVariants as places
use Rattle.query_terms.specs.declared.parts.PathStart.{PathStart}
use Rattle.query_terms.specs.declared.parts.PathStart.TheVariants as starts
use Rattle.query_terms.specs.declared.parts.Comparator.{Comparator}
use Rattle.query_terms.specs.declared.parts.Comparator.TheVariants as comparators
use Rattle.query_terms.specs.declared.parts.Operator.{Operator}
use Rattle.query_terms.specs.declared.parts.Operator.TheVariants as operators
use Rattle.query_terms.specs.declared.parts.Quantifier.{Quantifier}
use Rattle.query_terms.specs.declared.parts.Quantifier.TheVariants as quantifiers
use Rattle.query_terms.specs.declared.tree.Expr.{Expr}
use Rattle.query_terms.specs.declared.tree.Expr.TheVariants as exprs
use Rattle.query_terms.specs.declared.tree.Operand.{Operand, roll-Operand}
use Rattle.query_terms.specs.declared.tree.PathStep.{PathStep, roll-PathStep}
use Rattle.query_terms.specs.declared.tree.Clause.{Clause}
use Rattle.query_terms.specs.declared.tree.Clause.TheVariants as bindings
use Rattle.query_terms.specs.declared.tree.OrderKey.{OrderKey, roll-OrderKey}
use Rattle.query_terms.specs.declared.tree.Declaration.{Declaration}
use Rattle.query_terms.specs.declared.tree.Declaration.TheVariants as declarations
use Rattle.query_terms.specs.Rule.{Value, nothing, absent, both, more, flag, place, comparator, operator, quantifier, term, terms, operand, step, steps, clause, clauses, key, keys, variable, declaration, query, Rule, word, any, char, many, opt, not, node, ◌~◌, ◌//◌}
use Rattle.query_terms.specs.Lexis.{left, right, text_of, items_of, literal_of, variable_of, between, giving, single, blanks, keyword, ncname, qname, name_of, variable_rule, number, string_rule}
use Rattle.query_terms.specs.Tests.{axis_step}
use Rattle.query_terms.specs.Markup.{term_of, maybe_term, terms_in, next_single, expr, no_scope, direct, computed, elem_rule}

-- ---- parts of values

abbrev pub is_flagged : Value → Bool
is_flagged (flag b) = b
is_flagged _ = false

abbrev pub terms_of : Value → List Expr
terms_of (terms xs) = xs
terms_of _ = []

abbrev pub place_of : Value → Place
place_of (place p) = p
place_of _ = places.Into

abbrev pub comparator_of : Value → Comparator
comparator_of (comparator c) = c
comparator_of _ = comparators.Equal

abbrev pub operator_of : Value → Operator
operator_of (operator o) = o
operator_of _ = operators.Plus

abbrev pub quantifier_of : Value → Quantifier
quantifier_of (quantifier q) = q
quantifier_of _ = quantifiers.Some

abbrev pub operand_of : Value → List Operand
operand_of (operand o) = o ∷ []
operand_of _ = []

abbrev pub operands_in : Value → List Operand
operands_in (more v w) = operands_in v ++ operand_of w
operands_in _ = []

abbrev pub step_of : Value → List PathStep
step_of (step s) = s ∷ []
step_of _ = []

abbrev pub steps_in : Value → List PathStep
steps_in (more v w) = steps_in v ++ step_of w
steps_in _ = []

abbrev pub steps_of : Value → List PathStep
steps_of (steps xs) = xs
steps_of _ = []

abbrev pub clauses_of : Value → List Clause
clauses_of (clause c) = c ∷ []
clauses_of (clauses xs) = xs
clauses_of _ = []

abbrev pub clauses_in : Value → List Clause
clauses_in (more v w) = clauses_in v ++ clauses_of w
clauses_in _ = []

abbrev pub keys_of : Value → List OrderKey
keys_of (key k) = k ∷ []
keys_of (keys xs) = xs
keys_of _ = []

abbrev pub keys_in : Value → List OrderKey
keys_in (more v w) = keys_in v ++ keys_of w
keys_in _ = []

abbrev pub maybe_variable : Value → Option Variable
maybe_variable (variable x) = Some x
maybe_variable _ = None

-- ---- primary expressions (section 3.1)

abbrev pub a_string : ℕ → ℕ → Value → Value
a_string from to v = term (exprs.String (between from to) (literal_of v))

unfoldable pub string : Rule
string = node a_string string_rule

abbrev pub a_variable_term : ℕ → ℕ → Value → Value
a_variable_term from to v = term (exprs.Variable (variable_of v))

unfoldable pub variable_term : Rule
variable_term = node a_variable_term variable_rule

abbrev pub a_parenthesized : ℕ → ℕ → Value → Value
a_parenthesized from to v = term (exprs.Parenthesized (between from to) (maybe_term v))

unfoldable pub no_items : Rule
no_items = node a_parenthesized (word (codes "(") ~ blanks ~ word (codes ")"))

unfoldable pub parenthesized : Rule
parenthesized = node a_parenthesized (word (codes "(") ~ blanks ~ expr ~ blanks ~ word (codes ")"))

abbrev pub a_context_item : ℕ → ℕ → Value → Value
a_context_item from to v = term (exprs.ContextItem (between from to))

unfoldable pub context_item : Rule
context_item = node a_context_item (word (codes ".") ~ not (word (codes ".")))

unfoldable pub reserved_kind : Rule
reserved_kind = word (codes "attribute") // word (codes "comment") // word (codes "document-node") // word (codes "element") // word (codes "node")
    // word (codes "processing-instruction") // word (codes "text")

unfoldable pub reserved_word : Rule
reserved_word = word (codes "empty-sequence") // word (codes "if") // word (codes "item") // word (codes "schema-attribute") // word (codes "schema-element") // word (codes "typeswitch")

-- the names that no function has
unfoldable pub reserved : Rule
reserved = (reserved_kind // reserved_word) ~ not (char is_inner_name_char)

abbrev pub some_arguments : ℕ → ℕ → Value → Value
some_arguments from to v = terms (term_of (left v) ∷ terms_in (items_of (right v)))

unfoldable pub arguments : Rule
arguments = node some_arguments (single ~ many next_single)

abbrev pub a_call : ℕ → ℕ → Value → Value
a_call from to v = term (exprs.Call (between from to) (name_of (left v)) (terms_of (right v)) None)

unfoldable pub argument_list : Rule
argument_list = blanks ~ word (codes "(") ~ blanks ~ opt arguments ~ blanks ~ word (codes ")")

unfoldable pub function_call : Rule
function_call = node a_call (not reserved ~ qname ~ argument_list)

unfoldable pub primary : Rule
primary = number // string // variable_term // no_items // parenthesized // context_item // direct // computed // function_call

-- ---- paths (section 3.2)

unfoldable pub predicate : Rule
predicate = blanks ~ word (codes "[") ~ blanks ~ expr ~ blanks ~ word (codes "]")

abbrev pub filtered : Span → Expr → List Expr → Expr
filtered span x [] = x
filtered span x (y ∷ ys) = exprs.Filter span x (y ∷ ys)

abbrev pub a_step : ℕ → ℕ → Value → Value
a_step from to v = term (filtered (between from to) (term_of (left v)) (terms_in (items_of (right v))))

unfoldable pub step_head : Rule
step_head = primary // axis_step

unfoldable pub step_rule : Rule
step_rule = node a_step (step_head ~ many predicate)

unfoldable pub slash : Rule
slash = giving (flag true) (word (codes "//")) // giving (flag false) (word (codes "/"))

abbrev pub a_next_step : ℕ → ℕ → Value → Value
a_next_step from to v = step (roll-PathStep (record { is_deep = is_flagged (left v); step = term_of (right v) }))

unfoldable pub next_step : Rule
next_step = node a_next_step (blanks ~ slash ~ blanks ~ step_rule)

abbrev pub all_steps : ℕ → ℕ → Value → Value
all_steps from to v = both (left v) (steps (steps_in (items_of (right v))))

unfoldable pub relative : Rule
relative = node all_steps (step_rule ~ many next_step)

abbrev pub path_of : Span → PathStart → Value → Value
path_of span start v = term (exprs.Path span start (term_of (left v)) (steps_of (right v)))

abbrev pub a_deep_path : ℕ → ℕ → Value → Value
a_deep_path from to v = path_of (between from to) starts.BelowRoot v

unfoldable pub deep_path : Rule
deep_path = node a_deep_path (word (codes "//") ~ blanks ~ relative)

unfoldable pub below_root : Rule
below_root = blanks ~ relative

abbrev pub rooted_as : Span → Value → Value
rooted_as span absent = term (exprs.Root span)
rooted_as span v = path_of span starts.Root v

abbrev pub a_rooted_path : ℕ → ℕ → Value → Value
a_rooted_path from to v = rooted_as (between from to) v

unfoldable pub rooted_path : Rule
rooted_path = node a_rooted_path (word (codes "/") ~ opt below_root)

-- one step is itself
abbrev pub relative_as : Span → Expr → List PathStep → Expr
relative_as span x [] = x
relative_as span x (y ∷ ys) = exprs.Path span starts.Context x (y ∷ ys)

abbrev pub a_relative_path : ℕ → ℕ → Value → Value
a_relative_path from to v = term (relative_as (between from to) (term_of (left v)) (steps_of (right v)))

unfoldable pub relative_path : Rule
relative_path = node a_relative_path relative

unfoldable pub path : Rule
path = deep_path // rooted_path // relative_path

-- ---- operators (sections 3.3 to 3.6), from the one that binds most tightly

unfoldable pub sign : Rule
sign = (giving (flag false) (word (codes "+")) // giving (flag true) (word (codes "-"))) ~ blanks

-- whether the last sign is a minus that turns the sign of those in front, or a plus that leaves it
abbrev pub turned : Option Bool → Bool → Bool
turned None is_minus = is_minus
turned (Some is_negative) is_minus = if is_minus then not_bool is_negative else is_negative

-- whether an odd number of signs is minus, where there is a sign
abbrev pub signs_in : Value → Option Bool
signs_in (more v w) = Some (turned (signs_in v) (is_flagged w))
signs_in _ = None

abbrev pub signed : Span → Option Bool → Expr → Expr
signed span (Some is_negative) x = exprs.Unary span is_negative x
signed span None x = x

abbrev pub a_unary : ℕ → ℕ → Value → Value
a_unary from to v = term (signed (between from to) (signs_in (items_of (left v))) (term_of (right v)))

unfoldable pub unary : Rule
unary = node a_unary (many sign ~ path)

abbrev pub an_operand : ℕ → ℕ → Value → Value
an_operand from to v = operand (roll-Operand (record { operator = operator_of (left v); operand = term_of (right v) }))

unfoldable pub set_operator : Rule
set_operator = giving (operator operators.Intersect) (keyword (codes "intersect")) // giving (operator operators.Except) (keyword (codes "except"))

unfoldable pub next_unary : Rule
next_unary = node an_operand (blanks ~ set_operator ~ blanks ~ unary)

-- an operand alone is itself
abbrev pub intersection_of : Span → Expr → List Operand → Expr
intersection_of span x [] = x
intersection_of span x (y ∷ ys) = exprs.Intersection span x (y ∷ ys)

abbrev pub an_intersection : ℕ → ℕ → Value → Value
an_intersection from to v = term (intersection_of (between from to) (term_of (left v)) (operands_in (items_of (right v))))

unfoldable pub intersection : Rule
intersection = node an_intersection (unary ~ many next_unary)

unfoldable pub union_operator : Rule
union_operator = word (codes "|") // keyword (codes "union")

unfoldable pub next_intersection : Rule
next_intersection = blanks ~ union_operator ~ blanks ~ intersection

abbrev pub union_of : Span → Expr → List Expr → Expr
union_of span x [] = x
union_of span x (y ∷ ys) = exprs.Union span x (y ∷ ys)

abbrev pub a_union : ℕ → ℕ → Value → Value
a_union from to v = term (union_of (between from to) (term_of (left v)) (terms_in (items_of (right v))))

unfoldable pub union : Rule
union = node a_union (intersection ~ many next_intersection)

unfoldable pub multiplicative_operator : Rule
multiplicative_operator = giving (operator operators.Times) (word (codes "*")) // giving (operator operators.Divide) (keyword (codes "div"))
    // giving (operator operators.DivideWhole) (keyword (codes "idiv")) // giving (operator operators.Modulo) (keyword (codes "mod"))

unfoldable pub next_union : Rule
next_union = node an_operand (blanks ~ multiplicative_operator ~ blanks ~ union)

abbrev pub multiplicative_of : Span → Expr → List Operand → Expr
multiplicative_of span x [] = x
multiplicative_of span x (y ∷ ys) = exprs.Multiplicative span x (y ∷ ys)

abbrev pub a_multiplicative : ℕ → ℕ → Value → Value
a_multiplicative from to v = term (multiplicative_of (between from to) (term_of (left v)) (operands_in (items_of (right v))))

unfoldable pub multiplicative : Rule
multiplicative = node a_multiplicative (union ~ many next_union)

unfoldable pub additive_operator : Rule
additive_operator = giving (operator operators.Plus) (word (codes "+")) // giving (operator operators.Minus) (word (codes "-"))

unfoldable pub next_multiplicative : Rule
next_multiplicative = node an_operand (blanks ~ additive_operator ~ blanks ~ multiplicative)

abbrev pub additive_of : Span → Expr → List Operand → Expr
additive_of span x [] = x
additive_of span x (y ∷ ys) = exprs.Additive span x (y ∷ ys)

abbrev pub an_additive : ℕ → ℕ → Value → Value
an_additive from to v = term (additive_of (between from to) (term_of (left v)) (operands_in (items_of (right v))))

unfoldable pub additive : Rule
additive = node an_additive (multiplicative ~ many next_multiplicative)

unfoldable pub range_end : Rule
range_end = blanks ~ keyword (codes "to") ~ additive

abbrev pub range_of : Span → Expr → Value → Expr
range_of span x (term y) = exprs.Range span x y
range_of span x _ = x

abbrev pub a_range : ℕ → ℕ → Value → Value
a_range from to v = term (range_of (between from to) (term_of (left v)) (right v))

unfoldable pub range : Rule
range = node a_range (additive ~ opt range_end)

unfoldable pub general_comparator : Rule
general_comparator = giving (comparator comparators.NotEqual) (word (codes "!=")) // giving (comparator comparators.Precedes) (word (codes "<<"))
    // giving (comparator comparators.LessOrEqual) (word (codes "<=")) // giving (comparator comparators.Less) (word (codes "<"))
    // giving (comparator comparators.Follows) (word (codes ">>")) // giving (comparator comparators.GreaterOrEqual) (word (codes ">="))
    // giving (comparator comparators.Greater) (word (codes ">")) // giving (comparator comparators.Equal) (word (codes "="))

unfoldable pub value_comparator : Rule
value_comparator = giving (comparator comparators.ValueEqual) (keyword (codes "eq")) // giving (comparator comparators.ValueNotEqual) (keyword (codes "ne"))
    // giving (comparator comparators.ValueLess) (keyword (codes "lt")) // giving (comparator comparators.ValueLessOrEqual) (keyword (codes "le"))
    // giving (comparator comparators.ValueGreater) (keyword (codes "gt")) // giving (comparator comparators.ValueGreaterOrEqual) (keyword (codes "ge"))
    // giving (comparator comparators.Is) (keyword (codes "is"))

unfoldable pub comparator_rule : Rule
comparator_rule = general_comparator // value_comparator

unfoldable pub compared : Rule
compared = blanks ~ comparator_rule ~ blanks ~ range

abbrev pub comparison_of : Span → Expr → Value → Expr
comparison_of span x (both (comparator c) (term y)) = exprs.Comparison span c x y
comparison_of span x _ = x

abbrev pub a_comparison : ℕ → ℕ → Value → Value
a_comparison from to v = term (comparison_of (between from to) (term_of (left v)) (right v))

unfoldable pub comparison : Rule
comparison = node a_comparison (range ~ opt compared)

unfoldable pub next_comparison : Rule
next_comparison = blanks ~ keyword (codes "and") ~ comparison

abbrev pub and_of : Span → Expr → List Expr → Expr
and_of span x [] = x
and_of span x (y ∷ ys) = exprs.And span x (y ∷ ys)

abbrev pub an_and : ℕ → ℕ → Value → Value
an_and from to v = term (and_of (between from to) (term_of (left v)) (terms_in (items_of (right v))))

unfoldable pub and_rule : Rule
and_rule = node an_and (comparison ~ many next_comparison)

unfoldable pub next_and : Rule
next_and = blanks ~ keyword (codes "or") ~ and_rule

abbrev pub or_of : Span → Expr → List Expr → Expr
or_of span x [] = x
or_of span x (y ∷ ys) = exprs.Or span x (y ∷ ys)

abbrev pub an_or : ℕ → ℕ → Value → Value
an_or from to v = term (or_of (between from to) (term_of (left v)) (terms_in (items_of (right v))))

unfoldable pub or_rule : Rule
or_rule = node an_or (and_rule ~ many next_and)

-- ---- FLWOR expressions (section 3.8)

unfoldable pub position_variable : Rule
position_variable = blanks ~ keyword (codes "at") ~ variable_rule

abbrev pub a_for : ℕ → ℕ → Value → Value
a_for from to v = clause (bindings.For (variable_of (left v)) (maybe_variable (left (right v))) (term_of (right (right v))))

unfoldable pub bound_items : Rule
bound_items = blanks ~ keyword (codes "in") ~ single

unfoldable pub for_variable : Rule
for_variable = node a_for (variable_rule ~ opt position_variable ~ bound_items)

unfoldable pub next_for_variable : Rule
next_for_variable = blanks ~ word (codes ",") ~ blanks ~ for_variable

abbrev pub all_clauses : ℕ → ℕ → Value → Value
all_clauses from to v = clauses (clauses_of (left v) ++ clauses_in (items_of (right v)))

unfoldable pub for_clause : Rule
for_clause = node all_clauses (keyword (codes "for") ~ for_variable ~ many next_for_variable)

abbrev pub a_let : ℕ → ℕ → Value → Value
a_let from to v = clause (bindings.Let (variable_of (left v)) (term_of (right v)))

unfoldable pub let_variable : Rule
let_variable = node a_let (variable_rule ~ blanks ~ word (codes ":=") ~ blanks ~ single)

unfoldable pub next_let_variable : Rule
next_let_variable = blanks ~ word (codes ",") ~ blanks ~ let_variable

unfoldable pub let_clause : Rule
let_clause = node all_clauses (keyword (codes "let") ~ let_variable ~ many next_let_variable)

unfoldable pub binding_clause : Rule
binding_clause = (for_clause // let_clause) ~ blanks

unfoldable pub binding_clauses : Rule
binding_clauses = node all_clauses (binding_clause ~ many binding_clause)

unfoldable pub where_clause : Rule
where_clause = keyword (codes "where") ~ single ~ blanks

unfoldable pub direction : Rule
direction = blanks ~ (giving (flag false) (keyword (codes "ascending")) // giving (flag true) (keyword (codes "descending")))

unfoldable pub empty_order : Rule
empty_order = blanks ~ keyword (codes "empty") ~ (giving (flag true) (keyword (codes "greatest")) // giving (flag false) (keyword (codes "least")))

abbrev pub an_order_key : ℕ → ℕ → Value → Value
an_order_key from to v =
    key (roll-OrderKey (record { key = term_of (left v); is_descending = is_flagged (left (right v)); is_empty_greatest = is_flagged (right (right v)) }))

unfoldable pub order_key : Rule
order_key = node an_order_key (single ~ opt direction ~ opt empty_order)

unfoldable pub next_order_key : Rule
next_order_key = blanks ~ word (codes ",") ~ blanks ~ order_key

abbrev pub all_keys : ℕ → ℕ → Value → Value
all_keys from to v = keys (keys_of (left v) ++ keys_in (items_of (right v)))

unfoldable pub stable : Rule
stable = node (λ from to v. nothing) (opt (keyword (codes "stable")))

unfoldable pub order_by : Rule
order_by = node all_keys (stable ~ keyword (codes "order") ~ keyword (codes "by") ~ order_key ~ many next_order_key)

unfoldable pub order_clause : Rule
order_clause = order_by ~ blanks

abbrev pub a_flwor : ℕ → ℕ → Value → Value
a_flwor from to v =
    term (exprs.Flwor (between from to) (clauses_of (left v)) (maybe_term (left (right v))) (keys_of (left (right (right v)))) (term_of (right (right (right v)))))

unfoldable pub returned : Rule
returned = keyword (codes "return") ~ single

unfoldable pub flwor : Rule
flwor = node a_flwor (binding_clauses ~ opt where_clause ~ opt order_clause ~ returned)

-- ---- quantified and conditional expressions (sections 3.10 and 3.11)

unfoldable pub quantifier_rule : Rule
quantifier_rule = giving (quantifier quantifiers.Some) (keyword (codes "some")) // giving (quantifier quantifiers.Every) (keyword (codes "every"))

abbrev pub a_quantified_variable : ℕ → ℕ → Value → Value
a_quantified_variable from to v = clause (bindings.For (variable_of (left v)) None (term_of (right v)))

unfoldable pub quantified_variable : Rule
quantified_variable = node a_quantified_variable (variable_rule ~ bound_items)

unfoldable pub next_quantified_variable : Rule
next_quantified_variable = blanks ~ word (codes ",") ~ blanks ~ quantified_variable

unfoldable pub quantified_variables : Rule
quantified_variables = node all_clauses (quantified_variable ~ many next_quantified_variable)

abbrev pub a_quantified : ℕ → ℕ → Value → Value
a_quantified from to v = term (exprs.Quantified (between from to) (quantifier_of (left v)) (clauses_of (left (right v))) (term_of (right (right v))))

unfoldable pub satisfied : Rule
satisfied = blanks ~ keyword (codes "satisfies") ~ single

unfoldable pub quantified : Rule
quantified = node a_quantified (quantifier_rule ~ quantified_variables ~ satisfied)

abbrev pub an_if : ℕ → ℕ → Value → Value
an_if from to v = term (exprs.If (between from to) (term_of (left v)) (term_of (left (right v))) (term_of (right (right v))))

unfoldable pub condition : Rule
condition = word (codes "(") ~ blanks ~ expr ~ blanks ~ word (codes ")")

unfoldable pub then_branch : Rule
then_branch = blanks ~ keyword (codes "then") ~ single

unfoldable pub else_branch : Rule
else_branch = blanks ~ keyword (codes "else") ~ single

unfoldable pub branches : Rule
branches = then_branch ~ else_branch

unfoldable pub if_rule : Rule
if_rule = node an_if (keyword (codes "if") ~ condition ~ branches)

-- ---- updating expressions (XQuery Update Facility 1.0, section 2.4)

unfoldable pub nodes_word : Rule
nodes_word = keyword (codes "nodes") // keyword (codes "node")

unfoldable pub end_of_target : Rule
end_of_target = keyword (codes "as") ~ (giving (place places.AsFirst) (keyword (codes "first")) // giving (place places.AsLast) (keyword (codes "last")))

abbrev pub an_into : ℕ → ℕ → Value → Value
an_into from to v = place (place_of v)

unfoldable pub into_place : Rule
into_place = node an_into (opt end_of_target ~ keyword (codes "into"))

unfoldable pub place_rule : Rule
place_rule = into_place // giving (place places.Before) (keyword (codes "before")) // giving (place places.After) (keyword (codes "after"))

abbrev pub an_insert : ℕ → ℕ → Value → Value
an_insert from to v = term (exprs.Insert (between from to) (term_of (left v)) (place_of (left (right v))) (term_of (right (right v))))

unfoldable pub insertion_place : Rule
insertion_place = blanks ~ place_rule

unfoldable pub insert : Rule
insert = node an_insert (keyword (codes "insert") ~ nodes_word ~ single ~ insertion_place ~ single)

abbrev pub a_delete : ℕ → ℕ → Value → Value
a_delete from to v = term (exprs.Delete (between from to) (term_of v))

unfoldable pub delete : Rule
delete = node a_delete (keyword (codes "delete") ~ nodes_word ~ single)

unfoldable pub value_of : Rule
value_of = giving (flag true) (keyword (codes "value") ~ keyword (codes "of"))

abbrev pub a_replace : ℕ → ℕ → Value → Value
a_replace from to v = term (exprs.Replace (between from to) (is_flagged (left v)) (term_of (left (right v))) (term_of (right (right v))))

unfoldable pub replacement : Rule
replacement = blanks ~ keyword (codes "with") ~ single

unfoldable pub replace : Rule
replace = node a_replace (keyword (codes "replace") ~ opt value_of ~ keyword (codes "node") ~ single ~ replacement)

abbrev pub a_rename : ℕ → ℕ → Value → Value
a_rename from to v = term (exprs.Rename (between from to) (term_of (left v)) (term_of (right v)) no_scope)

unfoldable pub new_name : Rule
new_name = blanks ~ keyword (codes "as") ~ single

unfoldable pub rename : Rule
rename = node a_rename (keyword (codes "rename") ~ keyword (codes "node") ~ single ~ new_name)

-- ---- what nests, and queries

unfoldable pub single_rule : Rule
single_rule = flwor // quantified // if_rule // insert // delete // replace // rename // or_rule

unfoldable pub rule_of : Nest → Rule
rule_of nests.Single = single_rule
rule_of nests.Elem = elem_rule

abbrev pub a_namespace_declaration : ℕ → ℕ → Value → Value
a_namespace_declaration from to v = declaration (declarations.Namespace (between from to) (text_of (left v)) (literal_of (right v)))

unfoldable pub declared_uri : Rule
declared_uri = blanks ~ word (codes "=") ~ blanks ~ string_rule

unfoldable pub namespace_declaration : Rule
namespace_declaration = node a_namespace_declaration (keyword (codes "declare") ~ keyword (codes "namespace") ~ ncname ~ declared_uri)

abbrev pub a_default_declaration : ℕ → ℕ → Value → Value
a_default_declaration from to v = declaration (declarations.DefaultElement (between from to) (literal_of v))

unfoldable pub default_declaration : Rule
default_declaration = node a_default_declaration (keyword (codes "declare") ~ keyword (codes "default") ~ keyword (codes "element") ~ keyword (codes "namespace") ~ string_rule)

unfoldable pub declaration_rule : Rule
declaration_rule = (namespace_declaration // default_declaration) ~ blanks ~ word (codes ";") ~ blanks

abbrev pub declaration_of : Value → List Declaration
declaration_of (declaration d) = d ∷ []
declaration_of _ = []

abbrev pub declarations_in : Value → List Declaration
declarations_in (more v w) = declarations_in v ++ declaration_of w
declarations_in _ = []

abbrev pub a_query : ℕ → ℕ → Value → Value
a_query from to v = query (record { declarations = declarations_in (items_of (left v)); body = term_of (right v) })

unfoldable pub query_rule : Rule
query_rule = node a_query (blanks ~ many declaration_rule ~ expr ~ blanks ~ not any)
