-- The static faults of a query (XQuery 1.0, sections 2.2.3.1, 3.1 and 4): all of them, and which is the first.
use Rattle.std.specs.Prelude.{ℕ, Bool, true, false, not, ◌&&◌, ◌||◌, ◌==◌, nat_lt, if◌then◌else◌, List, [], ◌∷◌, ◌++◌, length, map, Option, Some, None, codes}
use Rattle.std.specs.List.{concat, fold, list_any}
use Rattle.std.specs.Str.{bytes_eq}
use Rattle.tree_model.specs.Functions.{function_named, takes}
use Rattle.tree_model.specs.QueryCodes.{QueryCode, XPST0008, XPST0017, XPST0081, XQST0033, XQST0066, XQST0070, XQST0089, XQST0090, FORG0001, FOAR0002}
use Rattle.tree_model.specs.declared.function.Function.{Function}
use Rattle.tree_model.specs.Numbers.{Numeral, number, no_number, too_great, numeral}
use Rattle.tree_model.specs.Sound.{is_empty}
use Rattle.tree_model.specs.declared.text.Name.{Name}
use Rattle.query_terms.specs.declared.parts.Span.{Span}
use Rattle.query_terms.specs.declared.parts.QName.{QName}
use Rattle.query_terms.specs.declared.parts.Literal.{Literal}
use Rattle.query_terms.specs.declared.parts.Variable.{Variable}
use Rattle.query_terms.specs.declared.parts.Binding.{Binding}
use Rattle.query_terms.specs.declared.parts.NodeTest.{NodeTest}
use Rattle.query_terms.specs.declared.parts.NodeTest.TheVariants as tests
use Rattle.query_terms.specs.declared.tree.Clause.TheOpen.{Attribute-F, Clause-F, Content-F, Expr-F, Operand-F, OrderKey-F, PathStep-F}
use Rattle.query_terms.specs.declared.tree.Attribute.{Attribute}
use Rattle.query_terms.specs.declared.tree.Clause.{Clause}
use Rattle.query_terms.specs.declared.tree.Content.{Content}
use Rattle.query_terms.specs.declared.tree.Declaration.{Declaration}
use Rattle.query_terms.specs.declared.tree.Declaration.TheVariants as declarations
use Rattle.query_terms.specs.declared.tree.Expr.{Expr}
use Rattle.query_terms.specs.declared.tree.Operand.{Operand}
use Rattle.query_terms.specs.declared.tree.OrderKey.{OrderKey}
use Rattle.query_terms.specs.declared.tree.PathStep.{PathStep}
use Rattle.query_terms.specs.declared.tree.QueryTree.{QueryTree}
use Rattle.query_terms.specs.Rule.{Text}
use Rattle.query_terms.specs.Folds.{Algebra, attribute_value, clause_value, content_value, expression_value, key_value, operand_value, step_value}

-- ---- faults

-- a code, with the byte of the query where the term begins that is at fault, and the number of the rule that it breaks:
-- 1 for declarations of the prolog, 2 for references to characters, 3 for numbers, 5 for prefixes, 6 for variables, 7 for calls
pub record Fault : Type 0 where
  pub place : ℕ
  pub rule : ℕ
  pub code : QueryCode

abbrev pub fault : ℕ → ℕ → QueryCode → Fault
fault place rule code = record { place = place; rule = rule; code = code }

abbrev pub fault_if : Bool → Fault → List Fault
fault_if is_broken f = if is_broken then f ∷ [] else []

-- by place, and at one place by rule
abbrev pub is_before : Fault → Fault → Bool
is_before f g = nat_lt f.place g.place || f.place == g.place && nat_lt f.rule g.rule

-- of two that stand alike the earlier one in the list
abbrev pub lesser : Option Fault → Fault → Option Fault
lesser None f = Some f
lesser (Some e) f = if is_before f e then Some f else Some e

abbrev pub least_of : Option Fault → List Fault → Option Fault
least_of = fold lesser

-- ---- names

-- what a prefix is bound to by the last of its bindings, which may take it away
unfoldable pub bound_behind : Option Text → List Binding → Text → Option Text
bound_behind found [] prefix = found
bound_behind found (b ∷ more) prefix = bound_behind (if bytes_eq b.prefix prefix then b.uri else found) more prefix

abbrev pub bound_to : List Binding → Text → Option Text
bound_to bindings prefix = bound_behind None bindings prefix

abbrev pub or_empty : Option Text → Text
or_empty None = []
or_empty (Some uri) = uri

-- the URI of a prefix, empty where it is unbound
abbrev pub uri_of : List Binding → Text → Text
uri_of bindings prefix = or_empty (bound_to bindings prefix)

abbrev pub is_none : Option Text → Bool
is_none None = true
is_none (Some uri) = false

unfoldable pub is_unbound : List Binding → Name → Bool
is_unbound bindings n = not (is_empty n.prefix) && is_none (bound_to bindings n.prefix)

-- the URI of a name, where names without a prefix have this one
unfoldable pub uri_or : Text → List Binding → Name → Text
uri_or plain bindings n = if is_empty n.prefix then plain else uri_of bindings n.prefix

-- a name with its URI, where names without a prefix have none
abbrev pub expanded : List Binding → Name → Name
expanded bindings n = record { uri = uri_or [] bindings n; prefix = n.prefix; local = n.local }

abbrev pub is_same_name : Name → Name → Bool
is_same_name m n = bytes_eq m.uri n.uri && bytes_eq m.local n.local

-- one of these names, which have their URIs, is this one; with an unbound prefix it is none
unfoldable pub is_among : List Binding → List Name → Name → Bool
is_among bindings names n = not (is_unbound bindings n) && list_any (is_same_name (expanded bindings n)) names

-- ---- where a term stands

-- the bindings of prefixes in force, the innermost last, and the names of the variables in scope, with their URIs
pub record Environment : Type 0 where
  pub bindings : List Binding
  pub variables : List Name

abbrev pub binding : Text → Text → Binding
binding prefix uri = record { prefix = prefix; uri = Some uri }

abbrev pub xml_uri : Text
xml_uri = codes "http://www.w3.org/XML/1998/namespace"

abbrev pub xmlns_uri : Text
xmlns_uri = codes "http://www.w3.org/2000/xmlns/"

abbrev pub functions_uri : Text
functions_uri = codes "http://www.w3.org/2005/xpath-functions"

-- what is bound unless the query says otherwise (XQuery 1.0, section 4.12)
abbrev pub predeclared : List Binding
predeclared =
    binding (codes "xml") xml_uri ∷
    binding (codes "xs") (codes "http://www.w3.org/2001/XMLSchema") ∷
    binding (codes "xsi") (codes "http://www.w3.org/2001/XMLSchema-instance") ∷
    binding (codes "fn") functions_uri ∷
    binding (codes "local") (codes "http://www.w3.org/2005/xquery-local-functions") ∷
    []

abbrev pub with_bindings : List Binding → Environment → Environment
with_bindings more env = record { bindings = env.bindings ++ more; variables = env.variables }

-- the variable's name with its URI; none where its prefix is unbound
unfoldable pub bound_names : List Binding → Variable → List Name
bound_names bindings v = if is_unbound bindings v.name.name then [] else expanded bindings v.name.name ∷ []

unfoldable pub with_variable : Variable → Environment → Environment
with_variable v env = record { bindings = env.bindings; variables = env.variables ++ bound_names env.bindings v }

abbrev pub with_maybe_variable : Option Variable → Environment → Environment
with_maybe_variable None env = env
with_maybe_variable (Some v) env = with_variable v env

-- ---- calls

abbrev pub takes_so_many : Option Function → ℕ → Bool
takes_so_many None count = false
takes_so_many (Some f) count = takes f count

-- there is a function of this name with so many arguments
unfoldable pub is_function : List Binding → Name → ℕ → Bool
is_function bindings n count = bytes_eq (uri_or functions_uri bindings n) functions_uri && takes_so_many (function_named n.local) count

-- ---- what a term may break by itself

unfoldable pub literal_faults : Literal → List Fault
literal_faults l = elim l.bad_reference [ None ↦ [] | Some at ↦ fault at 2 XQST0090 ∷ [] ]

abbrev pub numeral_faults : ℕ → Numeral → List Fault
numeral_faults place (number z) = []
numeral_faults place no_number = fault place 3 FORG0001 ∷ []
numeral_faults place too_great = fault place 3 FOAR0002 ∷ []

unfoldable pub number_faults : Span → Text → List Fault
number_faults span text = numeral_faults span.from (numeral text)

unfoldable pub name_faults : QName → Environment → List Fault
name_faults q env = fault_if (is_unbound env.bindings q.name) (fault q.span.from 5 XPST0081)

unfoldable pub variable_faults : Variable → Environment → List Fault
variable_faults v env =
    fault_if (not (is_among env.bindings env.variables v.name.name)) (fault v.span.from 6 XPST0008) ++ name_faults v.name env

-- a variable for the place, beside this one
unfoldable pub position_faults : Variable → Option Variable → Environment → List Fault
position_faults v None env = []
position_faults v (Some p) env =
    fault_if (is_among env.bindings (bound_names env.bindings v) p.name.name) (fault p.span.from 6 XQST0089) ++ name_faults p.name env

unfoldable pub test_faults : NodeTest → Environment → List Fault
test_faults (tests.Instruction (Some l)) env = literal_faults l
test_faults (tests.Element (Some q)) env = name_faults q env
test_faults (tests.Attribute (Some q)) env = name_faults q env
test_faults (tests.Namespace q) env = name_faults q env
test_faults (tests.Name q) env = name_faults q env
test_faults _ env = []

unfoldable pub call_faults : QName → ℕ → Environment → List Fault
call_faults q count env = name_faults q env ++ fault_if (not (is_function env.bindings q.name count)) (fault q.span.from 7 XPST0017)

-- ---- what parts mean: their faults, where they stand

abbrev pub Meaning : Type 0
Meaning = Environment → List Fault

abbrev pub nothing : Meaning
nothing env = []

unfoldable pub both : Meaning → Meaning → Meaning
both first second env = first env ++ second env

unfoldable pub maybe : Option Meaning → Meaning
maybe None env = []
maybe (Some part) env = part env

unfoldable pub all : List Meaning → Meaning
all [] env = []
all (part ∷ more) env = part env ++ all more env

unfoldable pub many : Meaning → List Meaning → Meaning
many first others env = first env ++ all others env

unfoldable pub choice : Meaning → Meaning → Meaning → Meaning
choice condition positive negative env = condition env ++ (positive env ++ negative env)

-- a clause has faults where it stands, and binds variables for what stands behind it
pub record ClauseMeaning : Type 0 where
  pub faults : Meaning
  pub behind : Environment → Environment

unfoldable pub clauses_faults : List ClauseMeaning → Meaning
clauses_faults [] env = []
clauses_faults (c ∷ more) env = c.faults env ++ clauses_faults more (c.behind env)

unfoldable pub clauses_behind : List ClauseMeaning → Environment → Environment
clauses_behind [] env = env
clauses_behind (c ∷ more) env = clauses_behind more (c.behind env)

-- the condition, the keys and the result of a FLWOR
unfoldable pub behind_clauses : Option Meaning → List Meaning → Meaning → Meaning
behind_clauses condition order result env = maybe condition env ++ (all order env ++ result env)

unfoldable pub within : List ClauseMeaning → Meaning → Meaning
within clauses body env = clauses_faults clauses env ++ body (clauses_behind clauses env)

unfoldable pub flwor : List ClauseMeaning → Option Meaning → List Meaning → Meaning → Meaning
flwor clauses condition order result = within clauses (behind_clauses condition order result)

-- what stands in an element or an attribute has faults, and characters among it spell a text
pub record ContentMeaning : Type 0 where
  pub faults : Meaning
  pub text : Text

unfoldable pub contents_faults : List ContentMeaning → Meaning
contents_faults [] env = []
contents_faults (c ∷ more) env = c.faults env ++ contents_faults more env

-- an attribute is a declaration or not, and has faults where its element's declarations are in force
pub record AttributeMeaning : Type 0 where
  pub declared : List Binding
  pub faults : Meaning

unfoldable pub is_declaration : Name → Bool
is_declaration n = if is_empty n.prefix then bytes_eq n.local (codes "xmlns") else bytes_eq n.prefix (codes "xmlns")

abbrev pub declared_prefix : Name → Text
declared_prefix n = if is_empty n.prefix then [] else n.local

-- the text between the quotes: as it is written, where that is kept, and else what the characters spell
unfoldable pub quoted_text : Option Text → List Text → Text
quoted_text (Some written) texts = written
quoted_text None texts = concat texts

unfoldable pub declared_by : Name → Option Text → List Text → List Binding
declared_by n written texts = if is_declaration n then binding (declared_prefix n) (quoted_text written texts) ∷ [] else []

unfoldable pub attribute_faults : QName → List ContentMeaning → Meaning
attribute_faults q value env = (if is_declaration q.name then [] else name_faults q env) ++ contents_faults value env

-- the first declaration of a prefix is the last of the list, so that it counts
unfoldable pub declared_in : List (List Binding) → List Binding
declared_in [] = []
declared_in (declared ∷ more) = declared_in more ++ declared

unfoldable pub attributes_faults : List AttributeMeaning → Meaning
attributes_faults [] env = []
attributes_faults (a ∷ more) env = a.faults env ++ attributes_faults more env

unfoldable pub in_element : QName → List AttributeMeaning → List ContentMeaning → Meaning
in_element q attributes content env = name_faults q env ++ (attributes_faults attributes env ++ contents_faults content env)

unfoldable pub element : QName → List AttributeMeaning → List ContentMeaning → Meaning
element q attributes content env = in_element q attributes content (with_bindings (declared_in (map (λ (a : AttributeMeaning). a.declared) attributes)) env)

unfoldable pub computed : QName → Option Meaning → Meaning
computed q body env = name_faults q env ++ maybe body env

unfoldable pub computed_by_value : Meaning → Option Meaning → Meaning
computed_by_value name body env = name env ++ maybe body env

unfoldable pub call : QName → List Meaning → Meaning
call q arguments env = call_faults q (length arguments) env ++ all arguments env

-- ---- one level of the tree

abbrev pub in_expression : Expr-F ClauseMeaning ContentMeaning Meaning AttributeMeaning Meaning Meaning Meaning → Meaning
in_expression (Expr-F.Comma span first others) = many first others
in_expression (Expr-F.Flwor span clauses condition order result) = flwor clauses condition order result
in_expression (Expr-F.Quantified span quantifier clauses test) = within clauses test
in_expression (Expr-F.If span condition positive negative) = choice condition positive negative
in_expression (Expr-F.Insert span source place target) = both source target
in_expression (Expr-F.Delete span target) = target
in_expression (Expr-F.Replace span is_value target source) = both target source
in_expression (Expr-F.Rename span target name scope) = both target name
in_expression (Expr-F.Or span first others) = many first others
in_expression (Expr-F.And span first others) = many first others
in_expression (Expr-F.Comparison span comparator left right) = both left right
in_expression (Expr-F.Range span from to) = both from to
in_expression (Expr-F.Additive span first others) = many first others
in_expression (Expr-F.Multiplicative span first others) = many first others
in_expression (Expr-F.Union span first others) = many first others
in_expression (Expr-F.Intersection span first others) = many first others
in_expression (Expr-F.Unary span is_negative operand) = operand
in_expression (Expr-F.Root span) = nothing
in_expression (Expr-F.Path span start first others) = many first others
in_expression (Expr-F.Filter span head predicates) = many head predicates
in_expression (Expr-F.AxisStep span axis test tested) = test_faults test
in_expression (Expr-F.Number span text) = λ env. number_faults span text
in_expression (Expr-F.String span literal) = λ env. literal_faults literal
in_expression (Expr-F.Variable variable) = variable_faults variable
in_expression (Expr-F.Parenthesized span body) = maybe body
in_expression (Expr-F.ContextItem span) = nothing
in_expression (Expr-F.Element span name attributes content) = element name attributes content
in_expression (Expr-F.DirectComment span text) = nothing
in_expression (Expr-F.DirectInstruction span target text) = nothing
in_expression (Expr-F.Computed span kind name body) = computed name body
in_expression (Expr-F.ComputedByValue span kind name scope body) = computed_by_value name body
in_expression (Expr-F.ComputedUnnamed span kind body) = body
in_expression (Expr-F.Call span name arguments function) = call name arguments

-- a source is valued before its variables are bound
unfoldable pub for_faults : Variable → Option Variable → Meaning → Meaning
for_faults v position source env = name_faults v.name env ++ (position_faults v position env ++ source env)

unfoldable pub for_behind : Variable → Option Variable → Environment → Environment
for_behind v position env = with_maybe_variable position (with_variable v env)

unfoldable pub let_faults : Variable → Meaning → Meaning
let_faults v value env = name_faults v.name env ++ value env

abbrev pub in_clause : Clause-F ClauseMeaning ContentMeaning Meaning AttributeMeaning Meaning Meaning Meaning → ClauseMeaning
in_clause (Clause-F.For variable position source) = record { faults = for_faults variable position source; behind = for_behind variable position }
in_clause (Clause-F.Let variable value) = record { faults = let_faults variable value; behind = with_variable variable }

abbrev pub in_content : Content-F ClauseMeaning ContentMeaning Meaning AttributeMeaning Meaning Meaning Meaning → ContentMeaning
in_content (Content-F.Characters literal) = record { faults = λ env. literal_faults literal; text = literal.text }
in_content (Content-F.Enclosed body) = record { faults = body; text = [] }
in_content (Content-F.Constructor body) = record { faults = body; text = [] }

abbrev pub in_attribute : Attribute-F ClauseMeaning ContentMeaning Meaning AttributeMeaning Meaning Meaning Meaning → AttributeMeaning
in_attribute a = record { declared = declared_by a.name.name a.written (map (λ (c : ContentMeaning). c.text) a.value); faults = attribute_faults a.name a.value }

abbrev pub in_operand : Operand-F ClauseMeaning ContentMeaning Meaning AttributeMeaning Meaning Meaning Meaning → Meaning
in_operand o = o.operand

abbrev pub in_key : OrderKey-F ClauseMeaning ContentMeaning Meaning AttributeMeaning Meaning Meaning Meaning → Meaning
in_key k = k.key

abbrev pub in_step : PathStep-F ClauseMeaning ContentMeaning Meaning AttributeMeaning Meaning Meaning Meaning → Meaning
in_step s = s.step

-- ---- whole terms

-- what a term gives, by its parts
abbrev pub finding : Algebra ClauseMeaning ContentMeaning Meaning AttributeMeaning Meaning Meaning Meaning
finding = record {
  of_clause = in_clause;
  of_content = in_content;
  of_expression = in_expression;
  of_attribute = in_attribute;
  of_operand = in_operand;
  of_key = in_key;
  of_step = in_step;
}

abbrev pub faults : Expr → Meaning
faults = expression_value finding

abbrev pub clause : Clause → ClauseMeaning
clause = clause_value finding

abbrev pub content : Content → ContentMeaning
content = content_value finding

abbrev pub attribute : Attribute → AttributeMeaning
attribute = attribute_value finding

abbrev pub operand : Operand → Meaning
operand = operand_value finding

abbrev pub key : OrderKey → Meaning
key = key_value finding

abbrev pub step : PathStep → Meaning
step = step_value finding

-- ---- the prolog

abbrev pub declares : Text → Declaration → Bool
declares prefix (declarations.Namespace span other uri) = bytes_eq prefix other
declares prefix (declarations.DefaultElement span uri) = false

unfoldable pub is_repeated : List Declaration → Text → Bool
is_repeated earlier prefix = list_any (declares prefix) earlier

abbrev pub is_default : Declaration → Bool
is_default (declarations.Namespace span prefix uri) = false
is_default (declarations.DefaultElement span uri) = true

unfoldable pub is_reserved_prefix : Text → Bool
is_reserved_prefix prefix = bytes_eq prefix (codes "xml") || bytes_eq prefix (codes "xmlns")

unfoldable pub is_reserved_uri : Text → Bool
is_reserved_uri uri = bytes_eq uri xml_uri || bytes_eq uri xmlns_uri

unfoldable pub is_reserved : Text → Text → Bool
is_reserved prefix uri = is_reserved_prefix prefix || is_reserved_uri uri

-- of a declaration behind others
unfoldable pub declaration_faults : List Declaration → Declaration → List Fault
declaration_faults earlier (declarations.Namespace span prefix uri) =
    fault_if (is_repeated earlier prefix) (fault span.from 1 XQST0033)
    ++ (fault_if (is_reserved prefix uri.text) (fault span.from 1 XQST0070) ++ literal_faults uri)
declaration_faults earlier (declarations.DefaultElement span uri) =
    fault_if (list_any is_default earlier) (fault span.from 1 XQST0066)
    ++ (fault_if (is_reserved_uri uri.text) (fault span.from 1 XQST0070) ++ literal_faults uri)

unfoldable pub prolog_faults : List Declaration → List Declaration → List Fault
prolog_faults earlier [] = []
prolog_faults earlier (d ∷ more) = declaration_faults earlier d ++ prolog_faults (earlier ++ d ∷ []) more

abbrev pub declared_binding : Declaration → Binding
declared_binding (declarations.Namespace span prefix uri) = record { prefix = prefix; uri = if is_empty uri.text then None else Some uri.text }
declared_binding (declarations.DefaultElement span uri) = binding [] uri.text

unfoldable pub prolog_bindings : List Declaration → List Binding
prolog_bindings all = predeclared ++ map declared_binding all

-- ---- queries

abbrev pub outermost : List Declaration → Environment
outermost all = record { bindings = prolog_bindings all; variables = [] }

unfoldable pub query_faults : QueryTree → List Fault
query_faults q = prolog_faults [] q.declarations ++ faults q.body (outermost q.declarations)

abbrev pub first_fault : QueryTree → Option Fault
first_fault q = least_of None (query_faults q)
