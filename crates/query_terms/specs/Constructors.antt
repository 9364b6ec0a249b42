-- Whether an expression holds a constructor (XQuery 1.0, section 3.7).
use Rattle.std.specs.Prelude.{Bool, true, false, ◌||◌, List, Option, Some, None}
use Rattle.std.specs.List.{list_any}
use Rattle.query_terms.specs.declared.tree.Clause.TheOpen.{Attribute-F, Clause-F, Content-F, Expr-F, Operand-F, OrderKey-F, PathStep-F}
use Rattle.query_terms.specs.declared.tree.Expr.{Expr}
use Rattle.query_terms.specs.declared.tree.Clause.TheViews.{out-Content}
use Rattle.query_terms.specs.declared.tree.Clause.{Clause}
use Rattle.query_terms.specs.declared.tree.Content.{Content}
use Rattle.query_terms.specs.declared.tree.Attribute.{Attribute}
use Rattle.query_terms.specs.declared.tree.Operand.{Operand}
use Rattle.query_terms.specs.declared.tree.OrderKey.{OrderKey}
use Rattle.query_terms.specs.declared.tree.PathStep.{PathStep}
use Rattle.query_terms.specs.Folds.{Algebra, expression_value}

-- ---- one level: whether a part holds one

abbrev pub some : List Bool → Bool
some parts = list_any (λ (b : Bool). b) parts

abbrev pub maybe : Option Bool → Bool
maybe None = false
maybe (Some b) = b

abbrev pub Level : Type 0
Level = Expr-F Bool Bool Bool Bool Bool Bool Bool

abbrev pub in_expression : Level → Bool
in_expression (Expr-F.Comma span first others) = first || some others
in_expression (Expr-F.Flwor span clauses condition order result) = some clauses || maybe condition || some order || result
in_expression (Expr-F.Quantified span quantifier clauses condition) = some clauses || condition
in_expression (Expr-F.If span condition positive negative) = condition || positive || negative
in_expression (Expr-F.Insert span source place target) = source || target
in_expression (Expr-F.Delete span target) = target
in_expression (Expr-F.Replace span is_value target source) = target || source
in_expression (Expr-F.Rename span target name scope) = target || name
in_expression (Expr-F.Or span first others) = first || some others
in_expression (Expr-F.And span first others) = first || some others
in_expression (Expr-F.Comparison span comparator left right) = left || right
in_expression (Expr-F.Range span from to) = from || to
in_expression (Expr-F.Additive span first others) = first || some others
in_expression (Expr-F.Multiplicative span first others) = first || some others
in_expression (Expr-F.Union span first others) = first || some others
in_expression (Expr-F.Intersection span first others) = first || some others
in_expression (Expr-F.Unary span is_negative operand) = operand
in_expression (Expr-F.Root span) = false
in_expression (Expr-F.Path span start first others) = first || some others
in_expression (Expr-F.Filter span head predicates) = head || some predicates
in_expression (Expr-F.AxisStep span axis _ _) = false
in_expression (Expr-F.Number span text) = false
in_expression (Expr-F.String span literal) = false
in_expression (Expr-F.Variable variable) = false
in_expression (Expr-F.Parenthesized span body) = maybe body
in_expression (Expr-F.ContextItem span) = false
in_expression (Expr-F.Element span name attributes content) = true
in_expression (Expr-F.DirectComment span text) = true
in_expression (Expr-F.DirectInstruction span target text) = true
in_expression (Expr-F.Computed span kind name body) = true
in_expression (Expr-F.ComputedByValue span kind name scope body) = true
in_expression (Expr-F.ComputedUnnamed span kind body) = true
in_expression (Expr-F.Call span name arguments function) = some arguments

abbrev pub in_clause : Clause-F Bool Bool Bool Bool Bool Bool Bool → Bool
in_clause (Clause-F.For variable position source) = source
in_clause (Clause-F.Let variable value) = value

abbrev pub in_content : Content-F Bool Bool Bool Bool Bool Bool Bool → Bool
in_content (Content-F.Characters literal) = false
in_content (Content-F.Enclosed body) = body
in_content (Content-F.Constructor body) = true

abbrev pub in_attribute : Attribute-F Bool Bool Bool Bool Bool Bool Bool → Bool
in_attribute a = some a.value

abbrev pub in_operand : Operand-F Bool Bool Bool Bool Bool Bool Bool → Bool
in_operand o = o.operand

abbrev pub in_key : OrderKey-F Bool Bool Bool Bool Bool Bool Bool → Bool
in_key k = k.key

abbrev pub in_step : PathStep-F Bool Bool Bool Bool Bool Bool Bool → Bool
in_step s = s.step

-- ---- expressions

-- whether a term holds a constructor, by its parts
abbrev pub holding : Algebra Bool Bool Bool Bool Bool Bool Bool
holding = record {
  of_clause = in_clause;
  of_content = in_content;
  of_expression = in_expression;
  of_attribute = in_attribute;
  of_operand = in_operand;
  of_key = in_key;
  of_step = in_step;
}

-- an element, comment, processing instruction, attribute, text or document is made somewhere in the expression
abbrev pub holds_constructor : Expr → Bool
holds_constructor = expression_value holding

-- by what a part of content is made of
abbrev pub encloses : Content-F Clause Content Expr Attribute Operand OrderKey PathStep → Bool
encloses (Content-F.Characters literal) = false
encloses (Content-F.Enclosed body) = holds_constructor body
encloses (Content-F.Constructor body) = true

abbrev pub encloses_constructor : Content → Bool
encloses_constructor c = encloses (out-Content c)
