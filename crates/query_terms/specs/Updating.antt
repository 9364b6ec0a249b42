-- Which expressions are updating (XQuery Update Facility 1.0, section 2.2).
use Rattle.std.specs.Prelude.{Bool, true, false, ◌||◌}
use Rattle.query_terms.specs.declared.tree.Clause.TheOpen.{Attribute-F, Clause-F, Content-F, Expr-F, Operand-F, OrderKey-F, PathStep-F}
use Rattle.query_terms.specs.declared.tree.Expr.{Expr}
use Rattle.query_terms.specs.declared.tree.QueryTree.{QueryTree}
use Rattle.query_terms.specs.Constructors.{Level, some, maybe}
use Rattle.query_terms.specs.Folds.{Algebra, expression_value}

abbrev pub in_expression : Level → Bool
in_expression (Expr-F.Comma span first others) = first || some others
in_expression (Expr-F.Flwor span clauses condition order result) = result
in_expression (Expr-F.If span condition positive negative) = positive || negative
in_expression (Expr-F.Insert span source place target) = true
in_expression (Expr-F.Delete span target) = true
in_expression (Expr-F.Replace span is_value target source) = true
in_expression (Expr-F.Rename span target name scope) = true
in_expression (Expr-F.Parenthesized span body) = maybe body
in_expression _ = false

-- no other part than an expression is
abbrev pub in_clause : Clause-F Bool Bool Bool Bool Bool Bool Bool → Bool
in_clause c = false

abbrev pub in_content : Content-F Bool Bool Bool Bool Bool Bool Bool → Bool
in_content c = false

abbrev pub in_attribute : Attribute-F Bool Bool Bool Bool Bool Bool Bool → Bool
in_attribute a = false

abbrev pub in_operand : Operand-F Bool Bool Bool Bool Bool Bool Bool → Bool
in_operand o = false

abbrev pub in_key : OrderKey-F Bool Bool Bool Bool Bool Bool Bool → Bool
in_key k = false

abbrev pub in_step : PathStep-F Bool Bool Bool Bool Bool Bool Bool → Bool
in_step s = false

-- whether a term updates, by its parts
abbrev pub updating : Algebra Bool Bool Bool Bool Bool Bool Bool
updating = record {
  of_clause = in_clause;
  of_content = in_content;
  of_expression = in_expression;
  of_attribute = in_attribute;
  of_operand = in_operand;
  of_key = in_key;
  of_step = in_step;
}

abbrev pub is_updating : Expr → Bool
is_updating = expression_value updating

abbrev pub is_updating_query : QueryTree → Bool
is_updating_query q = is_updating q.body
