-- Values of the terms of a query by recursion over its tree: what a term has follows from what its parts have.
use Rattle.query_terms.specs.declared.tree.Clause.TheOpen.{Attribute-F, Clause-F, Content-F, Expr-F, Operand-F, OrderKey-F, PathStep-F}
use Rattle.query_terms.specs.declared.tree.Clause.TheFolds.{fold-Attribute, fold-Clause, fold-Content, fold-Expr, fold-Operand, fold-OrderKey, fold-PathStep}
use Rattle.query_terms.specs.declared.tree.Attribute.{Attribute}
use Rattle.query_terms.specs.declared.tree.Clause.{Clause}
use Rattle.query_terms.specs.declared.tree.Content.{Content}
use Rattle.query_terms.specs.declared.tree.Expr.{Expr}
use Rattle.query_terms.specs.declared.tree.Operand.{Operand}
use Rattle.query_terms.specs.declared.tree.OrderKey.{OrderKey}
use Rattle.query_terms.specs.declared.tree.PathStep.{PathStep}

-- what a clause, a part of content, an expression, an attribute, an operand, a key and a step have, each given that of
-- its parts
pub record Algebra (C T E A O K S : Type 0) : Type 0 where
  pub of_clause : Clause-F C T E A O K S → C
  pub of_content : Content-F C T E A O K S → T
  pub of_expression : Expr-F C T E A O K S → E
  pub of_attribute : Attribute-F C T E A O K S → A
  pub of_operand : Operand-F C T E A O K S → O
  pub of_key : OrderKey-F C T E A O K S → K
  pub of_step : PathStep-F C T E A O K S → S

unfoldable pub clause_value : {C T E A O K S : Type 0} → Algebra C T E A O K S → Clause → C
clause_value {C} {T} {E} {A} {O} {K} {S} g = fold-Clause C T E A O K S g.of_clause g.of_content g.of_expression g.of_attribute g.of_operand g.of_key g.of_step

unfoldable pub content_value : {C T E A O K S : Type 0} → Algebra C T E A O K S → Content → T
content_value {C} {T} {E} {A} {O} {K} {S} g = fold-Content C T E A O K S g.of_clause g.of_content g.of_expression g.of_attribute g.of_operand g.of_key g.of_step

unfoldable pub expression_value : {C T E A O K S : Type 0} → Algebra C T E A O K S → Expr → E
expression_value {C} {T} {E} {A} {O} {K} {S} g = fold-Expr C T E A O K S g.of_clause g.of_content g.of_expression g.of_attribute g.of_operand g.of_key g.of_step

unfoldable pub attribute_value : {C T E A O K S : Type 0} → Algebra C T E A O K S → Attribute → A
attribute_value {C} {T} {E} {A} {O} {K} {S} g = fold-Attribute C T E A O K S g.of_clause g.of_content g.of_expression g.of_attribute g.of_operand g.of_key g.of_step

unfoldable pub operand_value : {C T E A O K S : Type 0} → Algebra C T E A O K S → Operand → O
operand_value {C} {T} {E} {A} {O} {K} {S} g = fold-Operand C T E A O K S g.of_clause g.of_content g.of_expression g.of_attribute g.of_operand g.of_key g.of_step

unfoldable pub key_value : {C T E A O K S : Type 0} → Algebra C T E A O K S → OrderKey → K
key_value {C} {T} {E} {A} {O} {K} {S} g = fold-OrderKey C T E A O K S g.of_clause g.of_content g.of_expression g.of_attribute g.of_operand g.of_key g.of_step

unfoldable pub step_value : {C T E A O K S : Type 0} → Algebra C T E A O K S → PathStep → S
step_value {C} {T} {E} {A} {O} {K} {S} g = fold-PathStep C T E A O K S g.of_clause g.of_content g.of_expression g.of_attribute g.of_operand g.of_key g.of_step
