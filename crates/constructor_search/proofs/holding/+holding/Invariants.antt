use Rattle.std.proofs.Common.{◌≡◌, map, drop}
use Rattle.query_terms.specs.Constructors.{some}
use Rattle.query_terms.specs.Constructors as spec
use Rattle.query_terms.specs.Folds.{clause_value, key_value, operand_value, step_value}
use Rattle.constructor_search.proofs.holding.+holding.Given as goal

abbrev pub invariant-any_expression-loop-part : goal.invariant-any_expression-loop-part
invariant-any_expression-loop-part l = some (map spec.holds_constructor (drop l.part-index l.parts)) ≡ some (map spec.holds_constructor l.parts)

abbrev pub invariant-any_clause-loop-part : goal.invariant-any_clause-loop-part
invariant-any_clause-loop-part l = some (map (clause_value spec.holding) (drop l.part-index l.parts)) ≡ some (map (clause_value spec.holding) l.parts)

abbrev pub invariant-any_operand-loop-part : goal.invariant-any_operand-loop-part
invariant-any_operand-loop-part l = some (map (operand_value spec.holding) (drop l.part-index l.parts)) ≡ some (map (operand_value spec.holding) l.parts)

abbrev pub invariant-any_key-loop-part : goal.invariant-any_key-loop-part
invariant-any_key-loop-part l = some (map (key_value spec.holding) (drop l.part-index l.parts)) ≡ some (map (key_value spec.holding) l.parts)

abbrev pub invariant-any_step-loop-part : goal.invariant-any_step-loop-part
invariant-any_step-loop-part l = some (map (step_value spec.holding) (drop l.part-index l.parts)) ≡ some (map (step_value spec.holding) l.parts)
