use Rattle.query_terms.specs.Resolved.{resolving}
use Rattle.query_terms.proofs.Folds.{additive_is, and_is, axis_step_is, call_is, comma_is, comparison_is, computed_by_value_is, computed_is, computed_unnamed_is, delete_is, filter_is, flwor_is, if_is, insert_is, intersection_is, multiplicative_is, or_is, parenthesized_is, path_is, quantified_is, range_is, rename_is, replace_is, unary_is, union_is}
use Rattle.name_resolver.proofs.Equations.{gives_along, element_is}
use Rattle.name_resolver.proofs.resolver.Resolver.expression.Goals as goal

pub returns-in-Comma : goal.returns-in-Comma
returns-in-Comma g c = rw c.in-Comma.is (gives_along _ _ _ _ _ (comma_is resolving _ _ _) (rw (c.get.ensures, c.as_slice.ensures) at c.comma.ensures))

pub returns-in-Flwor : goal.returns-in-Flwor
returns-in-Flwor g c = rw c.in-Flwor.is (gives_along _ _ _ _ _ (flwor_is resolving _ _ _ _ _) (rw (c.as_slice-in-Flwor.ensures, c.as_slice-in-Flwor-2.ensures, c.get-in-Flwor.ensures) at c.flwor.ensures))

pub returns-in-Quantified : goal.returns-in-Quantified
returns-in-Quantified g c = rw c.in-Quantified.is (gives_along _ _ _ _ _ (quantified_is resolving _ _ _ _) (rw (c.as_slice-in-Quantified.ensures, c.get-in-Quantified.ensures) at c.quantified.ensures))

pub returns-in-If : goal.returns-in-If
returns-in-If g c = rw c.in-If.is (gives_along _ _ _ _ _ (if_is resolving _ _ _ _) (rw (c.get-in-If.ensures, c.get-in-If-2.ensures, c.get-in-If-3.ensures) at c.conditional.ensures))

pub returns-in-Insert : goal.returns-in-Insert
returns-in-Insert g c = rw c.in-Insert.is (gives_along _ _ _ _ _ (insert_is resolving _ _ _ _) (rw (c.get-in-Insert.ensures, c.get-in-Insert-2.ensures) at c.insert.ensures))

pub returns-in-Delete : goal.returns-in-Delete
returns-in-Delete g c = rw c.in-Delete.is (gives_along _ _ _ _ _ (delete_is resolving _ _) (rw c.get-in-Delete.ensures at c.delete.ensures))

pub returns-in-Replace : goal.returns-in-Replace
returns-in-Replace g c = rw c.in-Replace.is (gives_along _ _ _ _ _ (replace_is resolving _ _ _ _) (rw (c.get-in-Replace.ensures, c.get-in-Replace-2.ensures) at c.replace.ensures))

pub returns-in-Rename : goal.returns-in-Rename
returns-in-Rename g c = rw c.in-Rename.is (gives_along _ _ _ _ _ (rename_is resolving _ _ _ c.in-Rename.scope) (rw (c.get-in-Rename.ensures, c.get-in-Rename-2.ensures) at c.rename.ensures))

pub returns-in-Or : goal.returns-in-Or
returns-in-Or g c = rw c.in-Or.is (gives_along _ _ _ _ _ (or_is resolving _ _ _) (rw (c.get-in-Or.ensures, c.as_slice-in-Or.ensures) at c.or.ensures))

pub returns-in-And : goal.returns-in-And
returns-in-And g c = rw c.in-And.is (gives_along _ _ _ _ _ (and_is resolving _ _ _) (rw (c.get-in-And.ensures, c.as_slice-in-And.ensures) at c.and.ensures))

pub returns-in-Comparison : goal.returns-in-Comparison
returns-in-Comparison g c = rw c.in-Comparison.is (gives_along _ _ _ _ _ (comparison_is resolving _ _ _ _) (rw (c.get-in-Comparison.ensures, c.get-in-Comparison-2.ensures) at c.comparison.ensures))

pub returns-in-Range : goal.returns-in-Range
returns-in-Range g c = rw c.in-Range.is (gives_along _ _ _ _ _ (range_is resolving _ _ _) (rw (c.get-in-Range.ensures, c.get-in-Range-2.ensures) at c.range.ensures))

pub returns-in-Additive : goal.returns-in-Additive
returns-in-Additive g c = rw c.in-Additive.is (gives_along _ _ _ _ _ (additive_is resolving _ _ _) (rw (c.get-in-Additive.ensures, c.as_slice-in-Additive.ensures) at c.additive.ensures))

pub returns-in-Multiplicative : goal.returns-in-Multiplicative
returns-in-Multiplicative g c = rw c.in-Multiplicative.is (gives_along _ _ _ _ _ (multiplicative_is resolving _ _ _) (rw (c.get-in-Multiplicative.ensures, c.as_slice-in-Multiplicative.ensures) at c.multiplicative.ensures))

pub returns-in-Union : goal.returns-in-Union
returns-in-Union g c = rw c.in-Union.is (gives_along _ _ _ _ _ (union_is resolving _ _ _) (rw (c.get-in-Union.ensures, c.as_slice-in-Union.ensures) at c.union.ensures))

pub returns-in-Intersection : goal.returns-in-Intersection
returns-in-Intersection g c = rw c.in-Intersection.is (gives_along _ _ _ _ _ (intersection_is resolving _ _ _) (rw (c.get-in-Intersection.ensures, c.as_slice-in-Intersection.ensures) at c.intersection.ensures))

pub returns-in-Unary : goal.returns-in-Unary
returns-in-Unary g c = rw c.in-Unary.is (gives_along _ _ _ _ _ (unary_is resolving _ _ _) (rw c.get-in-Unary.ensures at c.unary.ensures))

pub returns-in-Path : goal.returns-in-Path
returns-in-Path g c = rw c.in-Path.is (gives_along _ _ _ _ _ (path_is resolving _ _ _ _) (rw (c.get-in-Path.ensures, c.as_slice-in-Path.ensures) at c.path.ensures))

pub returns-in-Filter : goal.returns-in-Filter
returns-in-Filter g c = rw c.in-Filter.is (gives_along _ _ _ _ _ (filter_is resolving _ _ _) (rw (c.get-in-Filter.ensures, c.as_slice-in-Filter.ensures) at c.filter.ensures))

pub returns-in-Parenthesized : goal.returns-in-Parenthesized
returns-in-Parenthesized g c = rw c.in-Parenthesized.is (gives_along _ _ _ _ _ (parenthesized_is resolving _ _) c.parenthesized.ensures)

pub returns-in-Computed : goal.returns-in-Computed
returns-in-Computed g c = rw c.in-Computed.is (gives_along _ _ _ _ _ (computed_is resolving _ _ _ _) c.computed.ensures)

pub returns-in-ComputedByValue : goal.returns-in-ComputedByValue
returns-in-ComputedByValue g c = rw c.in-ComputedByValue.is (gives_along _ _ _ _ _ (computed_by_value_is resolving _ _ _ c.in-ComputedByValue.scope _) (rw c.get-in-ComputedByValue.ensures at c.computed_by_value.ensures))

pub returns-in-ComputedUnnamed : goal.returns-in-ComputedUnnamed
returns-in-ComputedUnnamed g c = rw c.in-ComputedUnnamed.is (gives_along _ _ _ _ _ (computed_unnamed_is resolving _ _ _) (rw c.get-in-ComputedUnnamed.ensures at c.computed_unnamed.ensures))

pub returns-in-Call : goal.returns-in-Call
returns-in-Call g c = rw c.in-Call.is (gives_along _ _ _ _ _ (call_is resolving _ _ _ c.in-Call.function) (rw c.as_slice-in-Call.ensures at c.call.ensures))

pub returns-in-AxisStep : goal.returns-in-AxisStep
returns-in-AxisStep g c = rw c.in-AxisStep.is (gives_along _ _ _ _ _ (axis_step_is resolving _ _ _ c.in-AxisStep.tested) c.axis_step.ensures)

pub returns-in-Element : goal.returns-in-Element
returns-in-Element g c = rw c.in-Element.is (gives_along _ _ _ _ _ (element_is _ _ _ _) (rw (c.as_slice-in-Element.ensures, c.as_slice-in-Element-2.ensures) at c.element.ensures))
