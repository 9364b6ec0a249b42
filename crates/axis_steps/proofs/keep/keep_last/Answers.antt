use Rattle.std.proofs.Common.{subst, List, ℕ, ◌∷◌}
use Rattle.tree_model.specs.declared.axis.Axis.TheVariants.{Preceding}
use Rattle.axis_steps.specs.Steps.{Keeps}
use Rattle.axis_steps.proofs.Having.{take_whole}
use Rattle.axis_steps.proofs.Keeping.{keeps_moved}
use Rattle.axis_steps.proofs.keep.keep_last.Goals as goal

pub returns-in_ok-push-in-Some-clause-kept : goal.returns-in_ok-push-in-Some-clause-kept
returns-in_ok-push-in-Some-clause-kept c =
    let rows = c.args.reader.now in
    let keeps = rw c.in-Some.is at c.loop-place.invariant.keeps in
    let whole : Keeps rows Preceding c.args.places.now (c.in-Some.last.place ∷ c.loop-place.kept.items) =
    subst (λ (xs : List ℕ). Keeps rows Preceding xs (c.in-Some.last.place ∷ c.loop-place.kept.items)) (take_whole c.args.places.now c.loop-place.place-index c.loop-place-test.false) keeps in
    rw c.in_ok-push-in-Some.ensures.items (keeps_moved rows Preceding c.args.places.now c.loop-place.kept.items c.in-Some.last.place whole)
