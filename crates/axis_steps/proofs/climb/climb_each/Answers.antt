use Rattle.std.proofs.Common.{refl, sym, ◌∙◌, inl, inr, subst, take, get_or, List, ℕ, [], ◌∷◌}
use Rattle.axis_cursor.proofs.Relations.{read_on}
use Rattle.axis_steps.specs.Steps.{HasAncestors}
use Rattle.axis_steps.proofs.Having.{has_right, take_one_more, take_whole}
use Rattle.axis_steps.proofs.Standing.{IsLast, ancestors_next}
use Rattle.axis_steps.proofs.climb.climb_each.Goals as goal

pub loop-place-preserved : goal.loop-place-preserved
loop-place-preserved c =
    let names = c.args.names.now in
    let rows = c.args.reader.now in
    let step = c.args.step.now in
    let own = rw c.loop-place.invariant.rows at c.in_ok-push_self.ensures.own in
    let kept = c.in_ok-push_self.ensures.rows ∙ c.loop-place.invariant.rows in
    let above = rw kept at c.in_ok-push_above.ensures.climbed in
    let before : List ℕ = take c.loop-place.place-index c.args.places.now in
    let e = take_one_more c.args.places.now c.loop-place.place-index c.loop-place-test.true in
    record {
      found = subst (λ (xs : List ℕ). HasAncestors names rows step xs c.push_above.new.found.items) (sym e)
          (ancestors_next names rows step before c.loop-place.last (get_or c.args.places.now c.loop-place.place-index 0) c.unknown_from.result c.loop-place.found.items c.push_self.new.found.items c.push_above.new.found.items
          c.loop-place.invariant.last c.unknown_from.ensures c.loop-place.invariant.found own above);
      last = subst (λ (xs : List ℕ). IsLast names rows step xs (get_or c.args.places.now c.loop-place.place-index 0)) (sym e) (inr (has_right before (get_or c.args.places.now c.loop-place.place-index 0 ∷ []) (get_or c.args.places.now c.loop-place.place-index 0) (inl refl)));
      rows = c.in_ok-push_above.ensures.rows ∙ kept;
      meter = read_on _ _ _ c.loop-place.invariant.meter (read_on _ _ _ c.in_ok-push_self.ensures.meter c.in_ok-push_above.ensures.meter);
    }

pub returns-clause-ancestors : goal.returns-clause-ancestors
returns-clause-ancestors c =
    subst (λ (xs : List ℕ). HasAncestors c.args.names.now c.args.reader.now c.args.step.now xs c.loop-place.found.items) (take_whole c.args.places.now c.loop-place.place-index c.loop-place-test.false) c.loop-place.invariant.found
