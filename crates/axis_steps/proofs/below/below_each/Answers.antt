use Rattle.std.proofs.Common.{sym, ◌∙◌, subst, List, ℕ, take, get_or}
use Rattle.axis_cursor.proofs.Relations.{read_on}
use Rattle.axis_steps.specs.Steps.{HasReached}
use Rattle.axis_steps.proofs.Descendants.{reached_next}
use Rattle.axis_steps.proofs.Having.{take_one_more, take_whole}
use Rattle.axis_steps.proofs.below.below_each.Goals as goal

pub loop-place-preserved : goal.loop-place-preserved
loop-place-preserved c =
    let names = c.args.names.now in
    let rows = c.args.reader.now in
    let below = rw c.loop-place.invariant.rows at c.in_ok-push_below.ensures.below in
    record {
      reached = subst (λ (xs : List ℕ). HasReached names rows c.args.step.now xs c.push_below.new.found.items) (sym (take_one_more c.args.places.now c.loop-place.place-index c.loop-place-test.true))
          (reached_next names rows c.args.step.now (take c.loop-place.place-index c.args.places.now) (get_or c.args.places.now c.loop-place.place-index 0) c.loop-place.found.items c.push_below.new.found.items
          c.loop-place.invariant.reached below);
      rows = c.in_ok-push_below.ensures.rows ∙ c.loop-place.invariant.rows;
      meter = read_on _ _ _ c.loop-place.invariant.meter c.in_ok-push_below.ensures.meter;
    }

pub returns-clause-reached : goal.returns-clause-reached
returns-clause-reached c =
    subst (λ (xs : List ℕ). HasReached c.args.names.now c.args.reader.now c.args.step.now xs c.loop-place.found.items)
    (take_whole c.args.places.now c.loop-place.place-index c.loop-place-test.false) c.loop-place.invariant.reached
