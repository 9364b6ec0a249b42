use Rattle.std.proofs.Common.{◌∙◌, sym, subst, List, ℕ, take, get_or}
use Rattle.std.specs.Prelude.{true}
use Rattle.tree_model.specs.declared.axis.Axis.TheVariants.{FollowingSibling}
use Rattle.axis_cursor.proofs.Relations.{read_on}
use Rattle.axis_steps.specs.Steps.{Keeps}
use Rattle.axis_steps.proofs.Brothers.{keeps_taken}
use Rattle.axis_steps.proofs.Having.{take_one_more}
use Rattle.axis_steps.proofs.siblings.keep_first_children.Goals as goal

pub loop-place-preserved : goal.loop-place-preserved
loop-place-preserved c =
    let rows = c.args.reader.now in
    let taken = rw c.loop-place.invariant.rows at c.in_ok-take_in.ensures.taken in
    let last = rw c.loop-place.invariant.rows at c.in_ok-take_in.ensures.last in
    record {
      keeps = subst (λ (xs : List ℕ). Keeps rows FollowingSibling xs c.take_in.new.children.kept.items) (sym (take_one_more c.args.places.now c.loop-place.place-index c.loop-place-test.true))
          (keeps_taken rows true (take c.loop-place.place-index c.args.places.now) (get_or c.args.places.now c.loop-place.place-index 0) c.loop-place.children.kept.items c.take_in.new.children.kept.items
          taken c.loop-place.invariant.keeps);
      last = last;
      rows = c.in_ok-take_in.ensures.rows ∙ c.loop-place.invariant.rows;
      meter = read_on _ _ _ c.loop-place.invariant.meter c.in_ok-take_in.ensures.meter;
    }
