use Rattle.std.proofs.Common.{◌∙◌, sym, subst, List, ℕ, take, get_or}
use Rattle.tree_model.specs.declared.axis.Axis.TheVariants.{Descendant, DescendantOrSelf}
use Rattle.axis_cursor.proofs.Relations.{read_on}
use Rattle.axis_steps.specs.Steps.{Keeps}
use Rattle.axis_steps.proofs.Having.{take_one_more}
use Rattle.axis_steps.proofs.keep.keep_outermost.Goals as goal

pub keep_unless_inside-requires-clause-open : goal.keep_unless_inside-requires-clause-open
keep_unless_inside-requires-clause-open c = rw c.loop-place.invariant.rows c.loop-place.invariant.last

pub loop-place-preserved : goal.loop-place-preserved
loop-place-preserved c =
    let rows = c.args.reader.now in
    let places = take c.loop-place.place-index c.args.places.now in
    let one = take_one_more c.args.places.now c.loop-place.place-index c.loop-place-test.true in
    let below = rw c.loop-place.invariant.rows at c.in_ok-keep_unless_inside.ensures.below in
    let or_self = rw c.loop-place.invariant.rows at c.in_ok-keep_unless_inside.ensures.or_self in
    record {
      below = subst (λ (xs : List ℕ). Keeps rows Descendant xs c.keep_unless_inside.new.nodes.kept.items) (sym one) (below places c.loop-place.invariant.below);
      or_self = subst (λ (xs : List ℕ). Keeps rows DescendantOrSelf xs c.keep_unless_inside.new.nodes.kept.items) (sym one) (or_self places c.loop-place.invariant.or_self);
      last = rw c.loop-place.invariant.rows at c.in_ok-keep_unless_inside.ensures.open;
      rows = c.in_ok-keep_unless_inside.ensures.rows ∙ c.loop-place.invariant.rows;
      meter = read_on _ _ _ c.loop-place.invariant.meter c.in_ok-keep_unless_inside.ensures.meter;
    }
