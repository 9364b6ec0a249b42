use Rattle.std.proofs.Common.{◌∙◌, sym, subst, List, ℕ, drop, get_or, arith, ◌-◌}
use Rattle.std.specs.Prelude.{false}
use Rattle.tree_model.specs.declared.axis.Axis.TheVariants.{PrecedingSibling}
use Rattle.axis_cursor.proofs.Relations.{read_on}
use Rattle.axis_steps.specs.Steps.{Keeps}
use Rattle.axis_steps.proofs.Brothers.{keeps_taken_before}
use Rattle.axis_steps.proofs.Having.{drop_one_less}
use Rattle.axis_steps.proofs.siblings.keep_last_children.Goals as goal

pub loop-at-preserved : goal.loop-at-preserved
loop-at-preserved c =
    let rows = c.args.reader.now in
    let taken = rw c.loop-at.invariant.rows at c.in_ok-take_in.ensures.taken in
    let last = rw c.loop-at.invariant.rows at c.in_ok-take_in.ensures.last in
    let at = c.loop-at.at in
    record {
      within = omega (arith, c.loop-at.invariant.within);
      keeps = subst (λ (xs : List ℕ). Keeps rows PrecedingSibling xs c.take_in.new.children.kept.items) (sym (drop_one_less c.args.places.now at c.loop-at-test.true c.loop-at.invariant.within))
          (keeps_taken_before rows false (drop at c.args.places.now) (get_or c.args.places.now (at - 1) 0) c.loop-at.children.kept.items c.take_in.new.children.kept.items
          taken c.loop-at.invariant.keeps);
      last = last;
      rows = c.in_ok-take_in.ensures.rows ∙ c.loop-at.invariant.rows;
      meter = read_on _ _ _ c.loop-at.invariant.meter c.in_ok-take_in.ensures.meter;
    }
