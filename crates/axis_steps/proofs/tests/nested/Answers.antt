use Rattle.std.proofs.Common.{◌≡◌, [], ◌-◌, arith, refl, subst, sym}
use Rattle.node_table.specs.Views.{view_of, KeepsTrees}
use Rattle.axis_steps.proofs.TestRows.{chain, nested_rows, chain_step, push_two, all_pushed, nested_stands}
use Rattle.axis_steps.proofs.tests.nested.Goals as goal

pub loop-left-preserved : goal.loop-left-preserved
loop-left-preserved c =
    let left = c.loop-left.left in
    record {
      rows = rw c.in_ok-push-4.ensures.items (rw c.in_ok-push-3.ensures.items
          (push_two c.loop-left.rows.items (chain left) (chain (left - 1)) (nested_rows c.args.count) _ _ (chain_step left c.loop-left-test.true) c.loop-left.invariant.rows));
      len = omega (arith, c.in_ok-push-4.ensures.len, c.in_ok-push-3.ensures.len, c.loop-left.invariant.len, c.loop-left-test.true);
      few = omega (arith, c.loop-left.invariant.few);
    }

pub returns-clause-trees : goal.returns-clause-trees
returns-clause-trees c = λ names h.
    let zero_left : c.loop-left.left ≡ 0 = omega (arith, c.loop-left-test.false) in
    subst (λ rows. KeepsTrees (view_of rows names [])) (sym (all_pushed c.loop-left.rows.items (nested_rows c.args.count) chain c.loop-left.left refl zero_left c.loop-left.invariant.rows)) (nested_stands names h c.args.count)
