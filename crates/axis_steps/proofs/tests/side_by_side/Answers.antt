use Rattle.std.proofs.Common.{◌≡◌, [], ◌+◌, ◌-◌, ◌*◌, arith, refl, subst, sym}
use Rattle.node_table.specs.Views.{view_of, KeepsTrees}
use Rattle.axis_steps.proofs.TestRows.{pairs, flat_rows, pairs_step, push_two, all_pushed, flat_stands}
use Rattle.axis_steps.proofs.tests.side_by_side.Goals as goal

pub loop-left-preserved : goal.loop-left-preserved
loop-left-preserved c =
    let left = c.loop-left.left in
    let at = 2 * (c.args.count - left) + 1 in
    let next = 2 * (c.args.count - (left - 1)) + 1 in
    let further : next ≡ at + 2 = omega (arith, c.loop-left-test.true, c.loop-left.invariant.few) in
    record {
      rows = rw c.in_ok-push-4.ensures.items (rw c.in_ok-push-3.ensures.items
          (push_two c.loop-left.rows.items (pairs at left) (pairs next (left - 1)) (flat_rows c.args.count) _ _ (pairs_step at next left c.loop-left-test.true further) c.loop-left.invariant.rows));
      len = omega (arith, c.in_ok-push-4.ensures.len, c.in_ok-push-3.ensures.len, c.loop-left.invariant.len, c.loop-left-test.true);
      few = omega (arith, c.loop-left.invariant.few);
    }

pub returns-clause-trees : goal.returns-clause-trees
returns-clause-trees c = λ names h.
    let zero_left : c.loop-left.left ≡ 0 = omega (arith, c.loop-left-test.false) in
    subst (λ rows. KeepsTrees (view_of rows names []))
    (sym (all_pushed c.loop-left.rows.items (flat_rows c.args.count) (pairs (2 * (c.args.count - c.loop-left.left) + 1)) c.loop-left.left refl zero_left c.loop-left.invariant.rows))
    (flat_stands names h c.args.count)
