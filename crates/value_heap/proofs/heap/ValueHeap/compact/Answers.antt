use Rattle.std.proofs.Common.{rules}
use Rattle.value_heap.proofs.Compacting.{moved_none, moved_next, moved_all}
use Rattle.value_heap.proofs.heap.ValueHeap.compact.Goals as goal

pub loop-r-init : goal.loop-r-init
loop-r-init c = moved_none _ _ _ (search rules) (search rules)

pub loop-r-preserved : goal.loop-r-preserved
loop-r-preserved c =
    moved_next _ _ _ _ _ _ _ _ _ c.in_ok-place.place c.loop-r-test.true c.loop-r.invariant
    c.get.ensures c.in_ok-place.ensures.grown c.in_ok-push.ensures.items c.in_ok-place.ensures.at c.in_ok-place.ensures.len

pub returns-clause-bytes : goal.returns-clause-bytes
returns-clause-bytes c = (moved_all _ _ _ _ _ c.loop-r-test.false c.loop-r.invariant).bytes

pub returns-clause-values : goal.returns-clause-values
returns-clause-values c = (moved_all _ _ _ _ _ c.loop-r-test.false c.loop-r.invariant).values

pub returns-clause-inside : goal.returns-clause-inside
returns-clause-inside c = (moved_all _ _ _ _ _ c.loop-r-test.false c.loop-r.invariant).inside
