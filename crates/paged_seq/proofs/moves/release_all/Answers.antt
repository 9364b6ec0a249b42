use Rattle.std.proofs.Common.{arith}
use Rattle.paged_seq.proofs.Names.{some_left, release_more, spare_release}
use Rattle.paged_seq.proofs.moves.release_all.Goals as goal

pub loop-f-preserved : goal.loop-f-preserved
loop-f-preserved g c =
    rw c.release.ensures
    (record {
      moved = release_more _ _ _ _ c.requires.held c.loop-f-test.true c.loop-f.invariant.moved;
      spare = omega (arith, spare_release c.loop-f.pool _ (some_left _ _ _ _ c.requires.held c.loop-f-test.true c.loop-f.invariant.moved), c.loop-f.invariant.spare);
    })
