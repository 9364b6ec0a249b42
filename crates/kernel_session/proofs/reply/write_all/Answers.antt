use Rattle.kernel_session.proofs.Written.{wrote_more}
use Rattle.kernel_session.proofs.reply.write_all.Goals as goal

pub loop-rest-preserved : goal.loop-rest-preserved
loop-rest-preserved g c =
    let i = c.loop-rest.invariant in
    rw c.split_at.ensures.back (wrote_more _ i.0 c.loop-rest.rest.now c.in-Took.count _ _ _ _ _ _ i.1 i.2 i.3 c.in-Took.ensures.later c.in-Took.ensures.did.2)
