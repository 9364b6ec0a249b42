use Rattle.std.proofs.Common.{arith}
use Rattle.paged_seq.proofs.Bounds.{length_paged}
use Rattle.paged_seq.proofs.reader.Reader.get.Goals as goal

pub frame_at-self-inside-requires-clause-within : goal.frame_at-self-inside-requires-clause-within
frame_at-self-inside-requires-clause-within g c =
    let within = rw (← c.self.view_is) at c.requires in
    omega (arith, within, length_paged c.self.inside.pool.now c.self.inside.seq.now c.self.invariant.paged)
