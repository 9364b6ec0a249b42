use Rattle.std.proofs.Common.{ℕ, List, length, arith, ap}
use Rattle.paged_seq.proofs.Bounds.{length_paged}
use Rattle.paged_seq.proofs.tests.compare.Goals as goal

pub get-requires-in-loop-i : goal.get-requires-in-loop-i
get-requires-in-loop-i g c = omega (arith, ap (λ (l : List ℕ). length l) c.loop-i.invariant, length_paged c.args.pool.now c.args.seq.now c.requires)
