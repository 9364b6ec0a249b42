use Rattle.std.proofs.Common.{◌≡◌, take}
use Rattle.id_map.specs.Changes.{backs_put}
use Rattle.id_map.proofs.runs.put_backs.Given as goal

abbrev pub invariant-loop-run : goal.invariant-loop-run
invariant-loop-run l = l.out.items ≡ backs_put l.from l.to l.fn.out.items (take l.run-index l.runs)
