use Rattle.std.proofs.Common.{◌≡◌, take}
use Rattle.id_map.specs.Changes.{fronts_put}
use Rattle.id_map.proofs.runs.put_fronts.Given as goal

abbrev pub invariant-loop-run : goal.invariant-loop-run
invariant-loop-run l = l.out.items ≡ fronts_put l.at l.fn.out.items (take l.run-index l.runs)
