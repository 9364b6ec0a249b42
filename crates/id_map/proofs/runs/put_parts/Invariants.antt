use Rattle.std.proofs.Common.{◌≡◌, take}
use Rattle.id_map.specs.Changes.{parts_put}
use Rattle.id_map.proofs.runs.put_parts.Given as goal

abbrev pub invariant-loop-run : goal.invariant-loop-run
invariant-loop-run l = l.out.items ≡ parts_put l.at l.from l.to l.fn.out.items (take l.run-index l.runs)
