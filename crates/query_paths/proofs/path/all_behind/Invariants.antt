use Rattle.std.proofs.Common.{◌≡◌, Some, length}
use Rattle.std.specs.List.{fold}
use Rattle.query_paths.specs.Paths.{behind}
use Rattle.query_paths.proofs.path.all_behind.Given as goal

abbrev pub invariant-loop-rest : goal.invariant-loop-rest
invariant-loop-rest l = fold behind (Some l.found.items) l.rest ≡ fold behind (Some l.fn.found.items) l.others

abbrev pub decreases-loop-rest : goal.decreases-loop-rest
decreases-loop-rest l = length l.rest
