use Rattle.std.proofs.Common.{◌≡◌, length}
use Rattle.id_map.proofs.tests.random_changes.Given as goal

abbrev pub invariant-loop-round : goal.invariant-loop-round
invariant-loop-round g l = length l.map ≡ l.len
