use Rattle.std.proofs.Common.{◌≡◌, ℕ, ◌<◌, ◌≤◌}
use Rattle.id_map.specs.Ids.{times}
use Rattle.id_map.proofs.tests.put_in.Given as goal

abbrev pub invariant-loop-id : goal.invariant-loop-id
invariant-loop-id g l = (k : ℕ) → l.run.first_id ≤ k → k < l.id → times k l.map ≡ 0
