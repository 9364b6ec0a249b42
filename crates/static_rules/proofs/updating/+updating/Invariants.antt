use Rattle.std.proofs.Common.{◌≡◌, map, drop}
use Rattle.query_terms.specs.Constructors.{some}
use Rattle.query_terms.specs.Updating as spec
use Rattle.static_rules.proofs.updating.+updating.Given as goal

abbrev pub invariant-are_updating-loop-part : goal.invariant-are_updating-loop-part
invariant-are_updating-loop-part l = some (map spec.is_updating (drop l.part-index l.parts)) ≡ some (map spec.is_updating l.parts)
