use Rattle.std.proofs.Common.{◌≡◌, map, length}
use Rattle.query_terms.specs.Static as spec
use Rattle.static_rules.proofs.walk.Walk.all_keys.Given as goal

abbrev pub invariant-loop-parts : goal.invariant-loop-parts
invariant-loop-parts g l = record {
  rest : spec.least_of l.state.found (spec.all (map spec.key l.parts) l.state.environment) ≡ spec.least_of l.fn.state.found (spec.all (map spec.key l.fn.parts) l.fn.state.environment);
  environment : l.state.environment ≡ l.fn.state.environment;
}

abbrev pub decreases-loop-parts : goal.decreases-loop-parts
decreases-loop-parts g l = length l.parts
