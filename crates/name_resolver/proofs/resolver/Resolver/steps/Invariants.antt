use Rattle.std.proofs.Common.{◌≡◌, ◌++◌, map, length}
use Rattle.query_terms.specs.Resolved as spec
use Rattle.name_resolver.proofs.resolver.Resolver.steps.Given as goal

abbrev pub invariant-loop-parts : goal.invariant-loop-parts
invariant-loop-parts g l = record {
  rest : l.done ++ spec.each (map spec.step l.parts) l.environment.bindings ≡ spec.each (map spec.step l.fn.parts) l.fn.environment.bindings;
  environment : l.environment ≡ l.fn.environment;
}

abbrev pub decreases-loop-parts : goal.decreases-loop-parts
decreases-loop-parts g l = length l.parts
