use Rattle.std.proofs.Common.{◌≡◌, ◌≤◌, map, length, take}
use Rattle.query_terms.specs.Static as spec
use Rattle.name_scopes.specs.Declares.{declared_of}
use Rattle.name_scopes.proofs.declared.declare_all.Given as goal

abbrev pub invariant-loop-left : goal.invariant-loop-left
invariant-loop-left l = record {
  within : l.left ≤ length l.attributes;
  rest : spec.with_bindings (spec.declared_in (map declared_of (take l.left l.attributes))) l.environment ≡ spec.with_bindings (spec.declared_in (map declared_of l.attributes)) l.fn.environment;
}

abbrev pub decreases-loop-left : goal.decreases-loop-left
decreases-loop-left l = l.left
