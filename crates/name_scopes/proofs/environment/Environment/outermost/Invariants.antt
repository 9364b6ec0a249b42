use Rattle.std.proofs.Common.{◌≡◌, ◌++◌, map, take}
use Rattle.query_terms.specs.Static as spec
use Rattle.name_scopes.proofs.environment.Environment.outermost.Given as goal

abbrev pub invariant-loop-declaration : goal.invariant-loop-declaration
invariant-loop-declaration l = l.bindings.items ≡ spec.predeclared ++ map spec.declared_binding (take l.declaration-index l.declarations)
