use Rattle.std.proofs.Common.{◌≡◌, drop, None}
use Rattle.query_terms.specs.Static as spec
use Rattle.name_scopes.specs.Kept.{texts_in}
use Rattle.name_scopes.proofs.environment.bound_uri.Given as goal

abbrev pub invariant-loop-binding : goal.invariant-loop-binding
invariant-loop-binding l = spec.bound_behind (texts_in l.uri) (drop l.binding-index l.bindings) l.prefix ≡ spec.bound_behind None l.bindings l.prefix
