use Rattle.std.proofs.Common.{◌≡◌, take}
use Rattle.name_resolver.proofs.names.scope.Given as goal

abbrev pub invariant-loop-inside : goal.invariant-loop-inside
invariant-loop-inside l = l.bindings ≡ take l.inside-index l.inside-items
