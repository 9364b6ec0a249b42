use Rattle.std.proofs.Common.{◌≡◌, ◌≤◌, take, length}
use Rattle.prefix_scopes.specs.Few.{scope_of}
use Rattle.prefix_scopes.specs.Scoping.{number_of}
use Rattle.prefix_scopes.proofs.scopes.last_number.Given as goal

abbrev pub invariant-loop-left : goal.invariant-loop-left
invariant-loop-left l = record {
  within : l.left ≤ length l.bounds;
  rest : number_of l.prefix (scope_of (take l.left l.bounds)) ≡ number_of l.prefix (scope_of l.bounds);
}

abbrev pub decreases-loop-left : goal.decreases-loop-left
decreases-loop-left l = l.left
