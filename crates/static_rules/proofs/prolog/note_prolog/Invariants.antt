use Rattle.std.proofs.Common.{◌≡◌, ◌≤◌, ◌-◌, [], take, drop, length}
use Rattle.query_terms.specs.Static as spec
use Rattle.static_rules.proofs.prolog.note_prolog.Given as goal

abbrev pub invariant-loop-done : goal.invariant-loop-done
invariant-loop-done l = record {
  within : l.done ≤ length l.declarations;
  rest : spec.least_of l.found (spec.prolog_faults (take l.done l.declarations) (drop l.done l.declarations)) ≡ spec.least_of l.fn.found (spec.prolog_faults [] l.declarations);
}

abbrev pub decreases-loop-done : goal.decreases-loop-done
decreases-loop-done l = length l.declarations - l.done
