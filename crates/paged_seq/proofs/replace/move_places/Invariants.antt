use Rattle.std.proofs.Common.{◌≡◌, ◌+◌, ◌-◌, ◌++◌, map, take, drop}
use Rattle.paged_seq.proofs.replace.move_places.Given as goal

abbrev pub invariant-loop-place : goal.invariant-loop-place
invariant-loop-place l = l.places ≡ map (λ x. x - l.less + l.more) (take l.place-index l.initial.places) ++ drop l.place-index l.initial.places
