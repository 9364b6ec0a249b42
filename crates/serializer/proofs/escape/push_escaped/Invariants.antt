use Rattle.std.proofs.Common.{◌≡◌, ◌++◌, length}
use Rattle.std.specs.List.{flat_map}
use Rattle.serializer.specs.Growth.{Grew}
use Rattle.serializer.proofs.escape.push_escaped.Given as goal

abbrev pub invariant-loop-rest : goal.invariant-loop-rest
invariant-loop-rest g l = record {
  text : l.out.items ++ flat_map g.E.Escape.escape l.rest ≡ l.fn.out.items ++ flat_map g.E.Escape.escape l.bytes;
  kept : Grew l.fn.out.items l.out.items;
}

abbrev pub decreases-loop-rest : goal.decreases-loop-rest
decreases-loop-rest g l = length l.rest
