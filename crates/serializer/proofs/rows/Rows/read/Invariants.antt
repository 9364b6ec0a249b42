use Rattle.std.proofs.Common.{◌≡◌}
use Rattle.std.specs.Prelude.{slice_range}
use Rattle.serializer.proofs.rows.Rows.read.Given as goal

abbrev pub invariant-loop-pre : goal.invariant-loop-pre
invariant-loop-pre l = record {
  rows : l.self ≡ l.fn.self;
  read : l.buffer.items ≡ slice_range l.fn.self l.from l.pre;
}
