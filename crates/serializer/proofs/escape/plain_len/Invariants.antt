use Rattle.std.proofs.Common.{◌≡◌, ◌++◌, take, drop}
use Rattle.std.specs.List.{flat_map}
use Rattle.serializer.proofs.escape.plain_len.Given as goal

abbrev pub invariant-loop-len : goal.invariant-loop-len
invariant-loop-len g l = flat_map g.E.Escape.escape l.bytes ≡ take l.len l.bytes ++ flat_map g.E.Escape.escape (drop l.len l.bytes)
