-- Rows that were read.
use Rattle.std.proofs.Common.{refl, arith}
use Rattle.frame_pool.specs.Meters.{HasRead}
use Rattle.frame_pool.specs.declared.meter.Meter.{Meter}

pub read_none : (m : Meter) → HasRead m m
read_none m = record { rows = omega arith; frames = refl }
