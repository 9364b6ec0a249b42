use Rattle.std.proofs.Common.{◌≡◌, length}
use Rattle.axis_cursor.specs.Cursors.{remaining, to_come, IsReady}
use Rattle.axis_cursor.proofs.origin.Origin.find.Given as goal
use Rattle.frame_pool.specs.Meters.{HasRead}

abbrev pub invariant-loop-place : goal.invariant-loop-place
invariant-loop-place l = record {
  ready : IsReady l.fn.reader l.fn.self.axis l.fn.self.context l.walk;
  gave : to_come l.names l.fn.reader l.fn.self.axis l.test l.fn.self.context l.walk ≡ to_come l.names l.fn.reader l.fn.self.axis l.test l.fn.self.context l.fn.walk;
  rows : l.reader ≡ l.fn.reader;
  meter : HasRead l.fn.meter l.meter;
}

abbrev pub decreases-loop-place : goal.decreases-loop-place
decreases-loop-place l = length (remaining l.fn.reader l.fn.self.axis l.fn.self.context l.walk)
