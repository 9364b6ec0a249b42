use Rattle.std.proofs.Common.{◌≡◌}
use Rattle.frame_pool.specs.Meters.{HasRead}
use Rattle.axis_cursor.proofs.Backwards.{IsClimbing}
use Rattle.axis_cursor.proofs.origin.Origin.next_tree_before.Given as goal

abbrev pub invariant-loop-here : goal.invariant-loop-here
invariant-loop-here l = record {
  climbing : IsClimbing l.fn.reader l.parent l.fn.at l.here;
  rows : l.reader ≡ l.fn.reader;
  meter : HasRead l.fn.meter l.meter;
}

abbrev pub decreases-loop-here : goal.decreases-loop-here
decreases-loop-here l = l.here
