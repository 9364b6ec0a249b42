use Rattle.std.proofs.Common.{◌≡◌, ◌≤◌, ◌-◌, Bool, length, take}
use Rattle.std.specs.Fn.{FnReturnsAt}
use Rattle.std.specs.List.Sorted.{IsPartitionedBy}
use Rattle.paged_seq.specs.Sizes.{amount}
use Rattle.paged_seq.specs.Sequences.{items_of, sizes_of, IsBracket}
use Rattle.paged_seq.proofs.paged.PagedSeq.bracket.Given as goal

abbrev pub invariant-loop-high : goal.invariant-loop-high
invariant-loop-high g l = record {
  order : l.low ≤ l.high;
  within : l.high ≤ length l.self-inside.directory.frames.items;
  parts : (p : g.row.T.Denot → Bool) → ((x : g.row.T.Denot) (r : Bool) → FnReturnsAt g.F.Fn l.before x r → r ≡ p x) → IsPartitionedBy p (items_of l.pool l.self-inside.directory.frames.items)
      → IsBracket g.row.T.Denot p (items_of l.pool l.self-inside.directory.frames.items) (amount (take l.low (sizes_of l.pool l.self-inside.directory.frames.items))) (amount (take l.high (sizes_of l.pool l.self-inside.directory.frames.items)));
}

abbrev pub decreases-loop-high : goal.decreases-loop-high
decreases-loop-high g l = l.high - l.low
