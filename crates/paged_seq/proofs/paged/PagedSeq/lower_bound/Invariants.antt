use Rattle.std.proofs.Common.{◌≡◌, ◌≤◌, ◌-◌, Bool}
use Rattle.std.specs.Fn.{FnReturnsAt}
use Rattle.std.specs.List.Sorted.{IsPartitionedBy}
use Rattle.paged_seq.specs.Sequences.{paged_items, IsBracket}
use Rattle.paged_seq.proofs.paged.PagedSeq.lower_bound.Given as goal

abbrev pub invariant-loop-low : goal.invariant-loop-low
invariant-loop-low g l = record {
  order : l.low ≤ l.high;
  within : l.high ≤ l.self.total;
  reader : l.reader ≡ paged_items l.pool l.self;
  parts : (p : g.row.T.Denot → Bool) → ((x : g.row.T.Denot) (r : Bool) → FnReturnsAt g.F.Fn l.before x r → r ≡ p x) → IsPartitionedBy p (paged_items l.pool l.self) → IsBracket g.row.T.Denot p (paged_items l.pool l.self) l.low l.high;
}

abbrev pub decreases-loop-low : goal.decreases-loop-low
decreases-loop-low g l = l.high - l.low
