use Rattle.std.proofs.Common.{take}
use Rattle.value_heap.proofs.Compacting.{Moved}
use Rattle.value_heap.proofs.heap.ValueHeap.compact.Given as goal

abbrev pub invariant-loop-r : goal.invariant-loop-r
invariant-loop-r l = Moved l.self (take l.r-index l.refs) l.heap l.places.items
