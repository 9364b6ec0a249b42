use Rattle.std.proofs.Common.{rules}
use Rattle.doc_import.proofs.InternalSubset.{front_shorter}
use Rattle.doc_import.proofs.subset.subset_len.Goals as goal

pub overflow_sub-result : goal.overflow_sub-result
overflow_sub-result c = let shorter = front_shorter _ c.in_ok-rest.rest.now c.in_ok-rest.ensures in search rules
