use Rattle.name_pool.proofs.Numbers.{distinct}
use Rattle.name_pool.proofs.pool.NamePool.intern_parts.Goals as goal

pub invariant_of-self : goal.invariant_of-self
invariant_of-self c = distinct _ c.insert_full.ensures.unique
