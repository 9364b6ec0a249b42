use Rattle.std.proofs.Common.{sym}
use Rattle.name_pool.proofs.Numbers.{found_number, none_number}
use Rattle.name_pool.proofs.pool.NamePool.find.Goals as goal

pub returns-in_err-found-clause-none : goal.returns-in_err-found-clause-none
returns-in_err-found-clause-none c = λ e. none_number _ _ (rw c.self.view_is at (sym c.in_err-found.ensures.found))

pub returns-clause-number : goal.returns-clause-number
returns-clause-number c = found_number _ _ _ (rw c.self.view_is at (sym c.in_ok-found.ensures.index))
