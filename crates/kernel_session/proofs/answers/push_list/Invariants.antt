use Rattle.std.proofs.Common.{◌≡◌, ◌++◌, drop}
use Rattle.kernel_session.proofs.Bases.{lines_behind}
use Rattle.kernel_session.proofs.answers.push_list.Given as goal

abbrev pub invariant-loop-database : goal.invariant-loop-database
invariant-loop-database l = l.out.items ++ lines_behind (drop l.database-index l.rest) ≡ l.initial.out.items ++ lines_behind l.rest
