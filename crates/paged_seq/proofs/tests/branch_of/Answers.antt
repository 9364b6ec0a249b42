use Rattle.std.proofs.Common.{[]}
use Rattle.paged_seq.proofs.Names.{accounted_stays}
use Rattle.paged_seq.proofs.tests.branch_of.Goals as goal

pub returns-clause-paged : goal.returns-clause-paged
returns-clause-paged c = (accounted_stays c.args.pool.now _ [] _ c.args.seq.now [] c.requires.accounts c.in_ok-branch.ensures.moved c.requires.paged).paged

pub returns-clause-branch : goal.returns-clause-branch
returns-clause-branch c = rw c.in_ok-branch.ensures.equal (accounted_stays c.args.pool.now _ [] _ c.args.seq.now [] c.requires.accounts c.in_ok-branch.ensures.moved c.requires.paged).paged
