use Rattle.std.proofs.Common.{[]}
use Rattle.paged_seq.proofs.Names.{accounted_stays}
use Rattle.paged_seq.proofs.tests.give_up_branch.Goals as goal

pub returns : goal.returns
returns c = (accounted_stays c.args.pool.now _ _ _ c.args.seq.now [] c.requires.accounts c.give_up.ensures c.requires.paged).paged
