use Rattle.std.proofs.Common.{[]}
use Rattle.paged_seq.proofs.Names.{accounted_stays}
use Rattle.paged_seq.proofs.tests.patch_branch.Goals as goal

pub returns-clause-paged : goal.returns-clause-paged
returns-clause-paged c = (accounted_stays c.args.pool.now _ _ _ c.args.seq.now [] c.requires.accounts c.in_ok-patch.ensures.ok.moved c.requires.paged).paged
