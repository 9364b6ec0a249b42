use Rattle.paged_seq.proofs.Places.{some_places, zero_place}
use Rattle.paged_seq.proofs.directory.locate.Goals as goal

pub find-requires-clause-some : goal.find-requires-clause-some
find-requires-clause-some c = some_places _ _ _ c.requires.directory c.requires.within c.if-at-len.false

pub find-requires-clause-from : goal.find-requires-clause-from
find-requires-clause-from c = zero_place _ _ _ c.requires.directory (some_places _ _ _ c.requires.directory c.requires.within c.if-at-len.false)
