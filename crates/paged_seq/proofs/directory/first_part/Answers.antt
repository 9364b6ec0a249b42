use Rattle.std.proofs.Common.{arith}
use Rattle.paged_seq.proofs.Places.{place_le}
use Rattle.paged_seq.proofs.Widening.{first_part_is}
use Rattle.paged_seq.proofs.directory.first_part.Goals as goal

pub overflow_add-size-2 : goal.overflow_add-size-2
overflow_add-size-2 c = omega (arith, c.requires.room, place_le c.args.firsts.now c.args.len c.end_of-to.result c.requires.directory, c.place-2.ensures)

pub returns : goal.returns
returns c w = rw (c.place.ensures, c.place-2.ensures) (first_part_is _ _ _ _ c.args.added _ _ w c.requires.order c.requires.within c.locate-from.ensures c.end_of-to.ensures)
