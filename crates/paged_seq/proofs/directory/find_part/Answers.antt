use Rattle.std.proofs.Common.{arith}
use Rattle.paged_seq.proofs.Places.{many_places}
use Rattle.paged_seq.proofs.Widening.{change_is, part_room, wider_room, wider_order}
use Rattle.paged_seq.proofs.directory.find_part.Goals as goal

pub with_left-part-requires-clause-order : goal.with_left-part-requires-clause-order
with_left-part-requires-clause-order c = (c.first_part.ensures c.requires.directory).is.order

pub with_left-part-requires-clause-within : goal.with_left-part-requires-clause-within
with_left-part-requires-clause-within c = let p = (c.first_part.ensures c.requires.directory).is in omega (arith, p.within, many_places _ _ c.requires.directory)

pub with_left-part-requires-clause-room : goal.with_left-part-requires-clause-room
with_left-part-requires-clause-room c = part_room _ _ c.args.at c.args.end c.args.added _ c.requires.directory (c.first_part.ensures c.requires.directory).is c.requires.within c.requires.room

pub with_right-requires-clause-order : goal.with_right-requires-clause-order
with_right-requires-clause-order c = wider_order _ _ _ (c.first_part.ensures c.requires.directory).is.order (c.with_left-part.ensures c.requires.directory).is

pub with_right-requires-clause-within : goal.with_right-requires-clause-within
with_right-requires-clause-within c = let p = (c.with_left-part.ensures c.requires.directory).is in omega (arith, p.within, many_places _ _ c.requires.directory)

pub with_right-requires-clause-room : goal.with_right-requires-clause-room
with_right-requires-clause-room c =
    wider_room _ _ _ _ c.requires.directory (c.with_left-part.ensures c.requires.directory).is
    (part_room _ _ c.args.at c.args.end c.args.added _ c.requires.directory (c.first_part.ensures c.requires.directory).is c.requires.within c.requires.room)

pub returns : goal.returns
returns c w = let p = c.first_part.ensures w in change_is _ _ _ _ _ _ _ p.is p.small (c.with_left-part.ensures w) (c.with_right.ensures w)
