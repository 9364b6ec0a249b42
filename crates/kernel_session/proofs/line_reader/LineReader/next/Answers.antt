use Rattle.std.proofs.Common.{rules}
use Rattle.kernel_session.proofs.Streams.{ends_line_at}
use Rattle.kernel_session.proofs.line_reader.LineReader.next.Goals as goal

pub returns-in-Some-clause-line : goal.returns-in-Some-clause-line
returns-in-Some-clause-line g c =
    let r = c.read.self in
    let at = c.in-Some.at in
    let i = c.read.invariant in
    let some = c.in-Some.ensures.some in
    rw (c.in_ok-keep.ensures.buffer, c.in_ok-keep.ensures.room, c.in_ok-keep.ensures.place.1)
    (ends_line_at _ _ _ _ i.0 _ _ r.buffer.items r.start at r.end _ _ (search rules) (search rules) i.1 (search rules) (search rules) (search rules) (c.in_ok-keep.ensures.kept i.0 i.1.kept))
