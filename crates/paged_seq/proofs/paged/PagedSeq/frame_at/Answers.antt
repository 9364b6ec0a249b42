use Rattle.std.proofs.Common.{arith, ◌<◌, length}
use Rattle.paged_seq.proofs.Items.{found_in, frame_lies, times_at, many_firsts, some_firsts, zero_first}
use Rattle.paged_seq.proofs.paged.PagedSeq.frame_at.Goals as goal

pub find_near-k-requires : goal.find_near-k-requires
find_near-k-requires g c =
    let paged = rw (← c.self.view_is) at c.requires.paged in
    let within = rw (← c.self.view_is) at c.requires.within in
    let some = some_firsts c.args.pool.now _ _ paged within in
    rw c.as_slice.ensures.value (record { some = some; from = omega (arith, zero_first c.args.pool.now _ 0 paged some) })

pub index-requires : goal.index-requires
index-requires g c =
    let paged = rw (← c.self.view_is) at c.requires.paged in
    omega (arith, many_firsts c.args.pool.now _ paged, c.find_near-k.ensures.within, c.as_slice.ensures.len)

pub items-requires : goal.items-requires
items-requires g c =
    let paged = rw (← c.self.view_is) at c.requires.paged in
    let lt : c.find_near-k.result < length c.self.inside.directory.frames.items = omega (arith, many_firsts c.args.pool.now _ paged, c.find_near-k.ensures.within, c.as_slice.ensures.len) in
    record { held = (paged.held _ (times_at c.self.inside.directory.frames.items c.find_near-k.result _ lt c.index.ensures)).held }

pub returns-clause-to : goal.returns-clause-to
returns-clause-to g c =
    let paged = rw (← c.self.view_is) at c.requires.paged in
    let within = rw (← c.self.view_is) at c.requires.within in
    let at = found_in c.args.pool.now _ c.args.i c.find_near-k.result c.index.result.now c.index-2.result.now _ paged within c.as_slice.ensures.value c.find_near-k.ensures.within c.find_near-k.ensures.from c.find_near-k.ensures.before c.index.ensures c.index-2.ensures in
    rw c.items.ensures (omega (arith, at.before, at.from))

pub returns-clause-items : goal.returns-clause-items
returns-clause-items g c =
    let paged = rw (← c.self.view_is) at c.requires.paged in
    let within = rw (← c.self.view_is) at c.requires.within in
    let at = found_in c.args.pool.now _ c.args.i c.find_near-k.result c.index.result.now c.index-2.result.now _ paged within c.as_slice.ensures.value c.find_near-k.ensures.within c.find_near-k.ensures.from c.find_near-k.ensures.before c.index.ensures c.index-2.ensures in
    rw (← c.self.view_is, c.items.ensures) (frame_lies c.args.pool.now c.self.inside.directory.frames.items c.find_near-k.result c.index.result.now c.index-2.result.now at.within c.index.ensures at.first_is)
