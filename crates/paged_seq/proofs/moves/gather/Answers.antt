use Rattle.std.proofs.Common.{arith, ap, ◌-◌, ◌+◌}
use Rattle.paged_seq.proofs.Splicing.{directory_of, gathering, gathered_is}
use Rattle.paged_seq.proofs.moves.gather.Goals as goal

pub locate-last-requires-clause-directory : goal.locate-last-requires-clause-directory
locate-last-requires-clause-directory g c = directory_of c.args.pool.now (record { frames = c.args.frames.now; firsts = c.args.firsts.now; total = c.args.len }) c.requires.paged

pub overflow_sub-behind : goal.overflow_sub-behind
overflow_sub-behind g c =
    let e = gathering c.args.pool.now (record { frames = c.args.frames.now; firsts = c.args.firsts.now; total = c.args.len }) c.args.change.now.at (c.args.change.now.at + c.args.change.now.removed) c.locate-last.result _ c.args.part c.requires.paged (omega arith) c.requires.within c.requires.part c.locate-last.ensures in
    omega (arith, e.to_is, c.requires.part.to, c.place-2.ensures)

pub overflow_sub-change : goal.overflow_sub-change
overflow_sub-change g c =
    let e = gathering c.args.pool.now (record { frames = c.args.frames.now; firsts = c.args.firsts.now; total = c.args.len }) c.args.change.now.at (c.args.change.now.at + c.args.change.now.removed) c.locate-last.result _ c.args.part c.requires.paged (omega arith) c.requires.within c.requires.part c.locate-last.ensures in
    omega (arith, e.from_is, c.requires.part.from, c.place-first.ensures)

pub copy_items-requires-clause-within : goal.copy_items-requires-clause-within
copy_items-requires-clause-within g c =
    let e = gathering c.args.pool.now (record { frames = c.args.frames.now; firsts = c.args.firsts.now; total = c.args.len }) c.args.change.now.at (c.args.change.now.at + c.args.change.now.removed) c.locate-last.result _ c.args.part c.requires.paged (omega arith) c.requires.within c.requires.part c.locate-last.ensures in
    rw c.place-first.ensures e.front_fits

pub copy_items-requires-2-clause-within : goal.copy_items-requires-2-clause-within
copy_items-requires-2-clause-within g c =
    let e = gathering c.args.pool.now (record { frames = c.args.frames.now; firsts = c.args.firsts.now; total = c.args.len }) c.args.change.now.at (c.args.change.now.at + c.args.change.now.removed) c.locate-last.result _ c.args.part c.requires.paged (omega arith) c.requires.within c.requires.part c.locate-last.ensures in
    rw (c.place.ensures, c.place-2.ensures) e.back_fits

pub copy_items-requires-2-clause-skips : goal.copy_items-requires-2-clause-skips
copy_items-requires-2-clause-skips g c =
    let e = gathering c.args.pool.now (record { frames = c.args.frames.now; firsts = c.args.firsts.now; total = c.args.len }) c.args.change.now.at (c.args.change.now.at + c.args.change.now.removed) c.locate-last.result _ c.args.part c.requires.paged (omega arith) c.requires.within c.requires.part c.locate-last.ensures in
    rw c.place.ensures e.back_skips

pub returns : goal.returns
returns g c =
    let e = gathering c.args.pool.now (record { frames = c.args.frames.now; firsts = c.args.firsts.now; total = c.args.len }) c.args.change.now.at (c.args.change.now.at + c.args.change.now.removed) c.locate-last.result _ c.args.part c.requires.paged (omega arith) c.requires.within c.requires.part c.locate-last.ensures in
    gathered_is c.args.pool.now _ c.args.change.now.at (c.args.change.now.at + c.args.change.now.removed) c.locate-last.result c.args.part c.args.change.now.items.now _ _ _ _ _ _ _ e c.place-first.ensures (ap (λ n. (c.args.change.now.at + c.args.change.now.removed) - n) c.place.ensures) (ap (λ n. n - (c.args.change.now.at + c.args.change.now.removed)) c.place-2.ensures)
    c.in_ok-all.ensures.items c.in_ok-copy_items.ensures c.in_ok-extend_from_slice.ensures.items c.in_ok-copy_items-2.ensures
