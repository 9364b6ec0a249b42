use Rattle.std.proofs.Common.{arith, ◌∙◌, sym, ◌-◌}
use Rattle.paged_seq.proofs.Items.{found_in, many_firsts, some_firsts, zero_first}
use Rattle.paged_seq.proofs.Patching.{patch_in_place, patch_moved, held_late}
use Rattle.frame_pool.specs.Frames.{items_at}
use Rattle.std.proofs.lemmas.List.{length-set}
use Rattle.paged_seq.proofs.paged.PagedSeq.patch.Goals as goal

pub find-k-requires-clause-some : goal.find-k-requires-clause-some
find-k-requires-clause-some g c =
    let paged = rw (← c.self.view_is) at c.requires.paged in
    let within = rw (← c.self.view_is) at c.requires.within in
    rw c.as_slice.ensures.value (some_firsts c.args.pool.now _ _ paged within)

pub find-k-requires-clause-from : goal.find-k-requires-clause-from
find-k-requires-clause-from g c =
    let paged = rw (← c.self.view_is) at c.requires.paged in
    let within = rw (← c.self.view_is) at c.requires.within in
    let some = some_firsts c.args.pool.now _ _ paged within in
    rw c.as_slice.ensures.value (omega (arith, zero_first c.args.pool.now _ 0 paged some))

pub index-requires : goal.index-requires
index-requires g c =
    let paged = rw (← c.self.view_is) at c.requires.paged in
    omega (arith, many_firsts c.args.pool.now _ paged, c.find-k.ensures.within, c.as_slice.ensures.len)

pub count-requires : goal.count-requires
count-requires g c =
    let paged = rw (← c.self.view_is) at c.requires.paged in
    let within = rw (← c.self.view_is) at c.requires.within in
    let at = found_in c.args.pool.now _ c.args.i c.find-k.result c.index.result.now c.index-2.result.now _ paged within c.as_slice.ensures.value c.find-k.ensures.within c.find-k.ensures.from c.find-k.ensures.before c.index.ensures c.index-2.ensures in
    record { held = at.frame.held }

pub rewrite_item-requires-clause-within : goal.rewrite_item-requires-clause-within
rewrite_item-requires-clause-within g c =
    let paged = rw (← c.self.view_is) at c.requires.paged in
    let within = rw (← c.self.view_is) at c.requires.within in
    let at = found_in c.args.pool.now _ c.args.i c.find-k.result c.index.result.now c.index-2.result.now _ paged within c.as_slice.ensures.value c.find-k.ensures.within c.find-k.ensures.from c.find-k.ensures.before c.index.ensures c.index-2.ensures in
    at.before

pub with_item-requires-clause-held : goal.with_item-requires-clause-held
with_item-requires-clause-held g c =
    let paged = rw (← c.self.view_is) at c.requires.paged in
    let within = rw (← c.self.view_is) at c.requires.within in
    let at = found_in c.args.pool.now _ c.args.i c.find-k.result c.index.result.now c.index-2.result.now _ paged within c.as_slice.ensures.value c.find-k.ensures.within c.find-k.ensures.from c.find-k.ensures.before c.index.ensures c.index-2.ensures in
    at.frame.held

pub with_item-requires-clause-within : goal.with_item-requires-clause-within
with_item-requires-clause-within g c =
    let paged = rw (← c.self.view_is) at c.requires.paged in
    let within = rw (← c.self.view_is) at c.requires.within in
    let at = found_in c.args.pool.now _ c.args.i c.find-k.result c.index.result.now c.index-2.result.now _ paged within c.as_slice.ensures.value c.find-k.ensures.within c.find-k.ensures.from c.find-k.ensures.before c.index.ensures c.index-2.ensures in
    at.before

pub returns-then-count-eq1-clause-ok : goal.returns-then-count-eq1-clause-ok
returns-then-count-eq1-clause-ok g c =
    let paged = rw (← c.self.view_is) at c.requires.paged in
    let within = rw (← c.self.view_is) at c.requires.within in
    let at = found_in c.args.pool.now _ c.args.i c.find-k.result c.index.result.now c.index-2.result.now _ paged within c.as_slice.ensures.value c.find-k.ensures.within c.find-k.ensures.from c.find-k.ensures.before c.index.ensures c.index-2.ensures in
    rw (← c.self.view_is) (patch_in_place c.args.pool.now _ _ c.args.i c.find-k.result c.index.result.now c.index-2.result.now c.args.item paged at c.index.ensures (sym c.count.ensures ∙ c.if-count-eq1.true) c.rewrite_item.ensures.frames)

pub release-requires : goal.release-requires
release-requires g c =
    let paged = rw (← c.self.view_is) at c.requires.paged in
    let within = rw (← c.self.view_is) at c.requires.within in
    let at = found_in c.args.pool.now _ c.args.i c.find-k.result c.index.result.now c.index-2.result.now _ paged within c.as_slice.ensures.value c.find-k.ensures.within c.find-k.ensures.from c.find-k.ensures.before c.index.ensures c.index-2.ensures in
    record { held = held_late c.args.pool.now _ 1 c.index.result.now c.in_ok-reserve.ensures.ok at.frame.held }

pub take-new-requires-clause-some : goal.take-new-requires-clause-some
take-new-requires-clause-some g c =
    let paged = rw (← c.self.view_is) at c.requires.paged in
    let within = rw (← c.self.view_is) at c.requires.within in
    let at = found_in c.args.pool.now _ c.args.i c.find-k.result c.index.result.now c.index-2.result.now _ paged within c.as_slice.ensures.value c.find-k.ensures.within c.find-k.ensures.from c.find-k.ensures.before c.index.ensures c.index-2.ensures in
    rw (c.as_slice-2.ensures.value, c.in_ok-items.ensures) (omega (arith, length-set (items_at c.args.pool.now c.index.result.now) (c.args.i - c.index-2.result.now) c.args.item, at.frame.some))

pub take-new-requires-clause-few : goal.take-new-requires-clause-few
take-new-requires-clause-few g c =
    let paged = rw (← c.self.view_is) at c.requires.paged in
    let within = rw (← c.self.view_is) at c.requires.within in
    let at = found_in c.args.pool.now _ c.args.i c.find-k.result c.index.result.now c.index-2.result.now _ paged within c.as_slice.ensures.value c.find-k.ensures.within c.find-k.ensures.from c.find-k.ensures.before c.index.ensures c.index-2.ensures in
    rw (c.as_slice-2.ensures.value, c.in_ok-items.ensures) (omega (arith, length-set (items_at c.args.pool.now c.index.result.now) (c.args.i - c.index-2.result.now) c.args.item, at.frame.few))

pub index_mut-requires : goal.index_mut-requires
index_mut-requires g c =
    let paged = rw (← c.self.view_is) at c.requires.paged in
    let within = rw (← c.self.view_is) at c.requires.within in
    let at = found_in c.args.pool.now _ c.args.i c.find-k.result c.index.result.now c.index-2.result.now _ paged within c.as_slice.ensures.value c.find-k.ensures.within c.find-k.ensures.from c.find-k.ensures.before c.index.ensures c.index-2.ensures in
    omega (arith, at.within)

pub returns-clause-ok : goal.returns-clause-ok
returns-clause-ok g c =
    let paged = rw (← c.self.view_is) at c.requires.paged in
    let within = rw (← c.self.view_is) at c.requires.within in
    let at = found_in c.args.pool.now _ c.args.i c.find-k.result c.index.result.now c.index-2.result.now _ paged within c.as_slice.ensures.value c.find-k.ensures.within c.find-k.ensures.from c.find-k.ensures.before c.index.ensures c.index-2.ensures in
    rw (← c.self.view_is)
    (patch_moved c.args.pool.now c.reserve.new.self c.release.new.self c.take-new.new.self _ c.args.i c.find-k.result c.index.result.now c.index-2.result.now c.take-new.result.0 c.args.item c.in_ok-items.items.items c.as_slice-2.result.now paged at c.index.ensures
    c.in_ok-reserve.ensures.ok c.release.ensures c.take-new.ensures.unused c.take-new.ensures.within c.take-new.ensures.frames c.as_slice-2.ensures.value c.in_ok-items.ensures)
