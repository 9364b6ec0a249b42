use Rattle.std.proofs.Common.{refl}
use Rattle.paged_seq.specs.Parts.{paged_of}
use Rattle.paged_seq.proofs.Splicing.{directory_as}
use Rattle.paged_seq.proofs.Reserved.{found_change, early_part, late_paged, late_change, late_middle, late_changed}
use Rattle.paged_seq.proofs.paged.PagedSeq.splice.Goals as goal

pub find_part-part-requires-clause-directory : goal.find_part-part-requires-clause-directory
find_part-part-requires-clause-directory g c =
    let paged = rw (← c.self.view_is) at c.requires.paged in
    directory_as c.args.pool.now (paged_of c.self.inside.directory) _ paged c.as_slice-firsts.ensures.value

pub prepare-requires-clause-part : goal.prepare-requires-clause-part
prepare-requires-clause-part g c =
    let paged = rw (← c.self.view_is) at c.requires.paged in
    early_part c.args.pool.now (paged_of c.self.inside.directory) _ _ _ _ _ c.as_slice-frames.ensures.value
    (found_change c.args.pool.now (paged_of c.self.inside.directory) _ _ _ _ _ paged c.as_slice-firsts.ensures.value c.find_part-part.ensures)

pub rewrite_part-requires-clause-paged : goal.rewrite_part-requires-clause-paged
rewrite_part-requires-clause-paged g c =
    let paged = rw (← c.self.view_is) at c.requires.paged in
    late_paged c.args.pool.now _ _ (paged_of c.self.inside.directory) _ _ paged c.in_ok-reserve-3.ensures.ok c.reserve.ensures.items c.reserve-2.ensures.items

pub rewrite_part-requires-clause-change : goal.rewrite_part-requires-clause-change
rewrite_part-requires-clause-change g c =
    let paged = rw (← c.self.view_is) at c.requires.paged in
    late_change c.args.pool.now _ _ (paged_of c.self.inside.directory) _ _ _ _ _ paged c.in_ok-reserve-3.ensures.ok c.reserve.ensures.items
    (found_change c.args.pool.now (paged_of c.self.inside.directory) _ _ _ _ _ paged c.as_slice-firsts.ensures.value c.find_part-part.ensures)

pub rewrite_part-requires-clause-ready : goal.rewrite_part-requires-clause-ready
rewrite_part-requires-clause-ready g c =
    let paged = rw (← c.self.view_is) at c.requires.paged in
    let ready = c.in_ok-ready.ensures in
    record {
      items_are = late_middle c.args.pool.now _ _ (paged_of c.self.inside.directory) _ _ _ _ c.find_part-part.result _ _ _ paged c.in_ok-reserve-3.ensures.ok c.reserve.ensures.items c.as_slice-frames.ensures.value ready.items_are refl;
      no_frames = ready.no_frames;
      no_places = ready.no_places;
      frame_room = ready.frame_room;
      place_room = ready.place_room;
    }

pub returns-clause-ok : goal.returns-clause-ok
returns-clause-ok g c =
    let paged = rw (← c.self.view_is) at c.requires.paged in
    rw (← c.self.view_is)
    (late_changed c.args.pool.now _ _ _ (paged_of c.self.inside.directory) _ _ _ c.args.at c.args.removed c.args.items.now paged c.in_ok-reserve-3.ensures.ok c.reserve.ensures.items c.rewrite_part.ensures.changed)
