use Rattle.std.proofs.Common.{ℕ, List, length, arith, ap, ◌∙◌}
use Rattle.paged_seq.specs.Parts.{paged_of}
use Rattle.paged_seq.proofs.Splicing.{held_part, part_within_firsts, middle_fits, places_over, places_fit, first_place, rewritten, as_many_places}
use Rattle.paged_seq.proofs.moves.rewrite_part.Goals as goal

pub release_part-requires-clause-held : goal.release_part-requires-clause-held
release_part-requires-clause-held g c f =
    rw c.as_slice-2.ensures.value (held_part c.args.pool.now (paged_of c.args.directory.now) c.args.part.from c.args.part.to c.requires.paged c.requires.change.is.order f)

pub take_all-requires-clause-fits : goal.take_all-requires-clause-fits
take_all-requires-clause-fits g c =
    omega (
      arith,
      middle_fits c.args.pool.now (paged_of c.args.directory.now) c.args.change.now.at c.args.change.now.removed c.args.change.now.items.now c.as_slice-3.result.now c.args.part c.requires.paged c.requires.within c.requires.change.is (c.as_slice-3.ensures.value ∙ c.requires.ready.items_are) c.requires.fits,
      first_place c.args.pool.now (paged_of c.args.directory.now) _ c.args.part.from c.place-first.result c.requires.paged c.as_slice.ensures.value c.place-first.ensures,
    )

pub replace_part-requires-clause-firsts_within : goal.replace_part-requires-clause-firsts_within
replace_part-requires-clause-firsts_within g c =
    part_within_firsts c.args.pool.now (paged_of c.args.directory.now) _ _ _ c.args.part c.requires.paged c.requires.change.is

pub replace_part-requires-clause-first_room : goal.replace_part-requires-clause-first_room
replace_part-requires-clause-first_room g c =
    omega (arith, c.requires.first_room, as_many_places _ _ _ _ _ _ c.take_all.ensures.taken, c.as_slice-5.ensures.len, ap (λ (l : List ℕ). length l) c.as_slice-5.ensures.value)

pub replace_part-requires-clause-over : goal.replace_part-requires-clause-over
replace_part-requires-clause-over g c =
    places_over c.args.pool.now (paged_of c.args.directory.now) c.args.change.now.at c.args.change.now.removed _ c.args.part c.requires.paged c.requires.change.is

pub replace_part-requires-clause-fits : goal.replace_part-requires-clause-fits
replace_part-requires-clause-fits g c =
    places_fit c.args.pool.now (paged_of c.args.directory.now) c.args.change.now.at c.args.change.now.removed _ c.args.part c.requires.paged c.requires.change.is c.requires.fits

pub returns-clause-changed : goal.returns-clause-changed
returns-clause-changed g c =
    rewritten c.args.pool.now c.release_part.new.pool c.take_all.new.pool (paged_of c.args.directory.now) c.args.change.now.at c.args.change.now.removed c.args.change.now.items.now c.as_slice-3.result.now c.args.part _ _ _ _ _ _ _ c.place-first.result
    c.requires.paged c.requires.within c.requires.change (c.as_slice-3.ensures.value ∙ c.requires.ready.items_are) c.release_part.ensures.moved c.as_slice-2.ensures.value c.take_all.ensures.taken
    (first_place c.args.pool.now (paged_of c.args.directory.now) _ c.args.part.from c.place-first.result c.requires.paged c.as_slice.ensures.value c.place-first.ensures)
    c.as_slice-4.ensures.value c.as_slice-5.ensures.value c.replace_part.ensures.frames c.replace_part.ensures.firsts
