use Rattle.std.proofs.Common.{ℕ, ◌+◌, ◌-◌, arith}
use Rattle.std.proofs.lemmas.List.{get_or_default}
use Rattle.std.proofs.lemmas.List.Edits.{map_over_more}
use Rattle.paged_seq.proofs.replace.move_places.Goals as goal

pub loop-place-preserved : goal.loop-place-preserved
loop-place-preserved c =
    map_over_more (λ (x : ℕ). x - c.args.less + c.args.more) c.args.places.now c.loop-place.places c.loop-place.place-index _ c.loop-place-test.true c.loop-place.invariant
    (get_or_default c.loop-place.places c.loop-place.place-index 0 _ (omega arith))
