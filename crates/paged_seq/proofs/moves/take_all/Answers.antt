use Rattle.std.proofs.Common.{◌≡◌, ℕ, ◌+◌, min, arith, ap, ◌∙◌, refl, length, List}
use Rattle.std.proofs.lemmas.List.{length_push}
use Rattle.paged_seq.proofs.Taking.{taking_start_as, taking_more, taking_room, as_many}
use Rattle.paged_seq.proofs.moves.take_all.Goals as goal

pub loop-done-init : goal.loop-done-init
loop-done-init g c = record {
  taking = taking_start_as c.args.pool.now c.args.first c.args.items.now _ _ c.requires.no_frames c.requires.no_firsts;
  frame_room = c.requires.frame_room;
  first_room = c.requires.first_room;
  meter = record { most = omega arith; least = omega arith; rows = refl };
}

pub push_reserved-requires-in-loop-done : goal.push_reserved-requires-in-loop-done
push_reserved-requires-in-loop-done g c =
    let t = c.loop-done.invariant.taking in
    omega (arith, taking_room _ _ _ _ _ _ _ _ t c.loop-done-test.true c.requires.spare, as_many _ _ _ _ _ _ _ _ t, c.loop-done.invariant.first_room)

pub loop-done-preserved : goal.loop-done-preserved
loop-done-preserved g c =
    let t = c.loop-done.invariant.taking in
    let end : c.loop-done.done + c.min.result ≡ min (length c.args.items.now) (c.loop-done.done + c.first_size-size.result) = omega (arith, c.min.ensures, t.within) in
    record {
      taking = taking_more _ _ _ _ _ _ _ c.first_size-size.result _ _ _ _ (c.loop-done.done + c.min.result) c.take-f.result.0 t c.loop-done-test.true c.first_size-size.ensures.size end
          c.take-f.ensures.unused c.take-f.ensures.within c.take-f.ensures.frames c.push_reserved.ensures.items c.push_reserved-in-loop-done.ensures.items;
      frame_room = omega (arith, c.loop-done.invariant.frame_room, c.push_reserved.ensures.capacity);
      first_room = omega (arith, c.loop-done.invariant.first_room, c.push_reserved-in-loop-done.ensures.capacity);
      meter = record {
        most = omega (arith, c.loop-done.invariant.meter.most, c.take-f.ensures.meter.frames, ap (λ (l : List ℕ). length l) c.push_reserved.ensures.items, length_push c.loop-done.frames.items c.take-f.result.0);
        least = omega (arith, c.loop-done.invariant.meter.least, c.take-f.ensures.meter.least);
        rows = c.take-f.ensures.meter.rows ∙ c.loop-done.invariant.meter.rows;
      };
    }
