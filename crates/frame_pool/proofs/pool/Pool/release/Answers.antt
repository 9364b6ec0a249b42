use Rattle.std.proofs.Common.{refl, arith}
use Rattle.frame_pool.proofs.Pools.{frame_within, read_count, room_read, view_released_more, view_released_last, stays, leaves, free_within}
use Rattle.frame_pool.proofs.pool.Pool.release.Goals as goal

pub invariant_of-self : goal.invariant_of-self
invariant_of-self g c =
    let held = rw (← c.self.view_is) at c.requires.held in
    let lt = frame_within c.self.inside.frames.items c.args.f.0 held in
    let is = c.index_mut-frame.ensures.value in
    stays _ _ _ _ c.index_mut-frame.result.now _ c.self.invariant lt is (read_count c.self.inside.frames.items c.args.f.0 _ is held) (omega arith) (room_read _ _ _ _ _ c.self.invariant lt is)

pub returns-then-frame-gt1 : goal.returns-then-frame-gt1
returns-then-frame-gt1 g c =
    let held = rw (← c.self.view_is) at c.requires.held in
    rw (← c.self.view_is) (view_released_more c.self.inside.frames.items c.args.f.0 c.index_mut-frame.result.now held c.index_mut-frame.ensures.value c.if-frame-gt1.true)

pub push_reserved-requires : goal.push_reserved-requires
push_reserved-requires g c =
    let held = rw (← c.self.view_is) at c.requires.held in
    omega (arith, free_within c.self.inside.frames.items c.self.inside.free.items _ c.args.f.0 c.self.invariant held)

pub invariant_of-self-2 : goal.invariant_of-self-2
invariant_of-self-2 g c =
    let held = rw (← c.self.view_is) at c.requires.held in
    let lt = frame_within c.self.inside.frames.items c.args.f.0 held in
    let is = c.index_mut-frame.ensures.value in
    rw (c.push_reserved.ensures.items, c.push_reserved.ensures.capacity)
    (leaves _ _ _ _ c.index_mut-frame.result.now _ c.self.invariant lt is (read_count c.self.inside.frames.items c.args.f.0 _ is held) refl c.clear.ensures.items (rw c.clear.ensures.capacity (room_read _ _ _ _ _ c.self.invariant lt is)))

pub returns : goal.returns
returns g c =
    let held = rw (← c.self.view_is) at c.requires.held in
    rw (← c.self.view_is) (view_released_last c.self.inside.frames.items c.args.f.0 c.index_mut-frame.result.now _ held c.index_mut-frame.ensures.value c.if-frame-gt1.false c.clear.ensures.items refl)
