use Rattle.std.proofs.Common.{◌≡◌, ℕ, ◌+◌, ◌-◌, ◌<◌, ◌≤◌, arith, ap, sym, ◌∙◌, List, length, get_or}
use Rattle.paged_seq.specs.Directories.{IsDirectory, place_of}
use Rattle.paged_seq.proofs.Packing.{size_few}
use Rattle.paged_seq.proofs.Places.{many_places, size_at_place}
use Rattle.paged_seq.proofs.Widening.{left_zero, left_stays, left_widens}
use Rattle.paged_seq.proofs.directory.with_left.Goals as goal

-- the size of the frame before
before : (firsts : List ℕ) (len from a b : ℕ) (w : IsDirectory firsts len) → 0 < from → from ≤ length firsts → a ≡ place_of firsts len from → b ≡ place_of firsts len (from - 1) → a ≡ b + get_or w.sizes (from - 1) 256
before firsts len from a b w some within is_a is_b =
    let e : from ≡ from - 1 + 1 = omega arith in
    is_a ∙ ap (place_of firsts len) e ∙ size_at_place firsts len (from - 1) w (omega arith) ∙ ap (λ n. n + get_or w.sizes (from - 1) 256) (sym is_b)

pub returns-then-part-eq0 : goal.returns-then-part-eq0
returns-then-part-eq0 c w = left_zero w.sizes c.args.part w.fit w.packed (omega (arith, many_places _ _ w, c.requires.within)) c.if-part-eq0.true

pub overflow_sub-left : goal.overflow_sub-left
overflow_sub-left c =
    omega (arith, before c.args.firsts.now c.args.len c.args.part.from c.place.result c.place-2.result c.requires.directory (omega (arith, c.if-part-eq0.false)) (omega arith) c.place.ensures c.place-2.ensures)

pub overflow_add-left : goal.overflow_add-left
overflow_add-left c =
    omega (
      arith,
      c.next_size.ensures.few,
      size_few c.requires.directory.sizes (c.args.part.from - 1) c.requires.directory.fit,
      before c.args.firsts.now c.args.len c.args.part.from c.place.result c.place-2.result c.requires.directory (omega (arith, c.if-part-eq0.false)) (omega arith) c.place.ensures c.place-2.ensures,
    )

pub returns-then-left-next_size-gt256 : goal.returns-then-left-next_size-gt256
returns-then-left-next_size-gt256 c w =
    let b = before c.args.firsts.now c.args.len c.args.part.from c.place.result c.place-2.result w (omega (arith, c.if-part-eq0.false)) (omega arith) c.place.ensures c.place-2.ensures in
    left_stays w.sizes c.args.part (c.place.result - c.place-2.result) c.next_size.result w.fit w.packed c.requires.order (omega (arith, many_places _ _ w, c.requires.within)) (omega (arith, c.if-part-eq0.false))
    (omega (arith, b)) c.next_size.ensures.some (λ none. c.next_size.ensures.none none w) (omega arith)

pub returns : goal.returns
returns c w =
    let b = before c.args.firsts.now c.args.len c.args.part.from c.place.result c.place-2.result w (omega (arith, c.if-part-eq0.false)) (omega arith) c.place.ensures c.place-2.ensures in
    left_widens w.sizes c.args.part (c.place.result - c.place-2.result) c.next_size.result w.fit w.packed c.requires.order (omega (arith, many_places _ _ w, c.requires.within)) (omega (arith, c.if-part-eq0.false))
    (omega (arith, b)) c.next_size.ensures.some (omega arith)
