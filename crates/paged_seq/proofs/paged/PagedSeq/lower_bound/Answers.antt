use Rattle.std.proofs.Common.{◌<◌, ◌+◌, ◌-◌, ◌/◌, length, refl, sym, ◌∙◌, arith}
use Rattle.paged_seq.specs.Sequences.{paged_items}
use Rattle.paged_seq.proofs.Bounds.{length_paged, bracket_low, bracket_high, bracket_parts}
use Rattle.paged_seq.proofs.paged.PagedSeq.lower_bound.Goals as goal

pub get-item-requires : goal.get-item-requires
get-item-requires g c =
    rw c.loop-low.invariant.reader (omega (arith, length_paged c.args.pool.now c.args.self.now c.requires.paged, c.loop-low.invariant.within))

pub loop-low-preserved-then-before : goal.loop-low-preserved-then-before
loop-low-preserved-then-before g c =
    let lt : c.loop-low.low + (c.loop-low.high - c.loop-low.low) / 2 < length (paged_items c.args.pool.now c.args.self.now) = omega (arith, length_paged c.args.pool.now c.args.self.now c.requires.paged, c.loop-low.invariant.within) in
    let item = rw c.loop-low.invariant.reader at c.get-item.ensures.item in
    record {
      order = omega arith;
      within = c.loop-low.invariant.within;
      reader = c.get-item.ensures.same ∙ c.loop-low.invariant.reader;
      parts = λ p gives parted. bracket_low p _ _ _ _ c.get-item.result (c.loop-low.invariant.parts p gives parted) lt item parted (sym (gives c.get-item.result c.before-in-loop-low.result (record { shown = _; shows = refl; says = record { met = c.before-in-loop-low.ensures } })) ∙ c.if-before.true);
    }

pub loop-low-preserved : goal.loop-low-preserved
loop-low-preserved g c =
    let lt : c.loop-low.low + (c.loop-low.high - c.loop-low.low) / 2 < length (paged_items c.args.pool.now c.args.self.now) = omega (arith, length_paged c.args.pool.now c.args.self.now c.requires.paged, c.loop-low.invariant.within) in
    let item = rw c.loop-low.invariant.reader at c.get-item.ensures.item in
    record {
      order = omega arith;
      within = omega (arith, c.loop-low.invariant.within);
      reader = c.get-item.ensures.same ∙ c.loop-low.invariant.reader;
      parts = λ p gives parted. bracket_high p _ _ _ _ c.get-item.result (c.loop-low.invariant.parts p gives parted) lt item parted (sym (gives c.get-item.result c.before-in-loop-low.result (record { shown = _; shows = refl; says = record { met = c.before-in-loop-low.ensures } })) ∙ c.if-before.false);
    }

pub returns-clause-partitioned : goal.returns-clause-partitioned
returns-clause-partitioned g c p gives parted = bracket_parts p _ _ _ (omega (arith, c.loop-low.invariant.order)) (c.loop-low.invariant.parts p gives parted)
