use Rattle.std.proofs.Common.{◌≡◌, ◌<◌, ◌+◌, ◌-◌, ◌/◌, length, refl, sym, ◌∙◌, arith}
use Rattle.paged_seq.specs.Sequences.{sizes_of}
use Rattle.paged_seq.specs.Parts.{paged_of}
use Rattle.paged_seq.proofs.Amounts.{amount_grows, amount_split}
use Rattle.paged_seq.proofs.Bounds.{bracket_all, bracket_less, bracket_low, bracket_high, first_item_as, all_items}
use Rattle.paged_seq.proofs.Splicing.{first_place}
use Rattle.paged_seq.proofs.paged.PagedSeq.bracket.Goals as goal

pub loop-high-init : goal.loop-high-init
loop-high-init g c =
    let many : c.len-high.result ≡ length c.self.inside.directory.frames.items = omega (arith, c.len-high.ensures) in
    record {
      order = omega arith;
      within = omega (arith, many);
      parts = λ p _ _. bracket_all p _ _ _ refl (all_items c.args.pool.now c.self.inside.directory.frames.items c.len-high.result many);
    }

pub loop-high-preserved-then-before : goal.loop-high-preserved-then-before
loop-high-preserved-then-before g c =
    let paged = rw (← c.self.view_is) at c.requires.paged in
    let lt : c.loop-high.low + (c.loop-high.high - c.loop-high.low) / 2 < length c.self.inside.directory.frames.items = omega (arith, c.loop-high.invariant.within) in
    let at = first_item_as c.args.pool.now (paged_of c.self.inside.directory) _ c.index.result.now c.items.result.now c.index-items-0.result paged lt c.index.ensures c.items.ensures c.index-items-0.is in
    record {
      order = omega arith;
      within = c.loop-high.invariant.within;
      parts = λ p gives parted. bracket_less p _ _ _ _ (omega arith)
          (bracket_low p _ _ _ _ c.index-items-0.result (c.loop-high.invariant.parts p gives parted) at.within at.is parted (sym (gives c.index-items-0.result c.before-in-loop-high.result (record { shown = _; shows = refl; says = record { met = c.before-in-loop-high.ensures } })) ∙ c.if-before.true));
    }

pub loop-high-preserved : goal.loop-high-preserved
loop-high-preserved g c =
    let paged = rw (← c.self.view_is) at c.requires.paged in
    let lt : c.loop-high.low + (c.loop-high.high - c.loop-high.low) / 2 < length c.self.inside.directory.frames.items = omega (arith, c.loop-high.invariant.within) in
    let at = first_item_as c.args.pool.now (paged_of c.self.inside.directory) _ c.index.result.now c.items.result.now c.index-items-0.result paged lt c.index.ensures c.items.ensures c.index-items-0.is in
    record {
      order = omega arith;
      within = omega (arith, c.loop-high.invariant.within);
      parts = λ p gives parted. bracket_high p _ _ _ _ c.index-items-0.result (c.loop-high.invariant.parts p gives parted) at.within at.is parted (sym (gives c.index-items-0.result c.before-in-loop-high.result (record { shown = _; shows = refl; says = record { met = c.before-in-loop-high.ensures } })) ∙ c.if-before.false);
    }

pub returns-clause-order : goal.returns-clause-order
returns-clause-order g c =
    let paged = rw (← c.self.view_is) at c.requires.paged in
    omega (
      arith,
      first_place c.args.pool.now (paged_of c.self.inside.directory) c.as_slice.result.now c.loop-high.low c.place.result paged c.as_slice.ensures.value c.place.ensures,
      first_place c.args.pool.now (paged_of c.self.inside.directory) c.as_slice-2.result.now c.loop-high.high c.place-2.result paged c.as_slice-2.ensures.value c.place-2.ensures,
      amount_grows (sizes_of c.args.pool.now c.self.inside.directory.frames.items) _ _ c.loop-high.invariant.order,
    )

pub returns-clause-within : goal.returns-clause-within
returns-clause-within g c =
    let paged = rw (← c.self.view_is) at c.requires.paged in
    rw (← c.self.view_is) (omega (arith, first_place c.args.pool.now (paged_of c.self.inside.directory) c.as_slice-2.result.now c.loop-high.high c.place-2.result paged c.as_slice-2.ensures.value c.place-2.ensures, amount_split (sizes_of c.args.pool.now c.self.inside.directory.frames.items) c.loop-high.high, paged.total))

pub returns-clause-parts : goal.returns-clause-parts
returns-clause-parts g c p gives parted =
    let paged = rw (← c.self.view_is) at c.requires.paged in
    let low = first_place c.args.pool.now (paged_of c.self.inside.directory) c.as_slice.result.now c.loop-high.low c.place.result paged c.as_slice.ensures.value c.place.ensures in
    let high = first_place c.args.pool.now (paged_of c.self.inside.directory) c.as_slice-2.result.now c.loop-high.high c.place-2.result paged c.as_slice-2.ensures.value c.place-2.ensures in
    rw (← c.self.view_is) (rw (low, high) (c.loop-high.invariant.parts p gives (rw (← c.self.view_is) at parted)))
