use Rattle.std.proofs.Common.{◌<◌, ◌≤◌, refl, ◌∙◌, arith}
use Rattle.node_table.specs.Laid.{dist_at, up}
use Rattle.axis_cursor.proofs.Backwards.{climb_begins, climb_on, below_parent, sibling_found, sibling_at, siblings_end, siblings_begin}
use Rattle.axis_cursor.proofs.Relations.{dist_told, kind_told, read_on}
use Rattle.axis_cursor.proofs.origin.Origin.next_tree_before.Goals as goal

pub loop-here-init : goal.loop-here-init
loop-here-init c = record {
  climbing = climb_begins c.args.reader.now c.requires.laid c.args.parent c.args.at.now c.requires.at;
  rows = refl;
  meter = record { rows = omega arith; frames = refl };
}

pub returns-then-is_attribute-clause-last : goal.returns-then-is_attribute-clause-last
returns-then-is_attribute-clause-last c =
    let rows = c.args.reader.now in
    let is = rw c.loop-here.invariant.rows at c.row_at-row.ensures.row in
    siblings_end rows c.requires.laid c.args.parent c.args.at.now c.loop-here.here c.row_at-row.result c.requires.at c.loop-here.invariant.climbing c.loop-here-test.true is c.if-here-row.true
    (kind_told rows c.loop-here.here c.row_at-row.result _ _ is c.is_attribute.ensures c.if-is_attribute.true)

pub returns-then-here-row-clause-last : goal.returns-then-here-row-clause-last
returns-then-here-row-clause-last c =
    let rows = c.args.reader.now in
    let is = rw c.loop-here.invariant.rows at c.row_at-row.ensures.row in (
      sibling_found rows c.requires.laid c.args.parent c.args.at.now c.loop-here.here c.row_at-row.result c.requires.at c.loop-here.invariant.climbing c.loop-here-test.true is c.if-here-row.true
          (kind_told rows c.loop-here.here c.row_at-row.result _ _ is c.is_attribute.ensures c.if-is_attribute.false),
      refl,
    )

pub returns-then-here-row-clause-at : goal.returns-then-here-row-clause-at
returns-then-here-row-clause-at c =
    let rows = c.args.reader.now in
    let is = rw c.loop-here.invariant.rows at c.row_at-row.ensures.row in
    sibling_at rows c.requires.laid c.args.parent c.args.at.now c.loop-here.here c.row_at-row.result c.requires.at c.loop-here.invariant.climbing c.loop-here-test.true is c.if-here-row.true
    (kind_told rows c.loop-here.here c.row_at-row.result _ _ is c.is_attribute.ensures c.if-is_attribute.false)

pub loop-here-smaller : goal.loop-here-smaller
loop-here-smaller c =
    let rows = c.args.reader.now in
    let is = rw c.loop-here.invariant.rows at c.row_at-row.ensures.row in
    let low : c.args.parent ≤ c.loop-here.here = c.loop-here.invariant.climbing.low in
    let both = below_parent rows c.requires.laid c.args.parent c.args.at.now c.loop-here.here c.requires.at (omega arith) c.loop-here.invariant.climbing.high in
    let below : 0 < dist_at rows c.loop-here.here = both.0 in
    let near : c.args.parent ≤ up rows c.loop-here.here = both.1 in
    omega (arith, dist_told rows c.loop-here.here c.row_at-row.result is)

pub loop-here-preserved : goal.loop-here-preserved
loop-here-preserved c =
    let rows = c.args.reader.now in
    let is = rw c.loop-here.invariant.rows at c.row_at-row.ensures.row in
    record {
      climbing = climb_on rows c.requires.laid c.args.parent c.args.at.now c.loop-here.here c.row_at-row.result.dist c.requires.at c.loop-here.invariant.climbing c.loop-here-test.true
          (dist_told rows c.loop-here.here c.row_at-row.result is) c.if-here-row.false;
      rows = c.row_at-row.ensures.rows ∙ c.loop-here.invariant.rows;
      meter = read_on _ _ _ c.loop-here.invariant.meter c.row_at-row.ensures.meter;
    }

pub returns-clause-last : goal.returns-clause-last
returns-clause-last c =
    siblings_begin c.args.reader.now c.requires.laid c.args.parent c.args.at.now c.loop-here.here c.loop-here.invariant.climbing c.loop-here-test.false
