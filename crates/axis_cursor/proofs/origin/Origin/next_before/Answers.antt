use Rattle.std.proofs.Common.{◌≡◌, ◌-◌, refl, sym, ◌∙◌, arith, inl, inr}
use Rattle.std.proofs.lemmas.Bool.{cases_lt}
use Rattle.axis_cursor.specs.Walks.{is_node_aside}
use Rattle.axis_cursor.proofs.Backwards.{aside_found, aside_less, aside_up, aside_done, above_aside, above_is, attribute_aside, passed_more}
use Rattle.axis_cursor.proofs.Relations.{dist_told, kind_told, read_on}
use Rattle.axis_cursor.proofs.origin.Origin.next_before.Goals as goal

pub returns-then-not-is_attribute-clause-last : goal.returns-then-not-is_attribute-clause-last
returns-then-not-is_attribute-clause-last c =
    let rows = c.args.reader.now in
    let is = rw c.loop-at.invariant.rows at c.row_at-row.ensures.row in (
      aside_found rows c.requires.placed.laid c.args.self.context c.args.at.now c.loop-at.at c.loop-at.above c.row_at-row.result c.requires.placed.within c.loop-at.invariant.at c.loop-at.invariant.back c.loop-at.invariant.passed
          c.if-at-above.true is (kind_told rows (c.loop-at.at - 1) c.row_at-row.result _ _ is c.is_attribute.ensures c.if-not-is_attribute.true),
      refl,
    )

pub loop-at-preserved-else-not-is_attribute : goal.loop-at-preserved-else-not-is_attribute
loop-at-preserved-else-not-is_attribute c =
    let rows = c.args.reader.now in
    let is = rw c.loop-at.invariant.rows at c.row_at-row.ensures.row in
    let kind = kind_told rows (c.loop-at.at - 1) c.row_at-row.result _ _ is c.is_attribute.ensures c.if-not-is_attribute.false in
    record {
      at = aside_less rows c.requires.placed.laid c.args.self.context c.loop-at.at c.loop-at.above (c.loop-at.at - 1) c.loop-at.invariant.at (omega arith) (omega arith);
      back = omega arith;
      passed = passed_more rows c.requires.placed.laid (is_node_aside rows c.args.self.context) c.loop-at.at c.args.at.now c.loop-at.invariant.passed (attribute_aside rows c.requires.placed.laid c.args.self.context (c.loop-at.at - 1) kind);
      rows = c.row_at-row.ensures.rows ∙ c.loop-at.invariant.rows;
      meter = read_on _ _ _ c.loop-at.invariant.meter c.row_at-row.ensures.meter;
    }

pub returns-then-row-eq0-clause-last : goal.returns-then-row-eq0-clause-last
returns-then-row-eq0-clause-last c =
    let rows = c.args.reader.now in
    let is = rw c.loop-at.invariant.rows at c.row_at-row.ensures.row in
    let root = sym (dist_told rows (c.loop-at.at - 1) c.row_at-row.result is) ∙ c.if-row-eq0.true in
    let here : c.loop-at.at - 1 ≡ c.loop-at.above = omega arith in
    λ k before. elim (cases_lt k c.loop-at.at) [
      | inl low ↦ aside_done rows c.requires.placed.laid c.args.self.context c.loop-at.at c.loop-at.above k c.requires.placed.within c.loop-at.invariant.at (rw here at root) (omega arith)
      | inr high ↦ c.loop-at.invariant.passed k high before
    ]

pub loop-at-preserved : goal.loop-at-preserved
loop-at-preserved c =
    let rows = c.args.reader.now in
    let is = rw c.loop-at.invariant.rows at c.row_at-row.ensures.row in
    let here : c.loop-at.at - 1 ≡ c.loop-at.above = omega arith in
    let dist = rw here at (dist_told rows (c.loop-at.at - 1) c.row_at-row.result is) in
    record {
      at = rw here (aside_up rows c.requires.placed.laid c.args.self.context c.loop-at.at c.loop-at.above c.row_at-row.result.dist c.requires.placed.within c.loop-at.invariant.at dist c.if-row-eq0.false);
      back = omega arith;
      passed = passed_more rows c.requires.placed.laid (is_node_aside rows c.args.self.context) c.loop-at.at c.args.at.now c.loop-at.invariant.passed
          (rw here (above_aside rows c.requires.placed.laid c.args.self.context c.loop-at.above (above_is rows c.requires.placed.laid c.args.self.context c.loop-at.at c.loop-at.above c.loop-at.invariant.at)));
      rows = c.row_at-row.ensures.rows ∙ c.loop-at.invariant.rows;
      meter = read_on _ _ _ c.loop-at.invariant.meter c.row_at-row.ensures.meter;
    }
