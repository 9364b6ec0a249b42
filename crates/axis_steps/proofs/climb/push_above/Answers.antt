use Rattle.std.proofs.Common.{arith, ap, ◌∙◌, ◌-◌}
use Rattle.axis_cursor.proofs.Relations.{read_on}
use Rattle.tree_model.specs.declared.row.Row.{Row}
use Rattle.axis_steps.proofs.Standing.{row_named, row_tested, upwards, stands_up, climbs_first, climbed_push, climbed_past, climbed_all}
use Rattle.axis_steps.proofs.Nesting.{big}
use Rattle.axis_steps.proofs.climb.push_above.Goals as goal

pub loop-row-init : goal.loop-row-init
loop-row-init c =
    let laid = c.requires.standing.laid in
    record {
      within = c.requires.within;
      row = c.row_at-row.ensures.row;
      before = omega arith;
      holds = omega (arith, big c.args.reader.now laid c.args.place c.requires.within);
      found = climbs_first c.args.names.now c.args.reader.now c.args.step.now c.args.place c.args.last c.args.found.now.items;
      rows = c.row_at-row.ensures.rows;
      meter = c.row_at-row.ensures.meter;
    }

pub overflow_sub-at : goal.overflow_sub-at
overflow_sub-at c =
    let laid = c.requires.standing.laid in
    (upwards c.args.reader.now laid c.loop-row.at c.loop-row.row c.loop-row.invariant.within c.loop-row.invariant.row c.loop-row-test.true).le

pub overflow_sub-at-in-loop-row : goal.overflow_sub-at-in-loop-row
overflow_sub-at-in-loop-row c =
    let laid = c.requires.standing.laid in
    (upwards c.args.reader.now laid c.loop-row.at c.loop-row.row c.loop-row.invariant.within c.loop-row.invariant.row c.loop-row-test.true).le

pub passes-requires : goal.passes-requires
passes-requires c =
    let laid = c.requires.standing.laid in
    let u = upwards c.args.reader.now laid c.loop-row.at c.loop-row.row c.loop-row.invariant.within c.loop-row.invariant.row c.loop-row-test.true in
    row_named c.args.names.now c.args.reader.now c.requires.standing (c.loop-row.at - c.loop-row.row.dist) c.row_at-row-in-loop-row.result u.within (rw c.loop-row.invariant.rows at c.row_at-row-in-loop-row.ensures.row)

pub loop-row-preserved-in-Continue-1 : goal.loop-row-preserved-in-Continue-1
loop-row-preserved-in-Continue-1 c =
    let rows = c.args.reader.now in
    let names = c.args.names.now in
    let laid = c.requires.standing.laid in
    let u = upwards rows laid c.loop-row.at c.loop-row.row c.loop-row.invariant.within c.loop-row.invariant.row c.loop-row-test.true in
    let s = stands_up rows laid c.loop-row.at c.args.place c.loop-row.row.dist c.loop-row.invariant.within u c.loop-row.invariant.before c.loop-row.invariant.holds in
    let is = rw c.loop-row.invariant.rows at c.row_at-row-in-loop-row.ensures.row in
    let passed = row_tested names rows c.args.step.now (c.loop-row.at - c.loop-row.row.dist) c.row_at-row-in-loop-row.result c.passes.result is c.passes.ensures ∙ c.if-passes.true in
    let found = climbed_push names rows laid c.args.step.now c.args.place c.args.last c.loop-row.at (c.loop-row.at - c.loop-row.row.dist) c.args.found.now.items c.loop-row.found.items
    c.loop-row.invariant.within c.loop-row.invariant.before c.loop-row.invariant.holds u.less u.is_up c.if-at-row.true u.within s.1 c.loop-row.invariant.found passed in
    record { within = u.within; row = is; before = s.0; holds = s.1; found = rw c.in_ok-push.ensures.items found; rows = c.row_at-row-in-loop-row.ensures.rows ∙ c.loop-row.invariant.rows; meter = read_on _ _ _ c.loop-row.invariant.meter c.row_at-row-in-loop-row.ensures.meter }

pub loop-row-preserved : goal.loop-row-preserved
loop-row-preserved c =
    let rows = c.args.reader.now in
    let names = c.args.names.now in
    let laid = c.requires.standing.laid in
    let u = upwards rows laid c.loop-row.at c.loop-row.row c.loop-row.invariant.within c.loop-row.invariant.row c.loop-row-test.true in
    let s = stands_up rows laid c.loop-row.at c.args.place c.loop-row.row.dist c.loop-row.invariant.within u c.loop-row.invariant.before c.loop-row.invariant.holds in
    let is = rw c.loop-row.invariant.rows at c.row_at-row-in-loop-row.ensures.row in
    let passed = row_tested names rows c.args.step.now (c.loop-row.at - c.loop-row.row.dist) c.row_at-row-in-loop-row.result c.passes.result is c.passes.ensures ∙ c.if-passes.false in
    record {
      within = u.within;
      row = is;
      before = s.0;
      holds = s.1;
      found = climbed_past names rows laid c.args.step.now c.args.place c.args.last c.loop-row.at (c.loop-row.at - c.loop-row.row.dist) c.args.found.now.items c.loop-row.found.items
          c.loop-row.invariant.within c.loop-row.invariant.before c.loop-row.invariant.holds u.less u.is_up c.if-at-row.true u.within s.1 c.loop-row.invariant.found passed;
      rows = c.row_at-row-in-loop-row.ensures.rows ∙ c.loop-row.invariant.rows;
      meter = read_on _ _ _ c.loop-row.invariant.meter c.row_at-row-in-loop-row.ensures.meter;
    }

pub returns-else-at-row-clause-climbed : goal.returns-else-at-row-clause-climbed
returns-else-at-row-clause-climbed c =
    let rows = c.args.reader.now in
    let names = c.args.names.now in
    let laid = c.requires.standing.laid in
    let u = upwards rows laid c.loop-row.at c.loop-row.row c.loop-row.invariant.within c.loop-row.invariant.row c.loop-row-test.true in
    climbed_all names rows laid c.args.step.now c.args.place c.args.last c.loop-row.at c.args.found.now.items c.loop-row.found.items c.loop-row.invariant.within c.loop-row.invariant.before c.loop-row.invariant.holds
    (λ pos. omega (arith, u.is_up, c.if-at-row.false)) c.loop-row.invariant.found

pub returns-after-loop-row-clause-climbed : goal.returns-after-loop-row-clause-climbed
returns-after-loop-row-clause-climbed c =
    let rows = c.args.reader.now in
    let names = c.args.names.now in
    let laid = c.requires.standing.laid in
    climbed_all names rows laid c.args.step.now c.args.place c.args.last c.loop-row.at c.args.found.now.items c.loop-row.found.items c.loop-row.invariant.within c.loop-row.invariant.before c.loop-row.invariant.holds
    (λ pos. absurd (omega (arith, pos, c.loop-row-test.false, ap (λ (r : Row). r.dist) c.loop-row.invariant.row))) c.loop-row.invariant.found
