use Rattle.std.proofs.Common.{arith, ◌∙◌, refl, subst, ℕ, ◌+◌}
use Rattle.axis_cursor.proofs.Relations.{read_on}
use Rattle.axis_steps.specs.Steps.{HasRows}
use Rattle.axis_steps.proofs.Descendants.{rows_none, rows_joined}
use Rattle.axis_steps.proofs.below.push_rows.Goals as goal

pub loop-at-init : goal.loop-at-init
loop-at-init c = record {
  from = omega arith;
  order = c.requires.order;
  pushed = rows_none c.args.names.now c.args.reader.now c.args.step.now c.args.from c.args.from c.args.found.now.items (omega arith);
  rows = refl;
  meter = record { rows = omega arith; frames = refl };
}

pub loop-at-preserved : goal.loop-at-preserved
loop-at-preserved c = record {
  from = omega (arith, c.loop-at.invariant.from);
  order = omega (arith, c.loop-at-test.true);
  pushed = rows_joined c.args.names.now c.args.reader.now c.args.step.now c.args.from c.loop-at.at (c.loop-at.at + 1) c.args.found.now.items c.loop-at.found.items c.push_row.new.found.items
      c.loop-at.invariant.from (omega arith) c.loop-at.invariant.pushed (rw c.loop-at.invariant.rows at c.in_ok-push_row.ensures.pushed);
  rows = c.in_ok-push_row.ensures.rows ∙ c.loop-at.invariant.rows;
  meter = read_on _ _ _ c.loop-at.invariant.meter c.in_ok-push_row.ensures.meter;
}

pub returns-clause-pushed : goal.returns-clause-pushed
returns-clause-pushed c =
    let names = c.args.names.now in
    let rows = c.args.reader.now in
    subst (λ (n : ℕ). HasRows names rows c.args.step.now c.args.from n c.args.found.now.items c.loop-at.found.items) (omega (arith, c.loop-at.invariant.order, c.loop-at-test.false)) c.loop-at.invariant.pushed
