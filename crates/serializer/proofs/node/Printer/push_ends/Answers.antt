use Rattle.std.proofs.Common.{◌-◌, List, length, get_or, ◌∙◌, ap, refl, arith}
use Rattle.tree_model.specs.declared.row.Row.{Row}
use Rattle.tree_model.proofs.Tables.{placed_at}
use Rattle.serializer.proofs.Growing.{grew_none, grew_twice}
use Rattle.serializer.proofs.Walk.{inside, parent_there, ended_within, dist_there, all_over}
use Rattle.serializer.proofs.node.Printer.push_ends.Goals as goal

pub loop-inner-init : goal.loop-inner-init
loop-inner-init c =
    let t = c.args.self.now in
    record {
      rows = refl;
      dist = dist_there c.args.parents.now c.args.at c.args.row.now (ended_within t.names.now t.heap.now c.args.parents.now _ _ _ _ _ _ c.requires.ended.1) c.requires.row;
      ended = λ whole w. w;
      kept = grew_none _ _ refl;
    }

pub overflow_sub-inner : goal.overflow_sub-inner
overflow_sub-inner c =
    let t = c.args.self.now in
    let w = c.loop-inner.invariant.ended _ c.requires.ended.1 in
    (parent_there t.names.now t.heap.now c.args.parents.now _ _ _ _ _ _ _ w c.loop-inner-test.true c.loop-inner.invariant.dist).0

pub row-parent-requires : goal.row-parent-requires
row-parent-requires c =
    let t = c.args.self.now in
    let w = c.loop-inner.invariant.ended _ c.requires.ended.1 in
    let there = parent_there t.names.now t.heap.now c.args.parents.now _ _ _ _ _ _ _ w c.loop-inner-test.true c.loop-inner.invariant.dist in
    omega (arith, there.1, ap (λ (rows : List Row). length rows) c.loop-inner.invariant.rows)

pub overflow_add-inner : goal.overflow_add-inner
overflow_add-inner c =
    let t = c.args.self.now in
    let w = c.loop-inner.invariant.ended _ c.requires.ended.1 in
    let parent_is = c.row-parent.ensures.row ∙ ap (λ (rows : List Row). get_or rows (c.loop-inner.inner - c.loop-inner.dist) c.row-parent.result) c.loop-inner.invariant.rows in
    let up = inside t.names.now t.heap.now c.args.parents.now _ _ _ _ _ _ c.loop-inner.dist c.row-parent.result w c.loop-inner-test.true c.loop-inner.invariant.dist parent_is in
    omega (arith, up.reaches)

pub returns-then-inner-parent-clause-text : goal.returns-then-inner-parent-clause-text
returns-then-inner-parent-clause-text c = λ whole w.
    let t = c.args.self.now in
    let parent_is = c.row-parent.ensures.row ∙ ap (λ (rows : List Row). get_or rows (c.loop-inner.inner - c.loop-inner.dist) c.row-parent.result) c.loop-inner.invariant.rows in
    (inside t.names.now t.heap.now c.args.parents.now _ _ _ _ _ _ c.loop-inner.dist c.row-parent.result (c.loop-inner.invariant.ended whole w) c.loop-inner-test.true c.loop-inner.invariant.dist parent_is).next c.if-inner-parent.true

pub push_end-requires : goal.push_end-requires
push_end-requires c =
    let t = c.args.self.now in
    let w = c.loop-inner.invariant.ended _ c.requires.ended.1 in
    let parent_is = c.row-parent.ensures.row ∙ ap (λ (rows : List Row). get_or rows (c.loop-inner.inner - c.loop-inner.dist) c.row-parent.result) c.loop-inner.invariant.rows in
    let up = inside t.names.now t.heap.now c.args.parents.now _ _ _ _ _ _ c.loop-inner.dist c.row-parent.result w c.loop-inner-test.true c.loop-inner.invariant.dist parent_is in
    record { name = rw parent_is (placed_at t.names.now t.heap.now c.args.parents.now (c.loop-inner.inner - c.loop-inner.dist) c.row-parent.result c.requires.placed up.parent_within).0 }

pub loop-inner-smaller : goal.loop-inner-smaller
loop-inner-smaller c =
    let t = c.args.self.now in
    let w = c.loop-inner.invariant.ended _ c.requires.ended.1 in
    let parent_is = c.row-parent.ensures.row ∙ ap (λ (rows : List Row). get_or rows (c.loop-inner.inner - c.loop-inner.dist) c.row-parent.result) c.loop-inner.invariant.rows in
    let up = inside t.names.now t.heap.now c.args.parents.now _ _ _ _ _ _ c.loop-inner.dist c.row-parent.result w c.loop-inner-test.true c.loop-inner.invariant.dist parent_is in
    omega (arith, up.forth, up.back)

pub loop-inner-preserved : goal.loop-inner-preserved
loop-inner-preserved c =
    let t = c.args.self.now in
    let w = c.loop-inner.invariant.ended _ c.requires.ended.1 in
    let parent_is = c.row-parent.ensures.row ∙ ap (λ (rows : List Row). get_or rows (c.loop-inner.inner - c.loop-inner.dist) c.row-parent.result) c.loop-inner.invariant.rows in
    record {
      rows = c.row-parent.ensures.rows ∙ c.loop-inner.invariant.rows;
      dist = dist_there c.args.parents.now (c.loop-inner.inner - c.loop-inner.dist) c.row-parent.result (parent_there t.names.now t.heap.now c.args.parents.now _ _ _ _ _ _ _ w c.loop-inner-test.true c.loop-inner.invariant.dist).1 parent_is;
      ended = λ whole v. (inside t.names.now t.heap.now c.args.parents.now _ _ _ _ _ _ c.loop-inner.dist c.row-parent.result (c.loop-inner.invariant.ended whole v) c.loop-inner-test.true c.loop-inner.invariant.dist parent_is).ends _ _ c.if-inner-parent.false c.in_ok-push_end.ensures.text c.leave.ensures;
      kept = grew_twice _ _ _ c.loop-inner.invariant.kept c.push_end.ensures.kept;
    }

pub returns-clause-text : goal.returns-clause-text
returns-clause-text c = λ whole w. all_over _ _ _ _ _ _ _ (c.loop-inner.invariant.ended whole w) c.loop-inner-test.false
