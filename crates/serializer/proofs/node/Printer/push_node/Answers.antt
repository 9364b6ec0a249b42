use Rattle.std.proofs.Common.{ℕ, ◌+◌, List, length, get_or, ◌∙◌, ap, sym, refl, subst, arith}
use Rattle.std.specs.Prelude.{slice_range}
use Rattle.tree_model.specs.Rows.{lines_of}
use Rattle.tree_model.specs.declared.row.Row.{Row}
use Rattle.tree_model.proofs.Tables.{placed_at, placed_before, placed_behind}
use Rattle.tree_model.proofs.Standing.{in_from}
use Rattle.serializer.specs.Opened.{Ended}
use Rattle.serializer.proofs.Growing.{grew_none, grew_twice}
use Rattle.serializer.proofs.Walk.{begun, turn, some_turn, row_within, then_whole, then_ahead}
use Rattle.serializer.proofs.node.Printer.push_node.Goals as goal

pub loop-attrs-init : goal.loop-attrs-init
loop-attrs-init c = record {
  rows = refl;
  parents = c.requires.same;
  ahead = λ node there at. begun _ node _ _ _ c.requires.trees.flat c.new-bindings.ensures (in_from _ node there) at;
  kept = grew_none _ _ refl;
}

pub row-row-requires : goal.row-row-requires
row-row-requires c =
    let t = c.args.self.now in
    let lt = row_within t.names.now t.heap.now c.args.rows.now _ _ _ _ _ c.requires.trees.flat c.requires.within c.loop-attrs.invariant.ahead in
    omega (arith, lt, ap (λ (rows : List Row). length rows) c.loop-attrs.invariant.rows)

pub overflow_add-at : goal.overflow_add-at
overflow_add-at c =
    let t = c.args.self.now in
    let is = c.row-row.ensures.row ∙ ap (λ (rows : List Row). get_or rows c.loop-attrs.at c.row-row.result) c.loop-attrs.invariant.rows in
    let now = (some_turn t.names.now t.heap.now c.args.rows.now _ _ _ _ _ c.row-row.result c.requires.trees.flat c.requires.within is c.loop-attrs.invariant.ahead).1 in
    omega (arith, now.own_within)

pub overflow_add-at-in-loop-attrs : goal.overflow_add-at-in-loop-attrs
overflow_add-at-in-loop-attrs c =
    let t = c.args.self.now in
    let is = c.row-row.ensures.row ∙ ap (λ (rows : List Row). get_or rows c.loop-attrs.at c.row-row.result) c.loop-attrs.invariant.rows in
    let now = (some_turn t.names.now t.heap.now c.args.rows.now _ _ _ _ _ c.row-row.result c.requires.trees.flat c.requires.within is c.loop-attrs.invariant.ahead).1 in
    omega (arith, now.attrs_within)

pub read-requires-clause-range : goal.read-requires-clause-range
read-requires-clause-range c =
    let t = c.args.self.now in
    let is = c.row-row.ensures.row ∙ ap (λ (rows : List Row). get_or rows c.loop-attrs.at c.row-row.result) c.loop-attrs.invariant.rows in
    let now = (some_turn t.names.now t.heap.now c.args.rows.now _ _ _ _ _ c.row-row.result c.requires.trees.flat c.requires.within is c.loop-attrs.invariant.ahead).1 in
    omega (arith, now.own_asize)

pub read-requires-clause-within : goal.read-requires-clause-within
read-requires-clause-within c =
    let t = c.args.self.now in
    let is = c.row-row.ensures.row ∙ ap (λ (rows : List Row). get_or rows c.loop-attrs.at c.row-row.result) c.loop-attrs.invariant.rows in
    let now = (some_turn t.names.now t.heap.now c.args.rows.now _ _ _ _ _ c.row-row.result c.requires.trees.flat c.requires.within is c.loop-attrs.invariant.ahead).1 in
    omega (arith, now.attrs_within, ap (λ (rows : List Row). length rows) (c.row-row.ensures.rows ∙ c.loop-attrs.invariant.rows))

pub push_front-requires-clause-name : goal.push_front-requires-clause-name
push_front-requires-clause-name c =
    let t = c.args.self.now in
    let is = c.row-row.ensures.row ∙ ap (λ (rows : List Row). get_or rows c.loop-attrs.at c.row-row.result) c.loop-attrs.invariant.rows in
    let now = (some_turn t.names.now t.heap.now c.args.rows.now _ _ _ _ _ c.row-row.result c.requires.trees.flat c.requires.within is c.loop-attrs.invariant.ahead).1 in
    rw is (placed_at t.names.now t.heap.now c.args.rows.now c.loop-attrs.at c.row-row.result c.requires.trees.placed now.own_within).0

pub push_front-requires-clause-value : goal.push_front-requires-clause-value
push_front-requires-clause-value c =
    let t = c.args.self.now in
    let is = c.row-row.ensures.row ∙ ap (λ (rows : List Row). get_or rows c.loop-attrs.at c.row-row.result) c.loop-attrs.invariant.rows in
    let now = (some_turn t.names.now t.heap.now c.args.rows.now _ _ _ _ _ c.row-row.result c.requires.trees.flat c.requires.within is c.loop-attrs.invariant.ahead).1 in
    rw is (placed_at t.names.now t.heap.now c.args.rows.now c.loop-attrs.at c.row-row.result c.requires.trees.placed now.own_within).1

pub push_front-requires-clause-placed : goal.push_front-requires-clause-placed
push_front-requires-clause-placed c =
    let t = c.args.self.now in
    let attrs = c.deref.ensures.value ∙ c.in_ok-read.ensures.read ∙ ap (λ (rows : List Row). slice_range rows (c.loop-attrs.at + 1) (c.loop-attrs.at + c.row-row.result.asize)) (c.row-row.ensures.rows ∙ c.loop-attrs.invariant.rows) in
    rw attrs (placed_before t.names.now t.heap.now _ _ (placed_behind t.names.now t.heap.now c.args.rows.now (c.loop-attrs.at + 1) c.requires.trees.placed))

pub overflow_add-at-then-opens : goal.overflow_add-at-then-opens
overflow_add-at-then-opens c =
    let t = c.args.self.now in
    let is = c.row-row.ensures.row ∙ ap (λ (rows : List Row). get_or rows c.loop-attrs.at c.row-row.result) c.loop-attrs.invariant.rows in
    let now = (some_turn t.names.now t.heap.now c.args.rows.now _ _ _ _ _ c.row-row.result c.requires.trees.flat c.requires.within is c.loop-attrs.invariant.ahead).1 in
    omega (arith, now.attrs_within)

pub loop-attrs-smaller-then-opens : goal.loop-attrs-smaller-then-opens
loop-attrs-smaller-then-opens c =
    let t = c.args.self.now in
    let is = c.row-row.ensures.row ∙ ap (λ (rows : List Row). get_or rows c.loop-attrs.at c.row-row.result) c.loop-attrs.invariant.rows in
    let now = (some_turn t.names.now t.heap.now c.args.rows.now _ _ _ _ _ c.row-row.result c.requires.trees.flat c.requires.within is c.loop-attrs.invariant.ahead).1 in
    omega (arith, now.own_within, now.own_asize)

pub loop-attrs-preserved-then-opens : goal.loop-attrs-preserved-then-opens
loop-attrs-preserved-then-opens c =
    let t = c.args.self.now in
    let is = c.row-row.ensures.row ∙ ap (λ (rows : List Row). get_or rows c.loop-attrs.at c.row-row.result) c.loop-attrs.invariant.rows in
    let attrs = c.deref.ensures.value ∙ c.in_ok-read.ensures.read ∙ ap (λ (rows : List Row). slice_range rows (c.loop-attrs.at + 1) (c.loop-attrs.at + c.row-row.result.asize)) (c.row-row.ensures.rows ∙ c.loop-attrs.invariant.rows) in
    record {
      rows = c.read.ensures.rows ∙ c.row-row.ensures.rows ∙ c.loop-attrs.invariant.rows;
      parents = c.loop-attrs.invariant.parents;
      ahead = λ node there at. (turn t.names.now t.heap.now c.args.rows.now _ _ _ _ _ c.row-row.result is (c.loop-attrs.invariant.ahead node there at)).first_child _ _ _ attrs (sym c.opens.ensures ∙ c.if-opens.true) c.in_ok-push_front.ensures.text c.in_ok-push_front.ensures.declares;
      kept = grew_twice _ _ _ c.loop-attrs.invariant.kept c.push_front.ensures.kept;
    }

pub push_ends-requires-clause-ended : goal.push_ends-requires-clause-ended
push_ends-requires-clause-ended c =
    let t = c.args.self.now in
    let is = c.row-row.ensures.row ∙ ap (λ (rows : List Row). get_or rows c.loop-attrs.at c.row-row.result) c.loop-attrs.invariant.rows in
    let now = (some_turn t.names.now t.heap.now c.args.rows.now _ _ _ _ _ c.row-row.result c.requires.trees.flat c.requires.within is c.loop-attrs.invariant.ahead).1 in
    let attrs = c.deref.ensures.value ∙ c.in_ok-read.ensures.read ∙ ap (λ (rows : List Row). slice_range rows (c.loop-attrs.at + 1) (c.loop-attrs.at + c.row-row.result.asize)) (c.row-row.ensures.rows ∙ c.loop-attrs.invariant.rows) in
    let done = now.printed _ _ _ _ attrs (sym c.opens.ensures ∙ c.if-opens.false) c.in_ok-push_front.ensures.text c.in_ok-push_front.ensures.declares c.leave.ensures in
    let left = λ (rows : List Row). (whole : List ℕ) × Ended (lines_of t.names.now t.heap.now rows) c.args.top c.loop-attrs.at (c.loop-attrs.at + c.row-row.result.size) c.leave.new.self c.push_front.new.out.items whole in
    subst left (sym c.loop-attrs.invariant.parents) (_, done)

pub returns-then-branch-clause-text : goal.returns-then-branch-clause-text
returns-then-branch-clause-text c = λ node there at.
    let t = c.args.self.now in
    let is = c.row-row.ensures.row ∙ ap (λ (rows : List Row). get_or rows c.loop-attrs.at c.row-row.result) c.loop-attrs.invariant.rows in
    let attrs = c.deref.ensures.value ∙ c.in_ok-read.ensures.read ∙ ap (λ (rows : List Row). slice_range rows (c.loop-attrs.at + 1) (c.loop-attrs.at + c.row-row.result.asize)) (c.row-row.ensures.rows ∙ c.loop-attrs.invariant.rows) in
    let then = rw c.loop-attrs.invariant.parents at c.in_ok-push_ends.ensures.text in
    then_whole _ _ _ _ _ _ _ (then _ ((turn t.names.now t.heap.now c.args.rows.now _ _ _ _ _ c.row-row.result is (c.loop-attrs.invariant.ahead node there at)).printed _ _ _ _ attrs (sym c.opens.ensures ∙ c.if-opens.false) c.in_ok-push_front.ensures.text c.in_ok-push_front.ensures.declares c.leave.ensures)) c.if-branch.true

pub returns-then-branch-clause-kept : goal.returns-then-branch-clause-kept
returns-then-branch-clause-kept c = grew_twice _ _ _ c.loop-attrs.invariant.kept (grew_twice _ _ _ c.push_front.ensures.kept c.push_ends.ensures.kept)

pub overflow_add-at-in-loop-attrs-2 : goal.overflow_add-at-in-loop-attrs-2
overflow_add-at-in-loop-attrs-2 c =
    let t = c.args.self.now in
    let is = c.row-row.ensures.row ∙ ap (λ (rows : List Row). get_or rows c.loop-attrs.at c.row-row.result) c.loop-attrs.invariant.rows in
    let now = (some_turn t.names.now t.heap.now c.args.rows.now _ _ _ _ _ c.row-row.result c.requires.trees.flat c.requires.within is c.loop-attrs.invariant.ahead).1 in
    omega (arith, now.size_within)

pub loop-attrs-smaller : goal.loop-attrs-smaller
loop-attrs-smaller c =
    let t = c.args.self.now in
    let is = c.row-row.ensures.row ∙ ap (λ (rows : List Row). get_or rows c.loop-attrs.at c.row-row.result) c.loop-attrs.invariant.rows in
    let now = (some_turn t.names.now t.heap.now c.args.rows.now _ _ _ _ _ c.row-row.result c.requires.trees.flat c.requires.within is c.loop-attrs.invariant.ahead).1 in
    omega (arith, now.own_within, now.own_size)

pub loop-attrs-preserved : goal.loop-attrs-preserved
loop-attrs-preserved c =
    let t = c.args.self.now in
    let is = c.row-row.ensures.row ∙ ap (λ (rows : List Row). get_or rows c.loop-attrs.at c.row-row.result) c.loop-attrs.invariant.rows in
    let attrs = c.deref.ensures.value ∙ c.in_ok-read.ensures.read ∙ ap (λ (rows : List Row). slice_range rows (c.loop-attrs.at + 1) (c.loop-attrs.at + c.row-row.result.asize)) (c.row-row.ensures.rows ∙ c.loop-attrs.invariant.rows) in
    let then = rw c.loop-attrs.invariant.parents at c.in_ok-push_ends.ensures.text in
    record {
      rows = c.read.ensures.rows ∙ c.row-row.ensures.rows ∙ c.loop-attrs.invariant.rows;
      parents = c.push_ends.ensures.rows ∙ c.loop-attrs.invariant.parents;
      ahead = λ node there at. then_ahead _ _ _ _ _ _ _ (then _ ((turn t.names.now t.heap.now c.args.rows.now _ _ _ _ _ c.row-row.result is (c.loop-attrs.invariant.ahead node there at)).printed _ _ _ _ attrs (sym c.opens.ensures ∙ c.if-opens.false) c.in_ok-push_front.ensures.text c.in_ok-push_front.ensures.declares c.leave.ensures)) c.if-branch.false;
      kept = grew_twice _ _ _ c.loop-attrs.invariant.kept (grew_twice _ _ _ c.push_front.ensures.kept c.push_ends.ensures.kept);
    }
