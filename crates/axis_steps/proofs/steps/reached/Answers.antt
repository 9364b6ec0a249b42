use Rattle.std.proofs.Common.{length}
use Rattle.node_table.proofs.Geometry.{laid}
use Rattle.axis_steps.specs.Steps.{rows_of}
use Rattle.axis_steps.proofs.Keeping.{keeps_all, keeps_within, reached_by}
use Rattle.axis_steps.proofs.Descendants.{outermost_of, reached_kept}
use Rattle.axis_steps.proofs.Leading.{reached_upwards}
use Rattle.axis_steps.proofs.Standing.{stands}
use Rattle.axis_steps.proofs.steps.reached.Goals as goal

pub climb_each-requires-clause-standing : goal.climb_each-requires-clause-standing
climb_each-requires-clause-standing c = rw c.reader-reader.ensures (stands c.args.trees.now.names.now (c.requires.trees).0 (rows_of c.args.trees.now) (c.requires.trees).1)

pub returns-then-is_upwards-clause-reached : goal.returns-then-is_upwards-clause-reached
returns-then-is_upwards-clause-reached c =
    let ancestors = rw c.reader-reader.ensures at c.in_ok-climb_each.ensures.ancestors in
    reached_upwards c.args.trees.now.names.now (rows_of c.args.trees.now) c.args.step.now c.args.places.now c.in_ok-climb_each.field-0.items (c.is_upwards.ensures c.if-is_upwards.true) ancestors

pub keep_outermost-requires-clause-laid : goal.keep_outermost-requires-clause-laid
keep_outermost-requires-clause-laid c = rw c.reader-reader.ensures (laid c.args.trees.now.names.now (c.requires.trees).0 (rows_of c.args.trees.now) (c.requires.trees).1)

pub keep-requires-clause-laid : goal.keep-requires-clause-laid
keep-requires-clause-laid c = rw c.reader-reader.ensures (laid c.args.trees.now.names.now (c.requires.trees).0 (rows_of c.args.trees.now) (c.requires.trees).1)

pub walk_each-requires-in-Some-clause-within : goal.walk_each-requires-in-Some-clause-within
walk_each-requires-in-Some-clause-within c =
    let rows = rows_of c.args.trees.now in
    let keeps = rw (c.in-Some.is, c.reader-reader.ensures) at c.in_ok-keep.ensures.keeps in
    rw c.deref-in-Some.ensures.value (keeps_within rows c.args.step.now.axis (length rows) c.args.places.now c.in-Some.kept.items keeps c.requires.within)

pub returns-in_ok-walk_each-in-None-clause-reached : goal.returns-in_ok-walk_each-in-None-clause-reached
returns-in_ok-walk_each-in-None-clause-reached c =
    reached_by c.args.trees.now.names.now (rows_of c.args.trees.now) c.args.step.now c.args.places.now c.args.places.now c.in_ok-walk_each-in-None.field-0.items
    (keeps_all (rows_of c.args.trees.now) c.args.step.now.axis c.args.places.now) c.in_ok-walk_each-in-None.ensures.list

pub returns-in_ok-walk_each-in-Some-clause-reached : goal.returns-in_ok-walk_each-in-Some-clause-reached
returns-in_ok-walk_each-in-Some-clause-reached c =
    let keeps = rw (c.in-Some.is, c.reader-reader.ensures) at c.in_ok-keep.ensures.keeps in
    reached_by c.args.trees.now.names.now (rows_of c.args.trees.now) c.args.step.now c.args.places.now c.in-Some.kept.items c.in_ok-walk_each-in-Some.field-0.items
    keeps (rw c.deref-in-Some.ensures.value at c.in_ok-walk_each-in-Some.ensures.list)

pub below_each-requires-clause-standing : goal.below_each-requires-clause-standing
below_each-requires-clause-standing c = rw (c.in_ok-kept.ensures.rows, c.reader-reader.ensures) (stands c.args.trees.now.names.now (c.requires.trees).0 (rows_of c.args.trees.now) (c.requires.trees).1)

pub below_each-requires-clause-within : goal.below_each-requires-clause-within
below_each-requires-clause-within c =
    let rows = c.reader-reader.result in
    let keeps = outermost_of rows c.args.step.now.axis c.args.places.now c.in_ok-kept.kept.items (c.is_downwards.ensures c.if-is_downwards.true) c.in_ok-kept.ensures.below c.in_ok-kept.ensures.or_self in
    let kept = keeps_within rows c.args.step.now.axis (length rows) c.args.places.now c.in_ok-kept.kept.items keeps (rw c.reader-reader.ensures c.requires.within) in
    rw (c.deref.ensures.value, c.in_ok-kept.ensures.rows) kept

pub returns-then-is_downwards-clause-reached : goal.returns-then-is_downwards-clause-reached
returns-then-is_downwards-clause-reached c =
    let names = c.args.trees.now.names.now in
    let rows = rows_of c.args.trees.now in
    let keeps = outermost_of c.reader-reader.result c.args.step.now.axis c.args.places.now c.in_ok-kept.kept.items (c.is_downwards.ensures c.if-is_downwards.true) c.in_ok-kept.ensures.below c.in_ok-kept.ensures.or_self in
    reached_kept names rows c.args.step.now c.args.places.now c.in_ok-kept.kept.items c.in_ok-below_each.field-0.items (rw c.reader-reader.ensures at keeps)
    (rw (c.deref.ensures.value, c.in_ok-kept.ensures.rows, c.reader-reader.ensures) at c.in_ok-below_each.ensures.reached)
