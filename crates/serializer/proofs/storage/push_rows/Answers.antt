use Rattle.std.proofs.Common.{◌≡◌, ◌-◌, ◌<◌, List, length, get_or, ◌++◌, ◌∙◌, ap, arith}
use Rattle.tree_model.specs.declared.row.Row.{Row}
use Rattle.tree_model.proofs.Tables.{placed_at}
use Rattle.serializer.proofs.Growing.{grew_by, grew_twice}
use Rattle.serializer.proofs.Ranges.{gap, spaced_first, spaced_behind, range_printed, row_more}
use Rattle.serializer.proofs.storage.push_rows.Goals as goal
use Rattle.serializer.proofs.storage.push_rows.Goals.{then-pre-start+in_ok-push_byte, else-pre-start}

pub push_row-requires-clause-name : goal.push_row-requires-clause-name
push_row-requires-clause-name c =
    let is = c.row-row.ensures.row ∙ ap (λ (rows : List Row). get_or rows c.loop-pre.pre c.row-row.result) c.loop-pre.invariant.rows in
    let lt : c.loop-pre.pre < length c.args.rows.now = omega arith in
    rw is (placed_at c.args.names.now c.args.heap.now c.args.rows.now c.loop-pre.pre c.row-row.result c.requires.placed lt).0

pub push_row-requires-clause-value : goal.push_row-requires-clause-value
push_row-requires-clause-value c =
    let is = c.row-row.ensures.row ∙ ap (λ (rows : List Row). get_or rows c.loop-pre.pre c.row-row.result) c.loop-pre.invariant.rows in
    let lt : c.loop-pre.pre < length c.args.rows.now = omega arith in
    rw is (placed_at c.args.names.now c.args.heap.now c.args.rows.now c.loop-pre.pre c.row-row.result c.requires.placed lt).1

pub returns-in_err-push_row-clause-kept : goal.returns-in_err-push_row-clause-kept
returns-in_err-push_row-clause-kept c =
    let spaced : c.if-pre-start.out.items ≡ c.loop-pre.out.items ++ gap (c.loop-pre.pre - c.min-start.result) = elim c.if-pre-start.branch [
      | then-pre-start+in_ok-push_byte w ↦ spaced_behind _ _ _ _ (omega arith) w.if-pre-start.true (ap (λ o. o.items) w.out-is ∙ w.in_ok-push_byte.ensures.text)
      | else-pre-start w ↦ spaced_first _ _ _ _ w.if-pre-start.false (ap (λ o. o.items) w.out-is)
    ] in
    grew_twice _ _ _ c.loop-pre.invariant.kept (grew_twice _ _ _ (grew_by _ _ _ spaced) c.push_row.ensures.kept)

pub loop-pre-preserved : goal.loop-pre-preserved
loop-pre-preserved c =
    let spaced : c.if-pre-start.out.items ≡ c.loop-pre.out.items ++ gap (c.loop-pre.pre - c.min-start.result) = elim c.if-pre-start.branch [
      | then-pre-start+in_ok-push_byte w ↦ spaced_behind _ _ _ _ (omega arith) w.if-pre-start.true (ap (λ o. o.items) w.out-is ∙ w.in_ok-push_byte.ensures.text)
      | else-pre-start w ↦ spaced_first _ _ _ _ w.if-pre-start.false (ap (λ o. o.items) w.out-is)
    ] in
    let is = c.row-row.ensures.row ∙ ap (λ (rows : List Row). get_or rows c.loop-pre.pre c.row-row.result) c.loop-pre.invariant.rows in
    record {
      rows = c.row-row.ensures.rows ∙ c.loop-pre.invariant.rows;
      kept = grew_twice _ _ _ c.loop-pre.invariant.kept (grew_twice _ _ _ (grew_by _ _ _ spaced) c.push_row.ensures.kept);
      text = row_more _ _ _ _ _ _ _ _ _ _ _ (omega arith) c.loop-pre-test.true (omega arith) is spaced (rw c.from.ensures at c.in_ok-push_row.ensures.text) c.loop-pre.invariant.text;
    }

pub returns-clause-text : goal.returns-clause-text
returns-clause-text c =
    let end_is = c.min-end.ensures in
    range_printed _ _ _ _ _ _ _ c.args.from c.args.to c.min-start.result c.min-end.result c.requires.flat (omega arith) c.min-start.ensures c.loop-pre-test.false c.loop-pre.invariant.text
