use Rattle.std.proofs.Common.{◌≡◌, ◌++◌, ◌-◌, arith, length, length-append, ap, ◌∙◌}
use Rattle.node_table.specs.Views.{part_view, view_lines}
use Rattle.doc_store.specs.Moving.{moved}
use Rattle.doc_store.proofs.Moves.{AreUnder, whole_heap, all_under}
use Rattle.doc_store.proofs.rows.rows_under.Goals as goal

under : (c : goal.After-drop-numbers-2) → AreUnder c.numbers_among.new.names c.append-2.new.self c.args.path.now c.args.first (view_lines (part_view c.args.built.now)) c.set_first_value.new.rows.items
under c =
    let bytes : c.as_bytes.result.now ≡ c.args.path.now = cc in
    let grown : c.append.new.self ≡ c.args.heap.now ++ c.get.result.now = c.in_ok-append.ensures.grown in
    let at : c.mark.result - c.mark-len.result ≡ length c.args.heap.now =
    omega (arith, ap length grown, length-append c.args.heap.now c.get.result.now, ap length (whole_heap c.args.built.now.heap c.get.result.now c.mark-len.result c.mark-len.ensures c.get.ensures)) in
    let made : c.in_ok-rows.rows.items ≡ moved c.in_ok-numbers.numbers.items (c.mark.result - c.mark-len.result) c.args.first c.args.built.now.rows.items =
    c.in_ok-rows.ensures ∙ ap (λ numbers. moved numbers (c.mark.result - c.mark-len.result) c.args.first c.args.built.now.rows.items) c.deref.ensures.value in
    all_under c.numbers_among.new.names c.args.heap.now c.append.new.self c.append-2.new.self c.get.result.now c.args.path.now c.args.built.now c.in_ok-numbers.numbers.items
    (c.mark.result - c.mark-len.result) c.args.first c.mark-len.result c.in_ok-rows.rows.items c.set_first_value.new.rows.items c.in_ok-val.val
    c.requires.built c.in_ok-numbers.ensures.numbers c.mark-len.ensures c.get.ensures grown at made
    (c.in_ok-val.ensures.grown ∙ ap (λ l. c.append.new.self ++ l) bytes) c.in_ok-val.ensures.at (c.in_ok-val.ensures.len ∙ ap length bytes) c.set_first_value.ensures

pub returns-clause-lines : goal.returns-clause-lines
returns-clause-lines c = (under c).lines

pub returns-clause-placed : goal.returns-clause-placed
returns-clause-placed c = (under c).placed
