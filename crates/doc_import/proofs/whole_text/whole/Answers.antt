use Rattle.std.proofs.Common.{rules, sym, length}
use Rattle.xml_rows.proofs.Counting.{length-sized}
use Rattle.doc_import.proofs.Answering.{fault_answer, too_many_answer, tree_answer}
use Rattle.doc_import.proofs.ReadKinds.{read_kinds}
use Rattle.doc_import.proofs.whole_text.whole.Goals as goal

pub returns-in-Some : goal.returns-in-Some
returns-in-Some c =
    c.fault_of.ensures _ _ (fault_answer _ _ _ _ c.requires.found.is_text c.requires.found.in_utf8 c.requires.found.no_subset c.requires.found.found (sym c.in-Some.ensures))

pub returns-then-len-gt-MAX_ROWS : goal.returns-then-len-gt-MAX_ROWS
returns-then-len-gt-MAX_ROWS c =
    let long = length-sized (length c.args.builder.lines) 0 c.args.builder.lines in
    too_many_answer _ _ c.args.builder c.requires.found.is_text c.requires.found.in_utf8 c.requires.found.no_subset c.requires.found.found (sym c.in_default.ensures) (search rules)

pub returns : goal.returns
returns c =
    let long = length-sized (length c.args.builder.lines) 0 c.args.builder.lines in
    let made = tree_answer _ _ c.args.builder _ c.requires.found.is_text c.requires.found.in_utf8 c.requires.found.no_subset c.requires.found.found (sym c.in_default.ensures) c.finish-names.ensures.lines (search rules) in
    (record { flat = made.0; placed = c.finish-names.ensures.placed; kinds = read_kinds _ _ _ made.1 }, made.1)
