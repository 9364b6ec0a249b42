use Rattle.std.proofs.Common.{sym, []}
use Rattle.xml_rows.specs.declared.tag.Expanded.{Expanded}
use Rattle.xml_rows.proofs.Twice.{found_here, found_more}
use Rattle.xml_rows.proofs.expanded.few_twice.Goals as goal

abbrev nothing : Expanded
nothing = record { uri = 0; local = record { ref_ptr = (0, 0); now = [] } }

pub returns-then-is_among : goal.returns-then-is_among
returns-then-is_among c =
    found_here c.args.names.now.uris c.args.found.now c.split_at.result.0.now c.loop-at.at nothing _ c.loop-at-test.true c.split_at.ensures.front (sym c.if-is_among.ensures) c.loop-at.invariant

pub loop-at-preserved : goal.loop-at-preserved
loop-at-preserved c =
    found_more c.args.names.now.uris c.args.found.now c.split_at.result.0.now c.loop-at.at nothing _ c.loop-at-test.true c.split_at.ensures.front (sym c.if-is_among.ensures) c.loop-at.invariant
