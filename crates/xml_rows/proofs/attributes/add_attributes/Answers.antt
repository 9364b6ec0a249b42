use Rattle.std.proofs.Common.{sym, ◌∙◌, [], arith}
use Rattle.std.proofs.lemmas.List.{drop_more, drop_all}
use Rattle.xml_rows.specs.declared.tag.Pair.{Pair}
use Rattle.xml_rows.proofs.Attributing.{along_declared, along_plain, along_last, last_lines, last_bad, last_expands}
use Rattle.xml_rows.proofs.attributes.add_attributes.Goals as goal

abbrev nothing : Pair
nothing = record { name = record { ref_ptr = (0, 0); now = [] }; val = record { at = 0; len = 0 } }

pub loop-pair-preserved-then-is_declaration : goal.loop-pair-preserved-then-is_declaration
loop-pair-preserved-then-is_declaration c =
    let is = drop_more c.args.pairs.now c.loop-pair.pair-index nothing c.loop-pair-test.true in
    let keeps = c.loop-pair.invariant in
    record {
      along = along_declared _ _ _ _ _ _ _ _ _ _ _ _ _ _ is (sym c.if-is_declaration.ensures) keeps.along;
      few = omega (arith, keeps.few);
      within = keeps.within;
      open_at = keeps.open_at;
      uris = keeps.uris;
      in_use = keeps.in_use;
    }

pub loop-pair-preserved : goal.loop-pair-preserved
loop-pair-preserved c =
    let is = drop_more c.args.pairs.now c.loop-pair.pair-index nothing c.loop-pair-test.true in
    let keeps = c.loop-pair.invariant in
    let made = c.in_ok-unbound.ensures in
    record {
      along = along_plain _ _ _ _ _ _ _ _ _ _ _ _ _ _ _ _ _ _ is (sym c.if-is_declaration.ensures) keeps.within made.len (rw keeps.uris at made.unbound) (rw keeps.uris at made.lines) made.placed (rw keeps.uris at made.found_more) keeps.along;
      few = omega (arith, keeps.few, made.len);
      within = omega (arith, keeps.within, made.len);
      open_at = made.open_at ∙ keeps.open_at;
      uris = made.uris_kept ∙ keeps.uris;
      in_use = rw keeps.uris at made.in_use;
    }

pub returns-clause-unbound : goal.returns-clause-unbound
returns-clause-unbound c = last_bad _ _ _ _ _ _ _ _ _ _ _ (along_last _ _ _ _ _ _ _ _ _ _ _ _ (drop_all c.loop-pair.pair-index c.args.pairs.now c.loop-pair-test.false) c.loop-pair.invariant.along)

pub returns-clause-lines : goal.returns-clause-lines
returns-clause-lines c = last_lines _ _ _ _ _ _ _ _ _ _ _ (along_last _ _ _ _ _ _ _ _ _ _ _ _ (drop_all c.loop-pair.pair-index c.args.pairs.now c.loop-pair-test.false) c.loop-pair.invariant.along)

pub returns-clause-found_more : goal.returns-clause-found_more
returns-clause-found_more c = last_expands _ _ _ _ _ _ _ _ _ _ _ (along_last _ _ _ _ _ _ _ _ _ _ _ _ (drop_all c.loop-pair.pair-index c.args.pairs.now c.loop-pair-test.false) c.loop-pair.invariant.along)
