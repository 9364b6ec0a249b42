use Rattle.std.proofs.Common.{arith, ap, refl, length}
use Rattle.xml_rows.specs.BuilderView.{tag_of}
use Rattle.xml_rows.specs.Texts.{pending_count}
use Rattle.xml_rows.proofs.Parted.{same_work, tag_ready, tag_fault_by, outer_entered, each_entered}
use Rattle.xml_rows.proofs.parts.Parts.tag_rows.Goals as goal

pub returns-clause-work : goal.returns-clause-work
returns-clause-work c =
    same_work _ _ (rw c.deref.ensures.value at (c.in_ok-is_bad.ensures.lines c.requires.tidy.placed)) c.in_ok-is_bad.ensures.open_at
    (rw c.requires.mode c.in_ok-is_bad.ensures.pending) (rw c.deref.ensures.value at c.in_ok-is_bad.ensures.scope)
    (outer_entered c.args.self.now.elements.names.uris c.add_tag.new.self.names.uris c.args.self.now.elements.scopes.scope c.args.self.now.elements.scopes.outer c.add_tag.new.self.scopes.outer c.in_ok-is_bad.ensures.uris_more
    c.requires.tidy.uris c.requires.tidy.outer c.in_ok-is_bad.ensures.outer)
    refl
    (tag_fault_by c.in_ok-is_bad.is_bad _ (tag_of c.args.self.now.values.settled c.args.self.now.tag) _ _ _ _ (rw c.deref.ensures.value at c.in_ok-is_bad.ensures.bad) c.tag_fault.ensures c.first_fault-fault.ensures c.first_fault-self.ensures)
    refl

pub returns-clause-tidy : goal.returns-clause-tidy
returns-clause-tidy c =
    let kept = tag_ready _ _ c.args.self.now.values c.args.self.now.tag c.args.self.now.mode c.requires.mode c.requires.tidy.ready in
    record {
      placed = c.in_ok-is_bad.ensures.placed c.requires.tidy.placed;
      uris = c.in_ok-is_bad.ensures.uris_kept;
      outer = each_entered c.args.self.now.elements.names.uris c.add_tag.new.self.names.uris c.args.self.now.elements.scopes.scope c.args.self.now.elements.scopes.outer c.add_tag.new.self.scopes.outer c.in_ok-is_bad.ensures.uris_more
          c.requires.tidy.uris c.requires.tidy.outer c.in_ok-is_bad.ensures.outer;
      ready = omega (arith, kept.0.few, c.in_ok-is_bad.ensures.len, ap length c.deref.ensures.value, ap pending_count c.in_ok-is_bad.ensures.pending);
    }
