use Rattle.std.proofs.Common.{arith, ap}
use Rattle.xml_rows.specs.Texts.{pending_count}
use Rattle.xml_rows.proofs.Parted.{uris_left, each_left, ready_content, content_ready}
use Rattle.xml_rows.proofs.parts.Parts.close.Goals as goal

pub returns-clause-tidy : goal.returns-clause-tidy
returns-clause-tidy c =
    let names = c.args.self.now.elements.names.names in
    let before = content_ready _ _ c.args.self.now.values c.args.self.now.tag c.args.self.now.mode c.requires.mode c.requires.tidy.ready in
    record {
      placed = c.end.ensures.placed names _ (c.in_ok-flush.ensures.placed names c.unnamed-unnamed.ensures.within c.requires.tidy.placed);
      uris = rw c.leave.ensures.scope (uris_left _ _ _ c.requires.tidy.uris c.requires.tidy.outer);
      outer = rw c.leave.ensures.outer (each_left _ _ c.requires.tidy.outer);
      ready = ready_content _ _ c.flush.new.values c.args.self.now.tag c.args.self.now.mode c.requires.mode (omega (arith, before, c.in_ok-flush.ensures.len, c.end.ensures.len, ap pending_count c.in_ok-flush.ensures.pending));
    }
