use Rattle.std.proofs.Common.{arith, ap}
use Rattle.xml_rows.specs.Texts.{pending_count}
use Rattle.xml_rows.proofs.Parted.{count_lines, ready_content, content_ready}
use Rattle.xml_rows.proofs.parts.Parts.text.Goals as goal

pub returns-clause-tidy : goal.returns-clause-tidy
returns-clause-tidy c =
    let before = content_ready _ _ c.args.self.now.values c.args.self.now.tag c.args.self.now.mode c.requires.mode c.requires.tidy.ready in
    let more = count_lines c.args.self.now.elements.rows.open_at c.args.self.now.values.pending c.args.bytes.now in
    record {
      placed = rw c.in_ok-gather.ensures.settled c.requires.tidy.placed;
      uris = c.requires.tidy.uris;
      outer = c.requires.tidy.outer;
      ready = ready_content _ _ c.gather.new.values c.args.self.now.tag c.args.self.now.mode c.requires.mode (omega (arith, before, more, ap pending_count c.in_ok-gather.ensures.pending));
    }
