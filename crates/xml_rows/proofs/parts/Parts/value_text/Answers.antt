use Rattle.xml_rows.proofs.Quoted.{value_ready, ready_value, value_more}
use Rattle.tree_model.proofs.XmlUtf8.{utf8_spaced}
use Rattle.xml_rows.proofs.parts.Parts.value_text.Goals as goal

pub returns-clause-tidy : goal.returns-clause-tidy
returns-clause-tidy c = record {
  placed = rw c.in_ok-add_spaced.ensures.settled c.requires.tidy.placed;
  uris = c.requires.tidy.uris;
  outer = c.requires.tidy.outer;
  ready = ready_value _ _ c.add_spaced.new.self c.args.self.now.tag c.args.self.now.mode c.requires.mode
      (value_more _ _ c.args.self.now.values c.add_spaced.new.self c.args.self.now.tag _ c.in_ok-add_spaced.ensures.settled c.in_ok-add_spaced.ensures.pending (utf8_spaced _ c.requires.text) (value_ready _ _ c.args.self.now.values c.args.self.now.tag c.args.self.now.mode c.requires.mode c.requires.tidy.ready));
}
