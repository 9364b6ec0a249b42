use Rattle.xml_rows.proofs.Quoted.{value_ready, ready_value, value_more}
use Rattle.std.proofs.lemmas.Str.{IsUtf8-encode}
use Rattle.xml_rows.proofs.parts.Parts.value_character.Goals as goal

pub returns-clause-tidy : goal.returns-clause-tidy
returns-clause-tidy c = record {
  placed = rw c.in_ok-add_char.ensures.settled c.requires.tidy.placed;
  uris = c.requires.tidy.uris;
  outer = c.requires.tidy.outer;
  ready = ready_value _ _ c.add_char.new.self c.args.self.now.tag c.args.self.now.mode c.requires.mode
      (value_more _ _ c.args.self.now.values c.add_char.new.self c.args.self.now.tag _ c.in_ok-add_char.ensures.settled c.in_ok-add_char.ensures.pending (IsUtf8-encode c.args.code c.ranges.code.0) (value_ready _ _ c.args.self.now.values c.args.self.now.tag c.args.self.now.mode c.requires.mode c.requires.tidy.ready));
}
