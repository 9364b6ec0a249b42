use Rattle.std.proofs.Common.{rules, sym, ap, ◌∙◌, refl, None, Some}
use Rattle.std.specs.Prelude.{if◌then◌else◌}
use Rattle.tree_model.specs.XmlMeaning.{unknown_entity}
use Rattle.tree_model.proofs.XmlUtf8.{text_entity}
use Rattle.xml_rows.specs.BuilderView.{faults_of}
use Rattle.xml_rows.specs.Work.{or_first}
use Rattle.xml_rows.proofs.Parted.{same_work, entity_first}
use Rattle.xml_rows.proofs.Quoted.{value_ready, ready_value, value_more, mode_entity, value_within}
use Rattle.xml_rows.proofs.parts.Parts.value_entity.Goals as goal

pub returns-clause-work : goal.returns-clause-work
returns-clause-work c =
    let fault = c.first_fault-self.ensures
    ∙ ap (or_first (faults_of c.args.self.now.tag.within)) (c.entity_fault.ensures ∙ ap (λ b. if b then None else Some (unknown_entity c.args.self.now.at)) c.in_ok-is_known.ensures.known ∙ sym (entity_first c.args.self.now.at c.args.name.now)) in
    same_work _ _ (search rules) refl (rw c.requires.mode refl) refl refl refl refl
    (rw c.requires.mode (mode_entity c.args.self.now.tag c.args.self.now.values.settled c.add_entity.new.self.settled c.args.self.now.values.pending c.add_entity.new.self.pending _ c.first_fault-self.result _ c.in_ok-is_known.ensures.settled fault
    c.in_ok-is_known.ensures.pending))

pub returns-clause-tidy : goal.returns-clause-tidy
returns-clause-tidy c = record {
  placed = rw c.in_ok-is_known.ensures.settled c.requires.tidy.placed;
  uris = c.requires.tidy.uris;
  outer = c.requires.tidy.outer;
  ready = ready_value _ _ c.add_entity.new.self _ c.args.self.now.mode c.requires.mode
      (value_within _ _ c.add_entity.new.self c.args.self.now.tag _ refl refl refl
      (value_more _ _ c.args.self.now.values c.add_entity.new.self c.args.self.now.tag _ c.in_ok-is_known.ensures.settled c.in_ok-is_known.ensures.pending (text_entity _ c.requires.named).utf8
      (value_ready _ _ c.args.self.now.values c.args.self.now.tag c.args.self.now.mode c.requires.mode c.requires.tidy.ready)));
}
