use Rattle.std.proofs.Common.{rules, sym, ap, ◌∙◌, refl, None, Some}
use Rattle.std.specs.Prelude.{if◌then◌else◌}
use Rattle.tree_model.specs.XmlMeaning.{unknown_entity}
use Rattle.xml_rows.specs.BuilderView.{faults_of}
use Rattle.xml_rows.specs.Work.{or_first}
use Rattle.xml_rows.proofs.Parted.{same_work, entity_first}
use Rattle.xml_rows.proofs.parts.Parts.entity.Goals as goal

pub returns-clause-work : goal.returns-clause-work
returns-clause-work c =
    let fault = c.first_fault-self.ensures
    ∙ ap (or_first (faults_of c.args.self.now.fault)) (c.entity_fault.ensures ∙ ap (λ b. if b then None else Some (unknown_entity c.args.self.now.at)) c.in_ok-is_known.ensures.known ∙ sym (entity_first c.args.self.now.at c.args.name.now)) in
    same_work _ _ (search rules) refl (rw c.requires.mode c.in_ok-is_known.ensures.pending) refl refl refl fault (rw c.requires.mode refl)
