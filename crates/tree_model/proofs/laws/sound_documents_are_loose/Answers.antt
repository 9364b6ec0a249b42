use Rattle.tree_model.proofs.Looseness.{sound_loose}
use Rattle.tree_model.proofs.laws.sound_documents_are_loose.Goals as goal

pub returns : goal.returns
returns c = sound_loose
