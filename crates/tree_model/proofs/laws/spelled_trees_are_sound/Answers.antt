use Rattle.tree_model.proofs.XmlSoundness.{xml_reads_sound}
use Rattle.tree_model.proofs.laws.spelled_trees_are_sound.Goals as goal

pub returns : goal.returns
returns c = xml_reads_sound
