use Rattle.tree_model.specs.Trees.{one_to_one}
use Rattle.tree_model.proofs.laws.equal_flattenings.Goals as goal

pub returns : goal.returns
returns c = one_to_one
