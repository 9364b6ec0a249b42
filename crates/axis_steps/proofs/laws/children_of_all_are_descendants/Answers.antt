use Rattle.axis_steps.proofs.Together.{children_of_all}
use Rattle.axis_steps.proofs.laws.children_of_all_are_descendants.Goals as goal

pub returns : goal.returns
returns c = children_of_all
