use Rattle.round_trip.proofs.one_tree.Goals as goal
use Rattle.round_trip.proofs.Heads.{one_tree_spelled}

pub returns : goal.returns
returns c = one_tree_spelled
