use Rattle.serializer.proofs.Declaring.{declares_one}
use Rattle.serializer.proofs.node.declare.Goals as goal

pub returns-clause-declares : goal.returns-clause-declares
returns-clause-declares c = declares_one _ _ _ _ c.in_ok-push.ensures
