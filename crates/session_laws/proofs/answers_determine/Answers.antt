use Rattle.session_laws.proofs.Determined.{determined}
use Rattle.session_laws.proofs.answers_determine.Goals as goal

pub returns : goal.returns
returns c = determined
