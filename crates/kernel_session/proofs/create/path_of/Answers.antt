use Rattle.tree_model.specs.States.{default_path}
use Rattle.kernel_session.proofs.Paths.{default_path_ok, if_path}
use Rattle.kernel_session.proofs.create.path_of.Goals as goal

pub returns-in-Text-clause-good : goal.returns-in-Text-clause-good
returns-in-Text-clause-good c = if_path c.default_path.result (default_path c.args.name.now) (default_path_ok c.args.name.now c.requires) c.default_path.ensures
