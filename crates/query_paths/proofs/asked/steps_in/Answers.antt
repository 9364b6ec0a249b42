use Rattle.std.proofs.Common.{◌∙◌, ap, refl}
use Rattle.query_paths.specs.Paths.{path_in}
use Rattle.query_paths.proofs.Refused.{no_path}
use Rattle.query_paths.proofs.asked.steps_in.Goals as goal

pub returns-in-Ok-None : goal.returns-in-Ok-None
returns-in-Ok-None c = no_path c.args.query.now 67 ((rw c.in-Ok-None.field-0-is at c.in-Ok-None.ensures) ∙ ap path_in c.tree.ensures.value) refl
