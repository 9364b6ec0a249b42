use Rattle.std.proofs.Common.{rules, append_assoc}
use Rattle.tree_model.specs.Printed.{head_text}
use Rattle.serializer.proofs.storage.push_row.Goals as goal

pub returns-clause-text : goal.returns-clause-text
unfolding head_text
returns-clause-text c = search (rules, append_assoc)
