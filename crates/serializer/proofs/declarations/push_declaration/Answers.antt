use Rattle.std.proofs.Common.{rules, append_assoc}
use Rattle.serializer.proofs.declarations.push_declaration.Goals as goal

pub returns-clause-text : goal.returns-clause-text
returns-clause-text g c = search (rules, append_assoc)
