use Rattle.std.proofs.Common.{◌∙◌}
use Rattle.xml_rows.proofs.Declaring.{some_declared}
use Rattle.xml_rows.proofs.declarations.is_declaration.Goals as goal

pub returns : goal.returns
returns c = c.is_some.ensures ∙ some_declared c.args.name.now c.declared.result c.declared.ensures
