use Rattle.std.proofs.Common.{ap}
use Rattle.std.specs.Option.{option_map}
use Rattle.commands.specs.CommandView.{input_of_document}
use Rattle.kernel_session.proofs.Databases.{new_empty, new_one}
use Rattle.kernel_session.proofs.create.new_database.Goals as goal

pub returns-in_default-clause-ok : goal.returns-in_default-clause-ok
returns-in_default-clause-ok g c =
    new_empty c.empty_database.result c.made.result c.args.strip c.args.name.now (option_map input_of_document c.args.document.now) (g.F.Files.seen c.args.files.now)
    (ap (option_map input_of_document) c.in_default.is) c.made.ensures.ok c.empty_database.ensures

pub returns-in-Ok-clause-ok : goal.returns-in-Ok-clause-ok
returns-in-Ok-clause-ok g c =
    new_one c.with_document.result c.made-in-Ok.result c.args.strip c.args.name.now (option_map input_of_document c.args.document.now) (input_of_document c.in-Some.document)
    (g.F.Files.seen c.args.files.now) (g.F.Files.seen c.read_new_document.new.files)
    c.in-Ok.built (ap (option_map input_of_document) c.in-Some.is) c.made-in-Ok.ensures.ok c.with_document.ensures.one c.in-Ok.ensures.document
