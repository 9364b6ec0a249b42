use Rattle.commands.specs.Commands.{file}
use Rattle.kernel_session.proofs.Reading.{no_document_of}
use Rattle.kernel_session.proofs.content.read_named.Goals as goal

pub returns-in-Ok-clause-none : goal.returns-in-Ok-clause-none
returns-in-Ok-clause-none g c =
    no_document_of c.read_text.result c.args.strip (file c.args.name.now) (g.F.Files.seen c.args.files.now) (g.F.Files.seen c.read_file.new.files)
    c.in-Ok.bytes.items c.in-Ok.ensures.given (rw c.deref.ensures.value at c.read_text.ensures.fault)
