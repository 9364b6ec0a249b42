use Rattle.std.proofs.Common.{◌∙◌, sym, ap}
use Rattle.std.specs.Option.{option_map}
use Rattle.commands.specs.Commands.{file}
use Rattle.commands.proofs.Readings.{document_reads}
use Rattle.commands.proofs.input.read_document_input.Goals as goal

pub returns-in-Some : goal.returns-in-Some
returns-in-Some c =
    ap (option_map file) (sym c.in-Some.is) ∙ document_reads c.args.rest.now c.read.result (sym c.begins_xml.ensures ∙ c.if-begins_xml.false) c.read.ensures

pub returns-in-None : goal.returns-in-None
returns-in-None c =
    ap (option_map file) (sym c.in-None.is) ∙ document_reads c.args.rest.now c.read.result (sym c.begins_xml.ensures ∙ c.if-begins_xml.false) c.read.ensures
