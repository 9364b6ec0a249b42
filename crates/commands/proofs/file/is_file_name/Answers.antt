use Rattle.std.proofs.Common.{◌∙◌, sym}
use Rattle.commands.proofs.Words.{text_name}
use Rattle.commands.proofs.file.is_file_name.Goals as goal

pub returns-then-text-le-MAX_FILE_NAME : goal.returns-then-text-le-MAX_FILE_NAME
returns-then-text-le-MAX_FILE_NAME c =
    let told = c.if-text-le-MAX_FILE_NAME.true in
    text_name c.args.text.now c.has_no_blank.result c.utf8.text (sym c.is_empty.ensures ∙ told.0) told.1 c.has_no_blank.ensures
