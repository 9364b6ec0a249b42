use Rattle.outer_io.proofs.NamedFiles.{written_is_found, others_stay}
use Rattle.outer_io.proofs.files.one_file_written.Goals as goal

pub returns : goal.returns
returns c = record { found = written_is_found; others = others_stay }
