use Rattle.std.proofs.Common.{Some, sym, ap, ◌∙◌}
use Rattle.outer_io.specs.Files.{Entry}
use Rattle.outer_io.proofs.NamedFiles.{no_file, found_file}
use Rattle.outer_io.proofs.entries.bytes_of.Goals as goal

pub returns-in_default-clause-none : goal.returns-in_default-clause-none
returns-in_default-clause-none c = no_file c.args.name.now c.args.entries.now c.in_default.ensures

pub returns-clause-some : goal.returns-clause-some
returns-clause-some c =
    found_file c.args.name.now c.args.entries.now c.in-Some.place c.index-entries-place.result c.in-Some.ensures
    ∙ ap Some (ap (λ (entry : Entry). entry.bytes) (sym c.index-entries-place.is) ∙ sym c.bytes.ensures)
