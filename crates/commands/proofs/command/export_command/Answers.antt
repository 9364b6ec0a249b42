use Rattle.commands.proofs.Readings.{no_path, export_reads}
use Rattle.commands.proofs.command.export_command.Goals as goal

pub returns-in_default : goal.returns-in_default
returns-in_default c =
    let path = rw c.split_word.ensures.word at c.read.ensures in
    no_path c.args.words.now c.read.result path c.in_default.is

pub returns-in-Some-read : goal.returns-in-Some-read
returns-in-Some-read c =
    let path = rw (c.split_word.ensures.word, c.in-Some.is) at c.read.ensures in
    let name = rw (c.split_word.ensures.behind, c.in-Some-read.is) at c.read-2.ensures in
    export_reads c.args.words.now _ _ path name

pub returns-in-None : goal.returns-in-None
returns-in-None c =
    let path = rw (c.split_word.ensures.word, c.in-Some.is) at c.read.ensures in
    let name = rw (c.split_word.ensures.behind, c.in-None.is) at c.read-2.ensures in
    export_reads c.args.words.now _ _ path name
