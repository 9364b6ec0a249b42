use Rattle.std.proofs.Common.{◌∙◌, sym, ap}
use Rattle.std.proofs.lemmas.List.{drop_all}
use Rattle.commands.proofs.Slashes.{doubles, doubles_are, doubled}
use Rattle.commands.proofs.path.has_double_slash.Goals as goal

pub returns-then-is_slash : goal.returns-then-is_slash
returns-then-is_slash c =
    sym (doubled c.loop-byte.was_slash c.args.bytes.now c.loop-byte.byte-index _ c.loop-byte-test.true c.if-was_slash.true c.if-is_slash.true) ∙ c.loop-byte.invariant ∙ doubles_are c.args.bytes.now

pub returns : goal.returns
returns c =
    sym (ap (doubles c.loop-byte.was_slash) (drop_all c.loop-byte.byte-index c.args.bytes.now c.loop-byte-test.false)) ∙ c.loop-byte.invariant ∙ doubles_are c.args.bytes.now
