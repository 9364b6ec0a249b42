use Rattle.std.proofs.Common.{sym, true, false}
use Rattle.xml_rows.proofs.Declaring.{declared_split, declared_whole}
use Rattle.xml_rows.proofs.declarations.declared.Goals as goal

pub returns-then-is_xmlns : goal.returns-then-is_xmlns
returns-then-is_xmlns c = declared_split c.args.name.now (c.in-Some.prefix.now, c.in-Some.local.now) true (sym c.in-Some.ensures) (sym c.if-is_xmlns.ensures)

pub returns-else-is_xmlns : goal.returns-else-is_xmlns
returns-else-is_xmlns c = declared_split c.args.name.now (c.in-Some.prefix.now, c.in-Some.local.now) false (sym c.in-Some.ensures) (sym c.if-is_xmlns.ensures)

pub returns-then-is_xmlns-2 : goal.returns-then-is_xmlns-2
returns-then-is_xmlns-2 c = declared_whole c.args.name.now true (sym c.in-None.ensures) (sym c.if-is_xmlns-2.ensures)

pub returns-else-is_xmlns-2 : goal.returns-else-is_xmlns-2
returns-else-is_xmlns-2 c = declared_whole c.args.name.now false (sym c.in-None.ensures) (sym c.if-is_xmlns-2.ensures)
