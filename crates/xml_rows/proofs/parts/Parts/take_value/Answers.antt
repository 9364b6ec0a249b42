use Rattle.std.proofs.Common.{◌∙◌}
use Rattle.xml_rows.specs.BuilderView.{parts_work, tag_of}
use Rattle.xml_rows.proofs.Quoted.{value_run, value_decimal, value_hexadecimal}
use Rattle.xml_rows.proofs.parts.Parts.take_value.Goals as goal

pub returns-in_ok-value_text-in-Run-clause-work : goal.returns-in_ok-value_text-in-Run-clause-work
returns-in_ok-value_text-in-Run-clause-work c =
    rw c.in-Run.is (c.in_ok-value_text-in-Run.ensures.work ∙ value_run (parts_work c.args.self.now) (tag_of c.args.self.now.values.settled c.args.self.now.tag) c.args.self.now.tag.key.now c.args.self.now.values.pending c.in-Run.bytes.now)

pub returns-in_ok-value_character-in-Decimal-clause-work : goal.returns-in_ok-value_character-in-Decimal-clause-work
returns-in_ok-value_character-in-Decimal-clause-work c =
    rw c.in-Decimal.is
    (c.in_ok-value_character-in-Decimal.ensures.work ∙ value_decimal (parts_work c.args.self.now) (tag_of c.args.self.now.values.settled c.args.self.now.tag) c.args.self.now.tag.key.now c.args.self.now.values.pending c.in-Decimal.digits.now c.decimal_char.result c.decimal_char.ensures)

pub returns-in_ok-value_character-in-Hexadecimal-clause-work : goal.returns-in_ok-value_character-in-Hexadecimal-clause-work
returns-in_ok-value_character-in-Hexadecimal-clause-work c =
    rw c.in-Hexadecimal.is
    (c.in_ok-value_character-in-Hexadecimal.ensures.work ∙ value_hexadecimal (parts_work c.args.self.now) (tag_of c.args.self.now.values.settled c.args.self.now.tag) c.args.self.now.tag.key.now c.args.self.now.values.pending c.in-Hexadecimal.digits.now c.hexadecimal_char.result c.hexadecimal_char.ensures)
