use Rattle.std.proofs.Common.{◌∙◌}
use Rattle.xml_rows.specs.BuilderView.{parts_work}
use Rattle.xml_rows.proofs.Parted.{run_work, decimal_work, hexadecimal_work}
use Rattle.xml_rows.proofs.parts.Parts.take_content.Goals as goal

pub returns-in_ok-text-in-Run-clause-work : goal.returns-in_ok-text-in-Run-clause-work
returns-in_ok-text-in-Run-clause-work c =
    rw c.in-Run.is (c.in_ok-text-in-Run.ensures.work ∙ run_work c.args.strip (parts_work c.args.self.now) c.in-Run.bytes.now)

pub returns-in_ok-character-in-Decimal-clause-work : goal.returns-in_ok-character-in-Decimal-clause-work
returns-in_ok-character-in-Decimal-clause-work c =
    rw c.in-Decimal.is (c.in_ok-character-in-Decimal.ensures.work ∙ decimal_work c.args.strip (parts_work c.args.self.now) c.in-Decimal.digits.now c.decimal_char.result c.decimal_char.ensures)

pub returns-in_ok-character-in-Hexadecimal-clause-work : goal.returns-in_ok-character-in-Hexadecimal-clause-work
returns-in_ok-character-in-Hexadecimal-clause-work c =
    rw c.in-Hexadecimal.is (c.in_ok-character-in-Hexadecimal.ensures.work ∙ hexadecimal_work c.args.strip (parts_work c.args.self.now) c.in-Hexadecimal.digits.now c.hexadecimal_char.result c.hexadecimal_char.ensures)
