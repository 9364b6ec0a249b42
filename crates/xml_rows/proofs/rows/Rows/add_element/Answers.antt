use Rattle.std.proofs.Common.{ap}
use Rattle.xml_rows.specs.Table.{Table}
use Rattle.xml_rows.proofs.Rowing.{placed_push_by}
use Rattle.xml_rows.proofs.rows.Rows.add_element.Goals as goal

pub returns-clause-placed : goal.returns-clause-placed
returns-clause-placed c = λ names values placed lt le. placed_push_by names values _ _ _ _ c.in_ok-push.ensures.items (ap (λ (t : Table). t.rows) c.self.view_is) placed lt le
