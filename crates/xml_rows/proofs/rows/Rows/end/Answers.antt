use Rattle.std.proofs.Common.{ap, rules, ◌<◌, length}
use Rattle.xml_rows.specs.Table.{Table}
use Rattle.xml_rows.proofs.Rowing.{ended_at, placed_at}
use Rattle.xml_rows.proofs.rows.Rows.end.Goals as goal

pub returns-clause-lines : goal.returns-clause-lines
returns-clause-lines c = λ names values.
    let lt : c.in-Some.place < length c.self.inside.rows.items = search rules in
    ended_at names values _ c.self.inside.rows.items c.self.inside.opened.items _ _ c.in-Some.place _ c.index-row.result.now (ap (λ (t : Table). t.rows) c.self.view_is) (ap (λ (t : Table). t.open_at) c.self.view_is)
    c.in-Some.ensures.items lt c.index-row.ensures (search rules)

pub returns-clause-placed : goal.returns-clause-placed
returns-clause-placed c = λ names values placed.
    let lt : c.in-Some.place < length c.self.inside.rows.items = search rules in
    placed_at names values _ _ _ _ c.index-row.result.now (ap (λ (t : Table). t.rows) c.self.view_is) c.index-row.ensures lt placed
