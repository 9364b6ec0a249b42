use Rattle.std.proofs.Common.{refl}
use Rattle.doc_store.specs.Stored.{stored, Branched}
use Rattle.doc_store.proofs.Branches.{branch_begun}
use Rattle.doc_store.proofs.database.Database.branch.Goals as goal

pub returns-clause-own : goal.returns-clause-own
returns-clause-own c =
    branch_begun (stored c.self.inside.name c.self.inside.next c.self.inside.table c.self.inside.rows c.self.inside.ids c.self.inside.names c.self.inside.heap c.self.inside.branched) c.branch-self-2.new._pool
    (record { origin = c.in_ok-origin.origin; table = c.in_ok-table.table; ids = c.in_ok-ids.ids; next = c.self.inside.next; names_mark = c.mark.result; values_mark = c.mark-2.result })
    c.self.invariant c.branch-self-2.ensures.others c.in_ok-origin.ensures c.in_ok-table.ensures.rows c.in_ok-table.ensures.held c.in_ok-ids.ensures refl c.mark.ensures c.mark-2.ensures
