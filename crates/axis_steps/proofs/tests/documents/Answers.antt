-- The rows of the two documents are those of two trees, as can be computed.
use Rattle.std.proofs.Common.{refl}
use Rattle.axis_cursor.proofs.Named.{keeps_by_test}
use Rattle.axis_steps.proofs.tests.documents.Goals as goal

pub returns-clause-trees : goal.returns-clause-trees
returns-clause-trees c = λ names h.
    rw c.in_ok-table.ensures.rows (keeps_by_test _ _ _ refl (rw h refl) (
      refl,
      (refl, (refl, (refl, tt))),
      (refl, tt, tt, (refl, (refl, (refl, (refl, tt))), (refl, (refl, tt), (refl, tt, tt, tt), (refl, tt, tt, (refl, tt, tt, tt))), (refl, tt, tt, tt))),
      (refl, (refl, (refl, tt)), (refl, (refl, tt), (refl, tt, tt, tt), (refl, tt, tt, tt)), tt),
    ))
