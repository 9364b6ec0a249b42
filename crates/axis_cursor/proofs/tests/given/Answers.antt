-- The rows of the tests are those of two trees, as can be computed.
use Rattle.std.proofs.Common.{◌≡◌, [], length, refl, arith}
use Rattle.axis_cursor.proofs.Named.{keeps_by_test}
use Rattle.axis_cursor.proofs.tests.given.Goals as goal

pub new-cursor-requires-clause-trees : goal.new-cursor-requires-clause-trees
new-cursor-requires-clause-trees c =
    let eight : length c.in_ok-names.names ≡ 8 = omega arith in (
      [],
      rw c.in_ok-table.ensures.rows (keeps_by_test _ _ _ refl (rw eight refl) (
        refl,
        (refl, (refl, (refl, tt))),
        (refl, tt, tt, (refl, (refl, (refl, (refl, (refl, tt)))), (refl, tt, tt, (refl, (refl, tt), (refl, tt, tt, tt), (refl, tt, tt, (refl, tt, tt, tt)))), (refl, tt, tt, tt))),
        (refl, (refl, tt), (refl, (refl, tt), (refl, tt, tt, tt), tt), tt),
      )),
    )
