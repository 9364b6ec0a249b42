use Rattle.std.proofs.Common.{refl}
use Rattle.axis_cursor.proofs.Backwards.{above_done, above_found, above_next}
use Rattle.axis_cursor.proofs.origin.Origin.next_above.Goals as goal

pub returns-then-dist-eq0-clause-last : goal.returns-then-dist-eq0-clause-last
returns-then-dist-eq0-clause-last c =
    above_done c.args.reader.now c.requires.placed.laid c.args.self.context c.args.at.now c.args.dist.now c.requires.placed.within c.requires.at c.if-dist-eq0.true

pub returns-clause-last : goal.returns-clause-last
returns-clause-last c =
    (above_found c.args.reader.now c.requires.placed.laid c.args.self.context c.args.at.now c.args.dist.now c.row_at-row.result c.requires.placed.within c.requires.at c.if-dist-eq0.false c.row_at-row.ensures.row, refl)

pub returns-clause-at : goal.returns-clause-at
returns-clause-at c =
    above_next c.args.reader.now c.requires.placed.laid c.args.self.context c.args.at.now c.args.dist.now c.row_at-row.result c.requires.placed.within c.requires.at c.if-dist-eq0.false c.row_at-row.ensures.row
