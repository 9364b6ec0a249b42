use Rattle.std.proofs.Common.{ℕ, List}
use Rattle.kernel_session.specs.Lines.{HasRead, behind, pending, stock}
use Rattle.kernel_session.proofs.line_reader.LineReader.next.Given as goal

abbrev pub invariant-read : goal.invariant-read
invariant-read g l =
    (read : List ℕ) × HasRead (behind (pending l.fn.self) (g.S.Source.seen l.fn.source)) (behind (pending l.self) (g.S.Source.seen l.source))
    (stock l.fn.self) (stock l.self) read l.self.line.items l.self.is_long

abbrev pub decreases-read : goal.decreases-read
decreases-read g l = l.self.room
