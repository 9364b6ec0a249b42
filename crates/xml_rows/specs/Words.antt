-- What the code reads, without where it lies in memory.
use Rattle.std.specs.Prelude.{ℕ, List}
use Rattle.std.specs.Borrow.{Bor}

abbrev pub Bytes : Type 0
Bytes = Bor (List ℕ)

abbrev pub two : Bytes × Bytes → List ℕ × List ℕ
two x = (x.0.now, x.1.now)

abbrev pub now : Bytes → List ℕ
now bytes = bytes.now
