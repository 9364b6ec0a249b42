-- What is appended to has grown.
use Rattle.std.proofs.Common.{◌≡◌, ℕ, List, ◌++◌}
use Rattle.dec_num.specs.Growth.{Grew}

pub grew_by : (old new more : List ℕ) → new ≡ old ++ more → Grew old new
grew_by old new more e = record { more = more; is = e }
