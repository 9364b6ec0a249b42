-- What has grown twice has grown.
use Rattle.std.proofs.Common.{◌≡◌, ℕ, List, [], ◌++◌, append_assoc, append-nil, sym, ap, ◌∙◌}
use Rattle.dec_num.specs.Growth as dec_num
use Rattle.serializer.specs.Growth.{Grew}

pub grew_by : (old new more : List ℕ) → new ≡ old ++ more → Grew old new
grew_by old new more e = record { more = more; is = e }

pub grew_none : (old new : List ℕ) → new ≡ old → Grew old new
grew_none old new e = record { more = []; is = e ∙ sym (append-nil old) }

pub grew_twice : (old mid new : List ℕ) → Grew old mid → Grew mid new → Grew old new
grew_twice old mid new g h =
    record { more = g.more ++ h.more; is = h.is ∙ ap (λ l. l ++ h.more) g.is ∙ append_assoc old g.more h.more }

pub grew_as : (old new : List ℕ) → dec_num.Grew old new → Grew old new
grew_as old new g = record { more = g.more; is = g.is }
