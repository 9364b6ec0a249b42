-- Known bytes, with bytes put before them and behind them.
use Rattle.std.proofs.Common.{◌≡◌, ℕ, List, [], ◌++◌, Option, Some, None, refl, ap, append_assoc, append-nil}
use Rattle.std.specs.Io.KnownBytes.{prepend_known, append_known}

pub prepend_nil : (left : Option (List ℕ)) → prepend_known [] left ≡ left
prepend_nil None = refl
prepend_nil (Some xs) = refl

pub prepend_append : (p q : List ℕ) (left : Option (List ℕ)) → prepend_known (p ++ q) left ≡ prepend_known p (prepend_known q left)
prepend_append p q None = refl
prepend_append p q (Some xs) = ap Some (append_assoc p q xs)

pub append_nil : (old : Option (List ℕ)) → append_known old [] ≡ old
append_nil None = refl
append_nil (Some xs) = ap Some (append-nil xs)

pub append_more : (old : Option (List ℕ)) (p q : List ℕ) → append_known (append_known old p) q ≡ append_known old (p ++ q)
append_more None p q = refl
append_more (Some xs) p q = ap Some (append_assoc xs p q)
