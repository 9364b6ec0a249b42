-- Comments by a table.
use Rattle.std.proofs.Common.{◌≡◌, ℕ, zero, suc, ◌+◌, ◌-◌, ◌<◌, List, length, drop, ◌&&◌, subst, arith, get_or, Ok}
use Rattle.std.specs.Prelude.{codes, slice_index, nat_lt, ◌==◌}
use Rattle.std.specs.Str.{IsUtf8, IsCharBoundary}
use Rattle.std.proofs.lemmas.Str.{IsCharBoundary-after_ascii}
use Rattle.query_terms.specs.Rule.{Text, nothing, word_at}
use Rattle.query_tokens.specs.Reads.{looked_up, closed}
use Rattle.query_tokens.proofs.Keeping.{HasRests, Keeps, then_ok, word_keeps, kept_if}

pub looked_up_keeps : (P : Text → Type 0) → HasRests P → (comment_ends : List ℕ) → Keeps P (looked_up comment_ends)
looked_up_keeps P rests comment_ends s t v p e =
    let x = then_ok (word_at (codes "(:") s) _ _ e in
    by (slice_index comment_ends (length x.0.1)) (word_keeps P rests (codes "(:") s x.0.1 x.0.0 p x.1) x.2
  where
    by : {u : Text} (entry : ℕ) → P u → closed entry u ≡ Ok (v, t) → P t
    by zero p e = absurd (cc)
    by {u = u} (suc left) p e = kept_if P rests (nat_lt left (length u) && slice_index u (length u - left - 1) == 41) nothing v (drop (length u - left) u) t (rests (length u - left) u p) e

pub behind_boundary : (s : Text) (left : ℕ) → IsUtf8 s → left < length s → slice_index s (length s - left - 1) ≡ 41 → IsCharBoundary s (length s - left)
behind_boundary s left utf8 below is =
    let e : length s - left - 1 + 1 ≡ length s - left = omega arith in
    let low : get_or s (length s - left - 1) 0 < 128 = omega (arith, is) in
    subst (IsCharBoundary s) e (IsCharBoundary-after_ascii s (length s - left - 1) utf8 (omega arith) low)
