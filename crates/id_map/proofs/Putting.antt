-- A run put behind others is a write at the last place or a push.
use Rattle.std.proofs.Common.{◌≡◌, ℕ, zero, suc, ◌+◌, ◌<◌, true, false, List, [], ◌∷◌, ◌++◌, length, get_or, set, eqb, refl, sym, ap, ◌∙◌, subst, arith}
use Rattle.std.proofs.lemmas.List.{get_or_read}
use Rattle.std.proofs.lemmas.Bool.{cond-true, cond-false, eq-eqb, ne_eqb}
use Rattle.id_map.specs.Changes.{joins, both, put_behind, put_run}
use Rattle.id_map.specs.declared.span.Span.{Span}

pub put_joined : (runs : List Span) (k : ℕ) (x s : Span) → k + 1 ≡ length runs → x ≡ get_or runs k x → joins x s ≡ true → set runs k (both x s) ≡ put_behind runs s
put_joined [] k x s e is on = absurd (omega arith)
put_joined (y ∷ []) zero x s e is on =
    let same : joins y s ≡ true = subst (λ z. joins z s ≡ true) is on in
    sym (cond-true (joins y s) (both y s ∷ []) (y ∷ s ∷ []) same ∙ ap (λ z. both z s ∷ []) (sym is))
put_joined (y ∷ []) (suc k) x s e is on = absurd (omega arith)
put_joined (y ∷ z ∷ runs) zero x s e is on = absurd (omega arith)
put_joined (y ∷ z ∷ runs) (suc k) x s e is on = ap (λ l. y ∷ l) (put_joined (z ∷ runs) k x s (omega arith) is on)

pub put_apart : (runs : List Span) (k : ℕ) (x s : Span) → k + 1 ≡ length runs → x ≡ get_or runs k x → joins x s ≡ false → runs ++ s ∷ [] ≡ put_behind runs s
put_apart [] k x s e is on = absurd (omega arith)
put_apart (y ∷ []) zero x s e is on =
    let same : joins y s ≡ false = subst (λ z. joins z s ≡ false) is on in
    sym (cond-false (joins y s) (both y s ∷ []) (y ∷ s ∷ []) same)
put_apart (y ∷ []) (suc k) x s e is on = absurd (omega arith)
put_apart (y ∷ z ∷ runs) zero x s e is on = absurd (omega arith)
put_apart (y ∷ z ∷ runs) (suc k) x s e is on = ap (λ l. y ∷ l) (put_apart (z ∷ runs) k x s (omega arith) is on)

pub put_first : (runs : List Span) (s : Span) → length runs ≡ 0 → runs ++ s ∷ [] ≡ put_behind runs s
put_first [] s e = refl
put_first (y ∷ runs) s e = absurd (omega arith)

pub put_some : (runs : List Span) (s : Span) → (s.n ≡ 0 → ⊥) → put_behind runs s ≡ put_run runs s
put_some runs s some = sym (cond-false (eqb s.n 0) runs (put_behind runs s) (ne_eqb s.n 0 some))

pub put_none : (runs : List Span) (s : Span) → s.n ≡ 0 → put_run runs s ≡ runs
put_none runs s none = cond-true (eqb s.n 0) runs (put_behind runs s) (eq-eqb s.n 0 none)

pub same_read : (runs : List Span) (k : ℕ) (x y : Span) → k < length runs → x ≡ get_or runs k x → y ≡ get_or runs k y → x ≡ y
same_read runs k x y lt p q = get_or_read runs k x lt p y ∙ sym q
