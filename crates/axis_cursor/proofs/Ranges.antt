-- What passes among the places of a range.
use Rattle.std.proofs.Common.{◌≡◌, ℕ, zero, suc, ◌+◌, ◌-◌, ◌<◌, ◌≤◌, Bool, true, false, cond, List, [], ◌∷◌, ◌++◌, refl, ap, ◌∙◌, arith, append-nil}
use Rattle.std.specs.Prelude.{filter, reverse}
use Rattle.std.specs.List.{range_with_len}
use Rattle.std.proofs.lemmas.List.{reverse-append}
use Rattle.axis_cursor.specs.Walks.{places}

dropped : (on : ℕ → Bool) (p : ℕ) (ps : List ℕ) → on p ≡ false → filter on (p ∷ ps) ≡ filter on ps
dropped on p ps e = ap (λ b. cond b (p ∷ filter on ps) (filter on ps)) e

kept : (on : ℕ → Bool) (p : ℕ) (ps : List ℕ) → on p ≡ true → filter on (p ∷ ps) ≡ p ∷ filter on ps
kept on p ps e = ap (λ b. cond b (p ∷ filter on ps) (filter on ps)) e

pub range_none : (on : ℕ → Bool) (a n : ℕ) → ((k : ℕ) → a ≤ k → k < a + n → on k ≡ false) → filter on (range_with_len a n) ≡ []
range_none on a zero off = refl
range_none on a (suc n) off =
    dropped on a (range_with_len (a + 1) n) (off a (omega arith) (omega arith))
    ∙ range_none on (a + 1) n (λ k low high. off k (omega arith) (omega arith))

alike : (b c : Bool) (p : ℕ) (ps qs : List ℕ) → b ≡ c → ps ≡ qs → cond b (p ∷ ps) ps ≡ cond c (p ∷ qs) qs
alike b c p ps qs e f = ap (λ x. cond x (p ∷ ps) ps) e ∙ ap (λ xs. cond c (p ∷ xs) xs) f

pub range_same : (on other : ℕ → Bool) (a n : ℕ) → ((k : ℕ) → a ≤ k → k < a + n → on k ≡ other k) → filter on (range_with_len a n) ≡ filter other (range_with_len a n)
range_same on other a zero same = refl
range_same on other a (suc n) same =
    alike (on a) (other a) a (filter on (range_with_len (a + 1) n)) (filter other (range_with_len (a + 1) n)) (same a (omega arith) (omega arith))
    (range_same on other (a + 1) n (λ k low high. same k (omega arith) (omega arith)))

beside : (b : Bool) (p : ℕ) (ps qs rs : List ℕ) → ps ≡ qs ++ rs → cond b (p ∷ ps) ps ≡ cond b (p ∷ qs) qs ++ rs
beside true p ps qs rs e = ap (λ xs. p ∷ xs) e
beside false p ps qs rs e = e

-- a range is two
pub range_split : (on : ℕ → Bool) (k n m a b : ℕ) → m ≡ k + n → b ≡ a + k → filter on (range_with_len a m) ≡ filter on (range_with_len a k) ++ filter on (range_with_len b n)
range_split on zero n m a b e f =
    let e' : m ≡ n = omega arith in
    let f' : a ≡ b = omega arith in
    ap (λ x. filter on (range_with_len a x)) e' ∙ ap (λ x. filter on (range_with_len x n)) f'
range_split on (suc k) n zero a b e f = absurd (omega arith)
range_split on (suc k) n (suc m) a b e f =
    beside (on a) a (filter on (range_with_len (a + 1) m)) (filter on (range_with_len (a + 1) k)) (filter on (range_with_len b n))
    (range_split on k n m (a + 1) b (omega arith) (omega arith))

pub range_one : (on : ℕ → Bool) (a n p : ℕ) → a ≤ p → p < a + n → on p ≡ true → ((k : ℕ) → a ≤ k → k < a + n → (k ≡ p → ⊥) → on k ≡ false) → filter on (range_with_len a n) ≡ p ∷ []
range_one on a n p low high here off =
    range_split on (p - a) (suc (a + n - p - 1)) n a p (omega arith) (omega arith)
    ∙ ap (λ xs. xs ++ filter on (range_with_len p (suc (a + n - p - 1)))) (range_none on a (p - a) (λ k from to. off k (omega arith) (omega arith) (λ e. omega arith)))
    ∙ kept on p (range_with_len (p + 1) (a + n - p - 1)) here
    ∙ ap (λ xs. p ∷ xs) (range_none on (p + 1) (a + n - p - 1) (λ k from to. off k (omega arith) (omega arith) (λ e. omega arith)))

-- one step forwards
pub step_forwards : (on : ℕ → Bool) (at p to end : ℕ) → at ≤ p → p < to → to ≤ end → on p ≡ true → ((k : ℕ) → at ≤ k → k < to → (k ≡ p → ⊥) → on k ≡ false)
    → filter on (places at end) ≡ p ∷ filter on (places to end)
step_forwards on at p to end low high within here off =
    range_split on (to - at) (end - to) (end - at) at to (omega arith) (omega arith)
    ∙ ap (λ xs. xs ++ filter on (places to end)) (range_one on at (to - at) p low (omega arith) here (λ k from behind. off k from (omega arith)))

pub none_forwards : (on : ℕ → Bool) (at end : ℕ) → ((k : ℕ) → at ≤ k → k < end → on k ≡ false) → filter on (places at end) ≡ []
none_forwards on at end off = range_none on at (end - at) (λ k from to. off k from (omega arith))

-- one step backwards
pub step_backwards : (on : ℕ → Bool) (p at : ℕ) → p < at → on p ≡ true → ((k : ℕ) → p < k → k < at → on k ≡ false)
    → reverse (filter on (places 0 at)) ≡ p ∷ reverse (filter on (places 0 p))
step_backwards on p at before here off =
    ap reverse (range_split on (p - 0) (at - p) (at - 0) 0 p (omega arith) (omega arith)
    ∙ ap (λ xs. filter on (places 0 p) ++ xs) (range_one on p (at - p) p (omega arith) (omega arith) here (λ k from to other. off k (omega arith) (omega arith))))
    ∙ reverse-append (filter on (places 0 p)) (p ∷ [])

pub none_backwards : (on : ℕ → Bool) (at : ℕ) → ((k : ℕ) → k < at → on k ≡ false) → reverse (filter on (places 0 at)) ≡ []
none_backwards on at off = ap reverse (none_forwards on 0 at (λ k from to. off k to))

-- all that passes lies in a window, and there it is what another test lets pass
pub window : (on other : ℕ → Bool) (from at end to : ℕ) → from ≤ at → at ≤ end → end ≤ to → ((k : ℕ) → from ≤ k → k < at → on k ≡ false) → ((k : ℕ) → end ≤ k → k < to → on k ≡ false)
    → ((k : ℕ) → at ≤ k → k < end → on k ≡ other k) → filter on (places from to) ≡ filter other (places at end)
window on other from at end to low order high before behind same =
    range_split on (at - from) (to - at) (to - from) from at (omega arith) (omega arith)
    ∙ ap (λ xs. xs ++ filter on (places at to)) (none_forwards on from at before)
    ∙ range_split on (end - at) (to - end) (to - at) at end (omega arith) (omega arith)
    ∙ ap (λ xs. filter on (places at end) ++ xs) (none_forwards on end to behind)
    ∙ append-nil (filter on (places at end))
    ∙ range_same on other at (end - at) (λ k from to. same k from (omega arith))

pub all_places : (n : ℕ) → range_with_len 0 n ≡ places 0 n
all_places n = let e : n ≡ n - 0 = omega arith in ap (range_with_len 0) e

pub places_same : (on other : ℕ → Bool) (from to : ℕ) → ((k : ℕ) → from ≤ k → k < to → on k ≡ other k) → filter on (places from to) ≡ filter other (places from to)
places_same on other from to same = range_same on other from (to - from) (λ k low high. same k low (omega arith))
