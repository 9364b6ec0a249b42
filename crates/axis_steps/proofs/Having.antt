-- What lists of places have.
use Rattle.std.proofs.Common.{◌≡◌, inl, inr, ℕ, zero, suc, ◌+◌, ◌<◌, ◌≤◌, Bool, true, false, cond, List, [], ◌∷◌, ◌++◌, length, get_or, refl, sym, ap, ◌∙◌, subst, arith, reverse, take, drop}
use Rattle.std.specs.Prelude.{◌⊎◌, ◌||◌, nat_eq, filter}
use Rattle.std.specs.Bool.{Decides}
use Rattle.std.specs.List.{All, flat_map, range_with_len}
use Rattle.std.proofs.lemmas.Bool.{or_left, or_right}
use Rattle.std.proofs.lemmas.Bool.Decides.{eqb_tells}
use Rattle.std.proofs.lemmas.List.{reverse-append, take_all}
use Rattle.std.proofs.Common.{take-suc, drop-cons, ◌-◌}
use Rattle.tree_model.specs.Nodes.{is_place_among}
use Rattle.axis_steps.specs.Steps.{Has}

-- ---- two lists

pub has_either : (xs ys : List ℕ) (p : ℕ) → Has (xs ++ ys) p → Has xs p ⊎ Has ys p
has_either [] ys p h = inr h
has_either (x ∷ xs) ys p (inl e) = inl (inl e)
has_either (x ∷ xs) ys p (inr h) = elim (has_either xs ys p h) [ inl a ↦ inl (inr a) | inr b ↦ inr b ]

pub has_left : (xs ys : List ℕ) (p : ℕ) → Has xs p → Has (xs ++ ys) p
has_left [] ys p h = absurd h
has_left (x ∷ xs) ys p (inl e) = inl e
has_left (x ∷ xs) ys p (inr h) = inr (has_left xs ys p h)

pub has_right : (xs ys : List ℕ) (p : ℕ) → Has ys p → Has (xs ++ ys) p
has_right [] ys p h = h
has_right (x ∷ xs) ys p h = inr (has_right xs ys p h)

-- with one more
pub has_push : (xs : List ℕ) (q p : ℕ) → Has (xs ++ q ∷ []) p → Has xs p ⊎ (q ≡ p)
has_push xs q p h = elim (has_either xs (q ∷ []) p h) [ inl a ↦ inl a | inr b ↦ one b ]
  where
    one : Has (q ∷ []) p → Has xs p ⊎ (q ≡ p)
    one (inl e) = inr e
    one (inr n) = absurd n

pub has_reverse : (xs : List ℕ) (p : ℕ) → Has (reverse xs) p → Has xs p
has_reverse [] p h = h
has_reverse (x ∷ xs) p h = elim (has_push (reverse xs) x p (subst (λ l. Has l p) (reverse-append (x ∷ []) xs) h)) [ inl a ↦ inr (has_reverse xs p a) | inr e ↦ inl e ]

pub reverse_has : (xs : List ℕ) (p : ℕ) → Has xs p → Has (reverse xs) p
reverse_has [] p h = h
reverse_has (x ∷ xs) p (inl e) = subst (λ l. Has l p) (sym (reverse-append (x ∷ []) xs)) (has_right (reverse xs) (x ∷ []) p (inl e))
reverse_has (x ∷ xs) p (inr h) = subst (λ l. Has l p) (sym (reverse-append (x ∷ []) xs)) (has_left (reverse xs) (x ∷ []) p (reverse_has xs p h))

-- ---- filters and ranges

pub has_filter : (on : ℕ → Bool) (xs : List ℕ) (p : ℕ) → Has (filter on xs) p → Has xs p × (on p ≡ true)
has_filter on [] p h = absurd h
has_filter on (x ∷ xs) p h = by (has_filter on xs p) (on x) refl h
  where
    by : (Has (filter on xs) p → Has xs p × (on p ≡ true)) → (b : Bool) → on x ≡ b → Has (cond b (x ∷ filter on xs) (filter on xs)) p → Has (x ∷ xs) p × (on p ≡ true)
    by more true is (inl e) = (inl e, ap on (sym e) ∙ is)
    by more true is (inr k) = let r = more k in (inr r.0, r.1)
    by more false is k = let r = more k in (inr r.0, r.1)

pub filter_has : (on : ℕ → Bool) (xs : List ℕ) (p : ℕ) → Has xs p → on p ≡ true → Has (filter on xs) p
filter_has on [] p h e = absurd h
filter_has on (x ∷ xs) p (inl same) e = subst (λ b. Has (cond b (x ∷ filter on xs) (filter on xs)) p) (sym (ap on same ∙ e)) (inl same)
filter_has on (x ∷ xs) p (inr h) e = by (on x) (filter_has on xs p h e)
  where
    by : (b : Bool) → Has (filter on xs) p → Has (cond b (x ∷ filter on xs) (filter on xs)) p
    by true k = inr k
    by false k = k

pub has_range : (n m p : ℕ) → Has (range_with_len n m) p → (n ≤ p) × (p < n + m)
has_range n zero p h = absurd h
has_range n (suc m) p (inl e) = (omega arith, omega arith)
has_range n (suc m) p (inr h) = let r = has_range (n + 1) m p h in (omega (arith, r.0), omega (arith, r.1))

pub range_has : (n m p : ℕ) → n ≤ p → p < n + m → Has (range_with_len n m) p
range_has n zero p le lt = absurd (omega arith)
range_has n (suc m) p le lt = elim (eqb_tells n p) [ inl e ↦ inl e.1 | inr e ↦ inr (range_has (n + 1) m p (let apart = e.1 in omega (arith, apart)) (omega arith)) ]

-- ---- lists of lists

pub has_flat : (g : ℕ → List ℕ) (xs : List ℕ) (p : ℕ) → Has (flat_map g xs) p → (c : ℕ) × Has xs c × Has (g c) p
has_flat g [] p h = absurd h
has_flat g (x ∷ xs) p h = elim (has_either (g x) (flat_map g xs) p h) [ inl a ↦ (x, inl refl, a) | inr b ↦ let r = has_flat g xs p b in (r.0, inr r.1, r.2) ]

pub flat_has : (g : ℕ → List ℕ) (xs : List ℕ) (p c : ℕ) → Has xs c → Has (g c) p → Has (flat_map g xs) p
flat_has g [] p c h k = absurd h
flat_has g (x ∷ xs) p c (inl e) k = has_left (g x) (flat_map g xs) p (subst (λ y. Has (g y) p) (sym e) k)
flat_has g (x ∷ xs) p c (inr h) k = has_right (g x) (flat_map g xs) p (flat_has g xs p c h k)

-- ---- membership as a test

decides_same : (a b : ℕ) → Decides (nat_eq a b) (a ≡ b)
decides_same a b = elim (eqb_tells a b) [ inl h ↦ (λ e. h.1, λ e. h.0) | inr h ↦ (λ e. absurd (cc_false (nat_eq a b) e h.0), λ e. absurd (h.1 e)) ]
  where
    cc_false : (b : Bool) → b ≡ true → b ≡ false → ⊥
    cc_false true e f = absurd cc
    cc_false false e f = absurd cc

pub has_decides : (xs : List ℕ) (p : ℕ) → Decides (is_place_among xs p) (Has xs p)
has_decides [] p = (λ e. absurd cc, λ h. absurd h)
has_decides (x ∷ xs) p = (λ e. to (nat_eq x p) refl e (has_decides xs p), from (has_decides xs p))
  where
    to : (b : Bool) → nat_eq x p ≡ b → (b || is_place_among xs p) ≡ true → Decides (is_place_among xs p) (Has xs p) → Has (x ∷ xs) p
    to true is e d = inl ((decides_same x p).0 is)
    to false is e d = inr (d.0 e)

    from : Decides (is_place_among xs p) (Has xs p) → Has (x ∷ xs) p → (nat_eq x p || is_place_among xs p) ≡ true
    from d (inl e) = or_left (nat_eq x p) (is_place_among xs p) ((decides_same x p).1 e)
    from d (inr h) = or_right (nat_eq x p) (is_place_among xs p) (d.1 h)

-- ---- all of a list

pub all_has : (P : ℕ → Type 0) (xs : List ℕ) → All P xs → (p : ℕ) → Has xs p → P p
all_has P [] all p h = absurd h
all_has P (x ∷ xs) all p (inl e) = subst P e (all 0 x (omega arith))
all_has P (x ∷ xs) all p (inr h) = all_has P xs (λ k d lt. all (suc k) d (omega arith)) p h

pub has_all : (P : ℕ → Type 0) (xs : List ℕ) → ((p : ℕ) → Has xs p → P p) → All P xs
has_all P [] each k d lt = absurd (omega arith)
has_all P (x ∷ xs) each zero d lt = each x (inl refl)
has_all P (x ∷ xs) each (suc k) d lt = has_all P xs (λ p h. each p (inr h)) k d (omega arith)

-- ---- the first places of a list

pub take_one_more : (xs : List ℕ) (i : ℕ) → i < length xs → take (i + 1) xs ≡ take i xs ++ get_or xs i 0 ∷ []
take_one_more xs i lt = let e : i + 1 ≡ suc i = omega arith in ap (λ n. take n xs) e ∙ take-suc xs i 0 lt

pub take_whole : (xs : List ℕ) (i : ℕ) → length xs ≤ i → take i xs ≡ xs
take_whole xs i le = take_all i xs le

pub drop_one_less : (xs : List ℕ) (i : ℕ) → 0 < i → i ≤ length xs → drop (i - 1) xs ≡ get_or xs (i - 1) 0 ∷ drop i xs
drop_one_less xs i pos le = let e : suc (i - 1) ≡ i = omega arith in drop-cons xs (i - 1) 0 (omega arith) ∙ ap (λ n. get_or xs (i - 1) 0 ∷ drop n xs) e
