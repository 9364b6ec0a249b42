-- The same runs in order of pre and in order of id come to the same runs when they are joined.
use Rattle.std.proofs.Common.{◌≡◌, ℕ, ◌+◌, ◌<◌, ◌≤◌, inl, inr, Bool, true, false, cond, eqb, ◌&&◌, List, [], ◌∷◌, ◌++◌, refl, ap, ap₂, ◌∙◌, subst, arith}
use Rattle.std.specs.List.{sum_by, AllByRecursion}
use Rattle.std.proofs.lemmas.Bool.{cases_Bool, eqb-true, eq-eqb, cond-true, cond-false, and_parts, and_from}
use Rattle.std.proofs.lemmas.List.Sums.{sum_by-cons, sum_by-append}
use Rattle.id_map.specs.Spans.{AreLaid, AreApart, SameRuns}
use Rattle.id_map.specs.declared.span.Span.{Span}
use Rattle.id_map.proofs.Joining.{AreSome, apart_lower}

-- ---- how often a run stands in a list

pub same : Span → Span → Bool
same s t = eqb s.first_id t.first_id && (eqb s.pre t.pre && eqb s.n t.n)

pub same_true : (s t : Span) → same s t ≡ true → s ≡ t
unfolding same
same_true s t e =
    let one = and_parts (eqb s.first_id t.first_id) (eqb s.pre t.pre && eqb s.n t.n) e in
    let two = and_parts (eqb s.pre t.pre) (eqb s.n t.n) one.1 in
    let first : s.first_id ≡ t.first_id = eqb-true s.first_id t.first_id one.0 in
    let pre : s.pre ≡ t.pre = eqb-true s.pre t.pre two.0 in
    let n : s.n ≡ t.n = eqb-true s.n t.n two.1 in
    λ i. record { first_id = first i; pre = pre i; n = n i }

same_self : (s : Span) → same s s ≡ true
unfolding same
same_self s =
    and_from (eqb s.first_id s.first_id) (eqb s.pre s.pre && eqb s.n s.n) (eq-eqb s.first_id s.first_id refl)
    (and_from (eqb s.pre s.pre) (eqb s.n s.n) (eq-eqb s.pre s.pre refl) (eq-eqb s.n s.n refl))

is : Span → Span → ℕ
is s t = cond (same t s) 1 0

pub stands : Span → List Span → ℕ
stands s ss = sum_by (is s) ss

pub stands-nil : (s : Span) → stands s [] ≡ 0
unfolding stands
stands-nil s = refl

pub stands-self : (s : Span) (ss : List Span) → stands s (s ∷ ss) ≡ 1 + stands s ss
unfolding stands is
stands-self s ss = sum_by-cons (is s) s ss ∙ ap (λ k. k + sum_by (is s) ss) (cond-true (same s s) 1 0 (same_self s))

pub stands-other : (s t : Span) (ss : List Span) → same t s ≡ false → stands s (t ∷ ss) ≡ stands s ss
unfolding stands is
stands-other s t ss e = sum_by-cons (is s) t ss ∙ ap (λ k. k + sum_by (is s) ss) (cond-false (same t s) 1 0 e) ∙ omega arith

pub stands-append : (s : Span) (xs ys : List Span) → stands s (xs ++ ys) ≡ stands s xs + stands s ys
unfolding stands
stands-append s xs ys = sum_by-append (is s) xs ys

pub stands-cons : (s t : Span) (ss : List Span) → stands s ss ≤ stands s (t ∷ ss)
unfolding stands
stands-cons s t ss = omega (arith, sum_by-cons (is s) t ss)

pub stands-same : (s : Span) (xs ys : List Span) → SameRuns xs ys → stands s xs ≡ stands s ys
unfolding stands
stands-same s xs ys h = h (is s)

-- what holds of each run that stands in a list holds of all
pub all_from_standing : (P : Span → Type 0) (ss : List Span) → ((s : Span) → 0 < stands s ss → P s) → AllByRecursion P ss
all_from_standing P [] h = tt
all_from_standing P (s ∷ ss) h = (h s (omega (arith, stands-self s ss)), all_from_standing P ss (λ t some. h t (omega (arith, stands-cons t s ss))))

pub standing_from_all : (P : Span → Type 0) (ss : List Span) (s : Span) → AllByRecursion P ss → 0 < stands s ss → P s
standing_from_all P [] s h some = absurd (omega (arith, stands-nil s))
standing_from_all P (t ∷ ts) s h some =
    elim (cases_Bool (same t s)) [
      | inl e ↦ subst P (same_true t s e) h.0
      | inr e ↦ standing_from_all P ts s h.1 (omega (arith, stands-other s t ts e))
    ]

-- ---- where a run stands

at_least : (low high : ℕ) (ss : List Span) (t : Span) → AreApart low ss high → 0 < stands t ss → low ≤ t.first_id
at_least low high [] t h some = absurd (omega (arith, stands-nil t))
at_least low high (s ∷ ss) t h some =
    elim (cases_Bool (same s t)) [
      | inl e ↦ omega (arith, h.0, ap (λ (x : Span). x.first_id) (same_true s t e))
      | inr e ↦ omega (arith, h.0, at_least (s.first_id + s.n) high ss t h.1 (omega (arith, stands-other t s ss e)))
    ]

pub pre_at_least : (p q : ℕ) (ss : List Span) (t : Span) → AreLaid p ss q → 0 < stands t ss → p ≤ t.pre
pre_at_least p q [] t h some = absurd (omega (arith, stands-nil t))
pre_at_least p q (s ∷ ss) t h some =
    elim (cases_Bool (same s t)) [
      | inl e ↦ omega (arith, h.0, ap (λ (x : Span). x.pre) (same_true s t e))
      | inr e ↦ omega (arith, pre_at_least (p + s.n) q ss t h.1 (omega (arith, stands-other t s ss e)))
    ]

-- a list about a run that stands in it
pub record IsCut (ss : List Span) (s : Span) : Type 0 where
  pub front : List Span
  pub back : List Span
  pub whole : ss ≡ front ++ s ∷ back

pub cut : (ss : List Span) (s : Span) → 0 < stands s ss → IsCut ss s
cut [] s some = absurd (omega (arith, stands-nil s))
cut (t ∷ ts) s some =
    elim (cases_Bool (same t s)) [
      | inl e ↦ record { front = []; back = ts; whole = ap (λ x. x ∷ ts) (same_true t s e) }
      | inr e ↦ let more = cut ts s (omega (arith, stands-other s t ts e)) in
          record { front = t ∷ more.front; back = more.back; whole = ap (λ l. t ∷ l) more.whole }
    ]

-- a list about two neighbours
pub record IsCutTwice (ss : List Span) (s t : Span) : Type 0 where
  pub front : List Span
  pub back : List Span
  pub whole : ss ≡ front ++ s ∷ t ∷ back

next_stands : (low high : ℕ) (us : List Span) (s t : Span) → AreApart low us high → AreSome us → low ≡ t.first_id → 0 < stands t us → (back : List Span) × (us ≡ t ∷ back)
next_stands low high [] s t h has e some = absurd (omega (arith, stands-nil t))
next_stands low high (v ∷ vs) s t h has e some =
    elim (cases_Bool (same v t)) [
      | inl f ↦ (vs, ap (λ x. x ∷ vs) (same_true v t f))
      | inr f ↦ absurd (omega (arith, h.0, has.0, at_least (v.first_id + v.n) high vs t h.1 (omega (arith, stands-other t v vs f))))
    ]

pub cut_twice : (low high : ℕ) (us : List Span) (s t : Span) → AreApart low us high → AreSome us → 0 < s.n → 0 < t.n → s.first_id + s.n ≡ t.first_id → 0 < stands s us → 0 < stands t us → IsCutTwice us s t
cut_twice low high [] s t h has sn tn e ss ts = absurd (omega (arith, stands-nil s))
cut_twice low high (u ∷ us) s t h has sn tn e ss ts =
    elim (cases_Bool (same u s)) [
      | inl f ↦ let is_s : u ≡ s = same_true u s f in
          let end : u.first_id + u.n ≡ t.first_id = ap (λ (x : Span). x.first_id + x.n) is_s ∙ e in
          let other : same u t ≡ false = elim (cases_Bool (same u t)) [
            | inl g ↦ absurd (omega (arith, has.0, end, ap (λ (x : Span). x.first_id) (same_true u t g)))
            | inr g ↦ g
          ] in
          let next = next_stands (u.first_id + u.n) high us s t h.1 has.1 end (omega (arith, stands-other t u us other)) in
          record { front = []; back = next.0; whole = ap₂ (λ x l. x ∷ l) is_s next.1 }
      | inr f ↦ let s_behind : 0 < stands s us = omega (arith, stands-other s u us f) in
          let other : same u t ≡ false = elim (cases_Bool (same u t)) [
            | inl g ↦ absurd (omega (arith, sn, tn, e, at_least (u.first_id + u.n) high us s h.1 s_behind, ap (λ (x : Span). x.first_id + x.n) (same_true u t g)))
            | inr g ↦ g
          ] in
          let more = cut_twice (u.first_id + u.n) high us s t h.1 has.1 sn tn e s_behind (omega (arith, stands-other t u us other)) in
          record { front = u ∷ more.front; back = more.back; whole = ap (λ l. u ∷ l) more.whole }
    ]

-- ---- lists that are put together

pub apart_split : (low high : ℕ) (xs ys : List Span) → AreApart low (xs ++ ys) high → (m : ℕ) × AreApart low xs m × AreApart m ys high
apart_split low high [] ys h = (low, (let le : low ≤ low = omega arith in le), h)
apart_split low high (x ∷ xs) ys h = let more = apart_split (x.first_id + x.n) high xs ys h.1 in (more.0, (h.0, more.1), more.2)

pub apart_append : (low m high : ℕ) (xs ys : List Span) → AreApart low xs m → AreApart m ys high → AreApart low (xs ++ ys) high
apart_append low m high [] ys h k = apart_lower m low high ys h k
apart_append low m high (x ∷ xs) ys h k = (h.0, apart_append (x.first_id + x.n) m high xs ys h.1 k)

pub some_left : (xs ys : List Span) → AreSome (xs ++ ys) → AreSome xs
some_left [] ys h = tt
some_left (x ∷ xs) ys h = (h.0, some_left xs ys h.1)

pub some_right : (xs ys : List Span) → AreSome (xs ++ ys) → AreSome ys
some_right [] ys h = h
some_right (x ∷ xs) ys h = some_right xs ys h.1

pub some_append : (xs ys : List Span) → AreSome xs → AreSome ys → AreSome (xs ++ ys)
some_append [] ys h k = k
some_append (x ∷ xs) ys h k = (h.0, some_append xs ys h.1 k)
