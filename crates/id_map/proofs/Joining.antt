-- What joined runs keep: the ids, the pres, the order of ids; and none of them joins the next.
use Rattle.std.proofs.Common.{◌≡◌, ℕ, ◌+◌, ◌<◌, ◌≤◌, inl, inr, false, cond, eqb, List, [], ◌∷◌, ◌++◌, refl, sym, ap, ◌∙◌, subst, arith, append_assoc}
use Rattle.std.specs.List.{sum_by, AllByRecursion}
use Rattle.std.proofs.lemmas.Bool.{cases_Bool, eqb-true, eqb-false, cond-true, cond-false, eq-eqb, and_from, both_ways}
use Rattle.std.proofs.lemmas.List.Sums.{sum_by-cons}
use Rattle.id_map.specs.Ids.{ids_from}
use Rattle.id_map.specs.Changes.{joins, both}
use Rattle.id_map.specs.Spans.{ids_of, AreLaid, AreApart, NoneGoesOn, AreMaximal}
use Rattle.id_map.specs.declared.span.Span.{Span}
use Rattle.id_map.proofs.IdLists.{ids_from-append}
use Rattle.id_map.proofs.Joined.{close, joined, close-on, close-off, joins_parts, filled, filled-none, filled-some}

-- each run has an id
abbrev pub AreSome : List Span → Type 0
AreSome ss = AllByRecursion (λ s. 0 < s.n) ss

-- ---- joined runs

pub ids-close : (cur : Span) (ss : List Span) → ids_of (close cur ss) ≡ ids_of (cur ∷ ss)
ids-close cur [] = refl
ids-close cur (t ∷ ts) =
    elim (cases_Bool (joins cur t)) [
      | inl on ↦ ap ids_of (close-on cur t ts on) ∙ ids-close (both cur t) ts
          ∙ ap (λ l. l ++ ids_of ts) (ids_from-append cur.first_id cur.n t.n ∙ ap (λ k. ids_from cur.first_id cur.n ++ ids_from k t.n) (joins_parts cur t on).0)
          ∙ append_assoc (ids_from cur.first_id cur.n) (ids_from t.first_id t.n) (ids_of ts)
      | inr off ↦ ap ids_of (close-off cur t ts off) ∙ ap (λ l. ids_from cur.first_id cur.n ++ l) (ids-close t ts)
    ]

pub ids-joined : (ss : List Span) → ids_of (joined ss) ≡ ids_of ss
ids-joined [] = refl
ids-joined (s ∷ ss) = ids-close s ss

pub laid-close : (p q : ℕ) (cur : Span) (ss : List Span) → AreLaid p (cur ∷ ss) q → AreLaid p (close cur ss) q
laid-close p q cur [] h = h
laid-close p q cur (t ∷ ts) h =
    elim (cases_Bool (joins cur t)) [
      | inl on ↦ let next : p + cur.n + t.n ≡ p + (cur.n + t.n) = omega arith in
          subst (λ l. AreLaid p l q) (sym (close-on cur t ts on)) (laid-close p q (both cur t) ts (h.0, subst (λ k. AreLaid k ts q) next h.1.1))
      | inr off ↦ subst (λ l. AreLaid p l q) (sym (close-off cur t ts off)) (h.0, laid-close (p + cur.n) q t ts h.1)
    ]

pub laid-joined : (p q : ℕ) (ss : List Span) → AreLaid p ss q → AreLaid p (joined ss) q
laid-joined p q [] h = h
laid-joined p q (s ∷ ss) h = laid-close p q s ss h

pub apart-close : (low high : ℕ) (cur : Span) (ss : List Span) → AreApart low (cur ∷ ss) high → AreApart low (close cur ss) high
apart-close low high cur [] h = h
apart-close low high cur (t ∷ ts) h =
    elim (cases_Bool (joins cur t)) [
      | inl on ↦ let next : t.first_id + t.n ≡ cur.first_id + (cur.n + t.n) = omega (arith, (joins_parts cur t on).0) in
          subst (λ l. AreApart low l high) (sym (close-on cur t ts on)) (apart-close low high (both cur t) ts (h.0, subst (λ k. AreApart k ts high) next h.1.1))
      | inr off ↦ subst (λ l. AreApart low l high) (sym (close-off cur t ts off)) (h.0, apart-close (cur.first_id + cur.n) high t ts h.1)
    ]

pub apart-joined : (low high : ℕ) (ss : List Span) → AreApart low ss high → AreApart low (joined ss) high
apart-joined low high [] h = h
apart-joined low high (s ∷ ss) h = apart-close low high s ss h

pub some-close : (cur : Span) (ss : List Span) → AreSome (cur ∷ ss) → AreSome (close cur ss)
some-close cur [] h = h
some-close cur (t ∷ ts) h =
    elim (cases_Bool (joins cur t)) [
      | inl on ↦ let some : 0 < cur.n + t.n = omega (arith, h.0) in
          subst AreSome (sym (close-on cur t ts on)) (some-close (both cur t) ts (some, h.1.1))
      | inr off ↦ subst AreSome (sym (close-off cur t ts off)) (h.0, some-close t ts h.1)
    ]

pub some-joined : (ss : List Span) → AreSome ss → AreSome (joined ss)
some-joined [] h = h
some-joined (s ∷ ss) h = some-close s ss h

-- where the ids go on the pres do, so the runs would join
goes_on : (s t : Span) → s.pre + s.n ≡ t.pre → joins s t ≡ false → t.first_id ≡ s.first_id + s.n → ⊥
goes_on s t pre off e =
    both_ways (joins s t) off
    (and_from (eqb (s.first_id + s.n) t.first_id) (eqb (s.pre + s.n) t.pre) (eq-eqb (s.first_id + s.n) t.first_id (sym e)) (eq-eqb (s.pre + s.n) t.pre pre))

none_goes_on-close : (q : ℕ) (before cur : Span) (ss : List Span) → AreLaid (before.pre + before.n) (cur ∷ ss) q → joins before cur ≡ false → NoneGoesOn (before.first_id + before.n) (close cur ss)
none_goes_on-close q before cur [] laid off = (goes_on before cur (sym laid.0) off, tt)
none_goes_on-close q before cur (t ∷ ts) laid off =
    elim (cases_Bool (joins cur t)) [
      | inl on ↦ let next : before.pre + before.n + cur.n + t.n ≡ before.pre + before.n + (cur.n + t.n) = omega arith in
          subst (NoneGoesOn (before.first_id + before.n)) (sym (close-on cur t ts on)) (none_goes_on-close q before (both cur t) ts (laid.0, subst (λ k. AreLaid k ts q) next laid.1.1) off)
      | inr away ↦ subst (NoneGoesOn (before.first_id + before.n)) (sym (close-off cur t ts away))
          (goes_on before cur (sym laid.0) off, none_goes_on-close q cur t ts (subst (λ k. AreLaid (k + cur.n) (t ∷ ts) q) (sym laid.0) laid.1) away)
    ]

maximal-close : (p q : ℕ) (cur : Span) (ss : List Span) → AreLaid p (cur ∷ ss) q → AreMaximal (close cur ss)
maximal-close p q cur [] laid = tt
maximal-close p q cur (t ∷ ts) laid =
    elim (cases_Bool (joins cur t)) [
      | inl on ↦ let next : p + cur.n + t.n ≡ p + (cur.n + t.n) = omega arith in
          subst AreMaximal (sym (close-on cur t ts on)) (maximal-close p q (both cur t) ts (laid.0, subst (λ k. AreLaid k ts q) next laid.1.1))
      | inr off ↦ subst AreMaximal (sym (close-off cur t ts off)) (none_goes_on-close q cur t ts (subst (λ k. AreLaid (k + cur.n) (t ∷ ts) q) (sym laid.0) laid.1) off)
    ]

pub maximal-joined : (p q : ℕ) (ss : List Span) → AreLaid p ss q → AreMaximal (joined ss)
maximal-joined p q [] laid = tt
maximal-joined p q (s ∷ ss) laid = maximal-close p q s ss laid

-- ---- runs that have ids

-- runs whose ids stand at the pres from one up to another, where one without ids may say any pre
abbrev pub Follows : ℕ → List Span → ℕ → Type 0
Follows p [] q = p ≡ q
Follows p (s ∷ ss) q = (0 < s.n → s.pre ≡ p) × Follows (p + s.n) ss q

pub ids-filled : (ss : List Span) → ids_of (filled ss) ≡ ids_of ss
ids-filled [] = refl
ids-filled (s ∷ ss) =
    elim (cases_Bool (eqb s.n 0)) [
      | inl e ↦ ap ids_of (filled-none s ss (eqb-true s.n 0 e)) ∙ ids-filled ss ∙ ap (λ k. ids_from s.first_id k ++ ids_of ss) (sym (eqb-true s.n 0 e))
      | inr e ↦ ap ids_of (filled-some s ss (eqb-false s.n 0 e)) ∙ ap (λ l. ids_from s.first_id s.n ++ l) (ids-filled ss)
    ]

pub some-filled : (ss : List Span) → AreSome (filled ss)
some-filled [] = tt
some-filled (s ∷ ss) =
    elim (cases_Bool (eqb s.n 0)) [
      | inl e ↦ subst AreSome (sym (filled-none s ss (eqb-true s.n 0 e))) (some-filled ss)
      | inr e ↦ let some : s.n ≡ 0 → ⊥ = eqb-false s.n 0 e in
          let has : 0 < s.n = omega arith in
          subst AreSome (sym (filled-some s ss some)) (has, some-filled ss)
    ]

pub laid-filled : (p q : ℕ) (ss : List Span) → Follows p ss q → AreLaid p (filled ss) q
laid-filled p q [] h = h
laid-filled p q (s ∷ ss) h =
    elim (cases_Bool (eqb s.n 0)) [
      | inl e ↦ let none : s.n ≡ 0 = eqb-true s.n 0 e in
          let same : p + s.n ≡ p = omega arith in
          subst (λ l. AreLaid p l q) (sym (filled-none s ss none)) (laid-filled p q ss (subst (λ k. Follows k ss q) same h.1))
      | inr e ↦ let some : s.n ≡ 0 → ⊥ = eqb-false s.n 0 e in
          let has : 0 < s.n = omega arith in
          subst (λ l. AreLaid p l q) (sym (filled-some s ss some)) (h.0 has, laid-filled (p + s.n) q ss h.1)
    ]

pub apart_lower : (low least high : ℕ) (ss : List Span) → least ≤ low → AreApart low ss high → AreApart least ss high
apart_lower low least high [] le h = omega (arith, h)
apart_lower low least high (s ∷ ss) le h = (omega (arith, h.0), h.1)

pub apart-filled : (low high : ℕ) (ss : List Span) → AreApart low ss high → AreApart low (filled ss) high
apart-filled low high [] h = h
apart-filled low high (s ∷ ss) h =
    elim (cases_Bool (eqb s.n 0)) [
      | inl e ↦ subst (λ l. AreApart low l high) (sym (filled-none s ss (eqb-true s.n 0 e)))
          (apart_lower (s.first_id + s.n) low high (filled ss) (omega (arith, h.0)) (apart-filled (s.first_id + s.n) high ss h.1))
      | inr e ↦ subst (λ l. AreApart low l high) (sym (filled-some s ss (eqb-false s.n 0 e))) (h.0, apart-filled (s.first_id + s.n) high ss h.1)
    ]

-- a weight of runs that have ids
abbrev pub weight : (Span → ℕ) → Span → ℕ
weight f s = cond (eqb s.n 0) 0 (f s)

pub sum-filled : (f : Span → ℕ) (ss : List Span) → sum_by f (filled ss) ≡ sum_by (weight f) ss
sum-filled f [] = refl
sum-filled f (s ∷ ss) =
    elim (cases_Bool (eqb s.n 0)) [
      | inl e ↦ ap (sum_by f) (filled-none s ss (eqb-true s.n 0 e)) ∙ sum-filled f ss
          ∙ sym (sum_by-cons (weight f) s ss ∙ ap (λ k. k + sum_by (weight f) ss) (cond-true (eqb s.n 0) 0 (f s) e) ∙ omega arith)
      | inr e ↦ ap (sum_by f) (filled-some s ss (eqb-false s.n 0 e)) ∙ sum_by-cons f s (filled ss) ∙ ap (λ k. f s + k) (sum-filled f ss)
          ∙ sym (sum_by-cons (weight f) s ss ∙ ap (λ k. k + sum_by (weight f) ss) (cond-false (eqb s.n 0) 0 (f s) e))
    ]
