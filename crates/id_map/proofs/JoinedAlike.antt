-- Runs in order of pre and the same runs in order of id are the same when they are joined.
use Rattle.std.proofs.Common.{◌≡◌, ℕ, ◌+◌, ◌<◌, ◌≤◌, inl, inr, true, false, eqb, ◌&&◌, List, [], ◌∷◌, ◌++◌, refl, sym, ap, ap₂, ◌∙◌, subst, arith}
use Rattle.std.specs.List.{sum_by, AllByRecursion}
use Rattle.std.proofs.lemmas.Bool.{cases_Bool, ne_eqb, and_left, and_right}
use Rattle.std.proofs.lemmas.List.Sums.{sum_by-cons, sum_by-append}
use Rattle.id_map.specs.Changes.{joins, both}
use Rattle.id_map.specs.Spans.{AreLaid, AreApart, SameRuns}
use Rattle.id_map.specs.declared.span.Span.{Span}
use Rattle.id_map.proofs.Joined.{close, joined, close-on, close-off, joins_parts}
use Rattle.id_map.proofs.Joining.{AreSome, apart_lower}
use Rattle.id_map.proofs.SameRuns.{same, same_true, stands, stands-self, stands-other, stands-append, stands-cons, stands-same, all_from_standing, standing_from_all, pre_at_least, IsCut, cut, IsCutTwice, cut_twice, apart_split, apart_append, some_left, some_right, some_append}

-- ---- which runs join

ids_apart : (s t : Span) → (s.first_id + s.n ≡ t.first_id → ⊥) → joins s t ≡ false
ids_apart s t ne = and_left (eqb (s.first_id + s.n) t.first_id) (eqb (s.pre + s.n) t.pre) (ne_eqb (s.first_id + s.n) t.first_id ne)

pres_apart : (s t : Span) → (s.pre + s.n ≡ t.pre → ⊥) → joins s t ≡ false
pres_apart s t ne = and_right (eqb (s.first_id + s.n) t.first_id) (eqb (s.pre + s.n) t.pre) (ne_eqb (s.pre + s.n) t.pre ne)

-- a joined run ends where its second part does
joins-both : (x y s : Span) → joins x y ≡ true → joins (both x y) s ≡ joins y s
joins-both x y s on =
    let parts = joins_parts x y on in
    let ids : x.first_id + (x.n + y.n) ≡ y.first_id + y.n = omega (arith, parts.0) in
    let pres : x.pre + (x.n + y.n) ≡ y.pre + y.n = omega (arith, parts.1) in
    ap₂ (λ a b. eqb a s.first_id && eqb b s.pre) ids pres

both_assoc : (x y z : Span) → both (both x y) z ≡ both x (both y z)
both_assoc x y z = let n : x.n + y.n + z.n ≡ x.n + (y.n + z.n) = omega arith in λ i. record { first_id = x.first_id; pre = x.pre; n = n i }

-- ---- two neighbours that join may be joined first

close_absorbs : (x : Span) (xs : List Span) (s t : Span) (ys : List Span) → joins s t ≡ true → close x (xs ++ s ∷ t ∷ ys) ≡ close x (xs ++ both s t ∷ ys)
close_absorbs x [] s t ys on =
    elim (cases_Bool (joins x s)) [
      | inl h ↦ close-on x s (t ∷ ys) h ∙ close-on (both x s) t ys (joins-both x s t h ∙ on)
          ∙ ap (λ r. close r ys) (both_assoc x s t) ∙ sym (close-on x (both s t) ys h)
      | inr h ↦ close-off x s (t ∷ ys) h ∙ ap (λ l. x ∷ l) (close-on s t ys on) ∙ sym (close-off x (both s t) ys h)
    ]
close_absorbs x (y ∷ xs) s t ys on =
    elim (cases_Bool (joins x y)) [
      | inl h ↦ close-on x y (xs ++ s ∷ t ∷ ys) h ∙ close_absorbs (both x y) xs s t ys on ∙ sym (close-on x y (xs ++ both s t ∷ ys) h)
      | inr h ↦ close-off x y (xs ++ s ∷ t ∷ ys) h ∙ ap (λ l. x ∷ l) (close_absorbs y xs s t ys on) ∙ sym (close-off x y (xs ++ both s t ∷ ys) h)
    ]

joined_absorbs : (xs : List Span) (s t : Span) (ys : List Span) → joins s t ≡ true → joined (xs ++ s ∷ t ∷ ys) ≡ joined (xs ++ both s t ∷ ys)
joined_absorbs [] s t ys on = close-on s t ys on
joined_absorbs (x ∷ xs) s t ys on = close_absorbs x xs s t ys on

-- ---- a run that joins none and that none joins stands by itself

close_alone : (s : Span) (ys : List Span) → AllByRecursion (λ t. joins s t ≡ false) ys → close s ys ≡ s ∷ joined ys
close_alone s [] h = refl
close_alone s (y ∷ ys) h = close-off s y ys h.0

-- behind a run whose ids end before those of all others
close_before : (m high : ℕ) (x : Span) (ys : List Span) → x.first_id + x.n < m → AreApart m ys high → close x ys ≡ x ∷ joined ys
close_before m high x [] lt h = refl
close_before m high x (y ∷ ys) lt h = close-off x y ys (ids_apart x y (λ e. omega (arith, h.0)))

close_parted : (f : Span → ℕ) (low high : ℕ) (x : Span) (xs : List Span) (s : Span) (ys : List Span) → AreApart low (x ∷ (xs ++ s ∷ ys)) high → 0 < s.n
    → joins x s ≡ false → AllByRecursion (λ u. joins u s ≡ false) xs → AllByRecursion (λ u. joins s u ≡ false) ys → sum_by f (close x (xs ++ s ∷ ys)) ≡ f s + sum_by f (close x (xs ++ ys))
close_parted f low high x [] s ys h some off offs behind =
    let one : sum_by f (close x (s ∷ ys)) ≡ f x + (f s + sum_by f (joined ys)) =
    ap (sum_by f) (close-off x s ys off) ∙ sum_by-cons f x (close s ys) ∙ ap (λ k. f x + k) (ap (sum_by f) (close_alone s ys behind) ∙ sum_by-cons f s (joined ys)) in
    let two : sum_by f (close x ys) ≡ f x + sum_by f (joined ys) =
    ap (sum_by f) (close_before (s.first_id + s.n) high x ys (omega (arith, h.1.0)) h.1.1) ∙ sum_by-cons f x (joined ys) in
    omega (arith, one, two)
close_parted f low high x (y ∷ xs) s ys h some off offs behind =
    elim (cases_Bool (joins x y)) [
      | inl on ↦ let end : y.first_id + y.n ≡ x.first_id + (x.n + y.n) = omega (arith, (joins_parts x y on).0) in
          let apart : AreApart low (both x y ∷ (xs ++ s ∷ ys)) high = (h.0, subst (λ k. AreApart k (xs ++ s ∷ ys) high) end h.1.1) in
          ap (sum_by f) (close-on x y (xs ++ s ∷ ys) on) ∙ close_parted f low high (both x y) xs s ys apart some (joins-both x y s on ∙ offs.0) offs.1 behind
          ∙ ap (λ l. f s + sum_by f l) (sym (close-on x y (xs ++ ys) on))
      | inr away ↦ let one : sum_by f (close x (y ∷ (xs ++ s ∷ ys))) ≡ f x + (f s + sum_by f (close y (xs ++ ys))) =
          ap (sum_by f) (close-off x y (xs ++ s ∷ ys) away) ∙ sum_by-cons f x (close y (xs ++ s ∷ ys))
          ∙ ap (λ k. f x + k) (close_parted f (x.first_id + x.n) high y xs s ys h.1 some offs.0 offs.1 behind) in
          let two : sum_by f (close x (y ∷ (xs ++ ys))) ≡ f x + sum_by f (close y (xs ++ ys)) = ap (sum_by f) (close-off x y (xs ++ ys) away) ∙ sum_by-cons f x (close y (xs ++ ys)) in
          omega (arith, one, two)
    ]

joined_parted : (f : Span → ℕ) (low high : ℕ) (xs : List Span) (s : Span) (ys : List Span) → AreApart low (xs ++ s ∷ ys) high → 0 < s.n
    → AllByRecursion (λ u. joins u s ≡ false) xs → AllByRecursion (λ u. joins s u ≡ false) ys → sum_by f (joined (xs ++ s ∷ ys)) ≡ f s + sum_by f (joined (xs ++ ys))
joined_parted f low high [] s ys h some offs behind = ap (sum_by f) (close_alone s ys behind) ∙ sum_by-cons f s (joined ys)
joined_parted f low high (x ∷ xs) s ys h some offs behind = close_parted f low high x xs s ys h some offs.0 offs.1 behind

-- ---- sums

none_from_sum : (xs : List Span) → sum_by (λ s. 1) xs ≡ 0 → xs ≡ []
none_from_sum [] e = refl
none_from_sum (x ∷ xs) e = absurd (omega (arith, sum_by-cons (λ s. 1) x xs))

sum_about : (f : Span → ℕ) (xs : List Span) (s : Span) (ys : List Span) → sum_by f (xs ++ s ∷ ys) ≡ sum_by f xs + (f s + sum_by f ys)
sum_about f xs s ys = sum_by-append f xs (s ∷ ys) ∙ ap (λ k. sum_by f xs + k) (sum_by-cons f s ys)

sum_without : (f : Span → ℕ) (xs ys : List Span) (s : Span) (zs : List Span) → sum_by f (xs ++ s ∷ ys) ≡ sum_by f (s ∷ zs) → sum_by f (xs ++ ys) ≡ sum_by f zs
sum_without f xs ys s zs e = omega (arith, e, sum_about f xs s ys, sum_by-append f xs ys, sum_by-cons f s zs)

sum_absorbed : (f : Span → ℕ) (xs ys : List Span) (s t r : Span) (zs : List Span) → sum_by f (xs ++ s ∷ t ∷ ys) ≡ sum_by f (s ∷ t ∷ zs) → sum_by f (xs ++ r ∷ ys) ≡ sum_by f (r ∷ zs)
sum_absorbed f xs ys s t r zs e =
    omega (arith, e, sum_about f xs s (t ∷ ys), sum_by-cons f t ys, sum_about f xs r ys, sum_by-cons f s (t ∷ zs), sum_by-cons f t zs, sum_by-cons f r zs)

one_alone : (s : Span) (ys : List Span) → SameRuns ys (s ∷ []) → ys ≡ s ∷ []
one_alone s ys same_runs =
    let c = cut ys s (omega (arith, stands-same s ys (s ∷ []) same_runs, stands-self s [])) in
    let rest : sum_by (λ x. 1) (c.front ++ c.back) ≡ 0 = sum_without (λ x. 1) c.front c.back s [] (ap (sum_by (λ x. 1)) (sym c.whole) ∙ same_runs (λ x. 1)) in
    let front : c.front ≡ [] = none_from_sum c.front (omega (arith, rest, sum_by-append (λ (x : Span). 1) c.front c.back)) in
    let back : c.back ≡ [] = none_from_sum c.back (omega (arith, rest, sum_by-append (λ (x : Span). 1) c.front c.back)) in
    c.whole ∙ ap₂ (λ a b. a ++ s ∷ b) front back

-- a run behind the first, in order of pre, doesn't end where the first begins
none_joins_first : (p q : ℕ) (s : Span) (ss : List Span) (u : Span) → AreLaid p (s ∷ ss) q → AreSome (s ∷ ss) → 0 < stands u (s ∷ ss) → joins u s ≡ false
none_joins_first p q s ss u h has some =
    let least : p ≤ u.pre = pre_at_least p q (s ∷ ss) u h some in
    let more : 0 < u.n = standing_from_all (λ x. 0 < x.n) (s ∷ ss) u has some in
    pres_apart u s (λ e. omega (arith, h.0, least, more))

-- where the first doesn't join the second it joins none
first_joins_none : (p q : ℕ) (s t : Span) (ss : List Span) (u : Span) → AreLaid p (s ∷ t ∷ ss) q → AreSome (s ∷ t ∷ ss) → joins s t ≡ false → 0 < stands u (s ∷ t ∷ ss) → joins s u ≡ false
first_joins_none p q s t ss u h has off some =
    elim (cases_Bool (same s u)) [
      | inl e ↦ ids_apart s u (λ k. omega (arith, has.0, k, ap (λ (x : Span). x.first_id) (same_true s u e)))
      | inr e ↦ elim (cases_Bool (same t u)) [
        | inl f ↦ subst (λ x. joins s x ≡ false) (same_true t u f) off
        | inr f ↦ pres_apart s u (λ k. omega (
          arith,
          k,
          h.0,
          has.1.0,
          pre_at_least (p + s.n + t.n) q ss u h.1.1 (omega (arith, stands-other u s (t ∷ ss) e, stands-other u t ss f)),
        ))
      ]
    ]

-- runs of which two neighbours are joined, or one is left out, are still in order of id

apart_absorbed : (low high : ℕ) (xs : List Span) (s t : Span) (ys : List Span) → joins s t ≡ true → AreApart low (xs ++ s ∷ t ∷ ys) high → AreApart low (xs ++ both s t ∷ ys) high
apart_absorbed low high xs s t ys on h =
    let split = apart_split low high xs (s ∷ t ∷ ys) h in
    let end : t.first_id + t.n ≡ s.first_id + (s.n + t.n) = omega (arith, (joins_parts s t on).0) in
    apart_append low split.0 high xs (both s t ∷ ys) split.1 (split.2.0, subst (λ k. AreApart k ys high) end split.2.1.1)

some_absorbed : (xs : List Span) (s t : Span) (ys : List Span) → AreSome (xs ++ s ∷ t ∷ ys) → AreSome (xs ++ both s t ∷ ys)
some_absorbed xs s t ys h =
    let behind = some_right xs (s ∷ t ∷ ys) h in
    let more : 0 < s.n + t.n = omega (arith, behind.0) in
    some_append xs (both s t ∷ ys) (some_left xs (s ∷ t ∷ ys) h) (more, behind.1.1)

apart_without : (low high : ℕ) (xs : List Span) (s : Span) (ys : List Span) → AreApart low (xs ++ s ∷ ys) high → AreApart low (xs ++ ys) high
apart_without low high xs s ys h =
    let split = apart_split low high xs (s ∷ ys) h in
    apart_append low split.0 high xs ys split.1 (apart_lower (s.first_id + s.n) split.0 high ys (omega (arith, split.2.0)) split.2.1)

some_without : (xs : List Span) (s : Span) (ys : List Span) → AreSome (xs ++ s ∷ ys) → AreSome (xs ++ ys)
some_without xs s ys h = some_append xs ys (some_left xs (s ∷ ys) h) (some_right xs (s ∷ ys) h).1

-- where each run of a list is among some, none of those before the first ends where it begins, and it joins none of those behind it
others_apart : (p q : ℕ) (s t : Span) (ts front back : List Span) → AreLaid p (s ∷ t ∷ ts) q → AreSome (s ∷ t ∷ ts) → joins s t ≡ false → SameRuns (front ++ s ∷ back) (s ∷ t ∷ ts)
    → AllByRecursion (λ u. joins u s ≡ false) front × AllByRecursion (λ u. joins s u ≡ false) back
others_apart p q s t ts front back laid has off same_runs =
    let among : (u : Span) → 0 < stands u front + stands u (s ∷ back) → 0 < stands u (s ∷ t ∷ ts) = λ u h. omega (arith, stands-append u front (s ∷ back), stands-same u (front ++ s ∷ back) (s ∷ t ∷ ts) same_runs) in (
      all_from_standing (λ u. joins u s ≡ false) front (λ u h. none_joins_first p q s (t ∷ ts) u laid has (among u (omega arith))),
      all_from_standing (λ u. joins s u ≡ false) back (λ u h. first_joins_none p q s t ts u laid has off (among u (omega (arith, stands-cons u s back)))),
    )

-- one step: the first two are joined, or the first is put aside, in both orders

step_on : (f : Span → ℕ) (low high : ℕ) (s t : Span) (ts ys : List Span) → IsCutTwice ys s t → joins s t ≡ true → AreApart low ys high → AreSome ys → SameRuns ys (s ∷ t ∷ ts)
    → ((new : List Span) → AreApart low new high → AreSome new → SameRuns new (both s t ∷ ts) → sum_by f (joined new) ≡ sum_by f (close (both s t) ts))
    → sum_by f (joined ys) ≡ sum_by f (close s (t ∷ ts))
step_on f low high s t ts ys c on apart some same_runs more =
    let new_apart = apart_absorbed low high c.front s t c.back on (subst (λ l. AreApart low l high) c.whole apart) in
    let new_some = some_absorbed c.front s t c.back (subst AreSome c.whole some) in
    let new_same : SameRuns (c.front ++ both s t ∷ c.back) (both s t ∷ ts) = λ g. sum_absorbed g c.front c.back s t (both s t) ts (ap (sum_by g) (sym c.whole) ∙ same_runs g) in
    ap (λ l. sum_by f (joined l)) c.whole ∙ ap (sum_by f) (joined_absorbs c.front s t c.back on) ∙ more (c.front ++ both s t ∷ c.back) new_apart new_some new_same
    ∙ ap (sum_by f) (sym (close-on s t ts on))

step_off : (f : Span → ℕ) (p q low high : ℕ) (s t : Span) (ts ys : List Span) → IsCut ys s → joins s t ≡ false → AreLaid p (s ∷ t ∷ ts) q → AreSome (s ∷ t ∷ ts)
    → AreApart low ys high → AreSome ys → SameRuns ys (s ∷ t ∷ ts)
    → ((new : List Span) → AreApart low new high → AreSome new → SameRuns new (t ∷ ts) → sum_by f (joined new) ≡ sum_by f (close t ts)) → sum_by f (joined ys) ≡ sum_by f (close s (t ∷ ts))
step_off f p q low high s t ts ys c off laid has apart some same_runs more =
    let here_apart : AreApart low (c.front ++ s ∷ c.back) high = subst (λ l. AreApart low l high) c.whole apart in
    let here_same : SameRuns (c.front ++ s ∷ c.back) (s ∷ t ∷ ts) = λ g. ap (sum_by g) (sym c.whole) ∙ same_runs g in
    let new_apart = apart_without low high c.front s c.back here_apart in
    let new_some = some_without c.front s c.back (subst AreSome c.whole some) in
    let new_same : SameRuns (c.front ++ c.back) (t ∷ ts) = λ g. sum_without g c.front c.back s (t ∷ ts) (here_same g) in
    let others = others_apart p q s t ts c.front c.back laid has off here_same in
    ap (λ l. sum_by f (joined l)) c.whole ∙ joined_parted f low high c.front s c.back here_apart has.0 others.0 others.1
    ∙ ap (λ k. f s + k) (more (c.front ++ c.back) new_apart new_some new_same) ∙ sym (ap (sum_by f) (close-off s t ts off) ∙ sum_by-cons f s (close t ts))

same_close : (p q low high : ℕ) (s : Span) (ss ys : List Span) → AreLaid p (s ∷ ss) q → AreSome (s ∷ ss) → AreApart low ys high → AreSome ys → SameRuns ys (s ∷ ss) → SameRuns (joined ys) (close s ss)
same_close p q low high s [] ys laid has apart some same_runs f = ap (λ l. sum_by f (joined l)) (one_alone s ys same_runs)
same_close p q low high s (t ∷ ts) ys laid has apart some same_runs f =
    let s_stands : 0 < stands s ys = omega (arith, stands-same s ys (s ∷ t ∷ ts) same_runs, stands-self s (t ∷ ts)) in
    let t_stands : 0 < stands t ys = omega (arith, stands-same t ys (s ∷ t ∷ ts) same_runs, stands-cons t s (t ∷ ts), stands-self t ts) in
    elim (cases_Bool (joins s t)) [
      | inl on ↦ let more : 0 < s.n + t.n = omega (arith, has.0) in
          let next : p + s.n + t.n ≡ p + (s.n + t.n) = omega arith in
          let new_laid : AreLaid p (both s t ∷ ts) q = (laid.0, subst (λ k. AreLaid k ts q) next laid.1.1) in
          step_on f low high s t ts ys (cut_twice low high ys s t apart some has.0 has.1.0 (joins_parts s t on).0 s_stands t_stands) on apart some same_runs
          (λ new new_apart new_some new_same. same_close p q low high (both s t) ts new new_laid (more, has.1.1) new_apart new_some new_same f)
      | inr off ↦ step_off f p q low high s t ts ys (cut ys s s_stands) off laid has apart some same_runs
          (λ new new_apart new_some new_same. same_close (p + s.n) q low high t ts new laid.1 has.1 new_apart new_some new_same f)
    ]

-- the theorem
pub same_joined : (p q low high : ℕ) (xs ys : List Span) → AreLaid p xs q → AreSome xs → AreApart low ys high → AreSome ys → SameRuns ys xs → SameRuns (joined ys) (joined xs)
same_joined p q low high [] ys laid has apart some same_runs f = ap (λ l. sum_by f (joined l)) (none_from_sum ys (same_runs (λ s. 1)))
same_joined p q low high (x ∷ xs) ys laid has apart some same_runs f = same_close p q low high x xs ys laid has apart some same_runs f
