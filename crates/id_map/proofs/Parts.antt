-- The parts of runs below a pre and from a pre on.
use Rattle.std.proofs.Common.{◌≡◌, ℕ, zero, suc, ◌+◌, ◌-◌, ◌<◌, ◌≤◌, min, List, [], ◌∷◌, ◌++◌, length, take, drop, map, refl, sym, ap, ap₂, ◌∙◌, subst, arith}
use Rattle.std.specs.List.{sum_by, flat_map, AllByRecursion}
use Rattle.std.proofs.lemmas.List.Sums.{sum_by-cons}
use Rattle.id_map.specs.Ids.{ids_from}
use Rattle.id_map.specs.Changes.{front_of, back_of, fronts_put, backs_put}
use Rattle.id_map.specs.Spans.{ids_of, AreLaid, AreApart}
use Rattle.id_map.specs.declared.span.Span.{Span}
use Rattle.id_map.proofs.IdLists.{length-ids_from, take-ids_from, drop-ids_from}
use Rattle.id_map.proofs.Putting.{put_none}
use Rattle.id_map.proofs.Joined.{parts_of}
use Rattle.id_map.proofs.Joining.{Follows}

take-nil : (n : ℕ) → take n (let none : List ℕ = [] in none) ≡ []
take-nil zero = refl
take-nil (suc n) = refl

drop-nil : (n : ℕ) → drop n (let none : List ℕ = [] in none) ≡ []
drop-nil zero = refl
drop-nil (suc n) = refl

pub take-append : (n : ℕ) (xs ys : List ℕ) → take n (xs ++ ys) ≡ take n xs ++ take (n - length xs) ys
take-append n [] ys = ap₂ (λ l m. l ++ take m ys) (sym (take-nil n)) (omega arith)
take-append zero (x ∷ xs) ys = let none : 0 ≡ 0 - suc (length xs) = omega arith in ap (λ m. take m ys) none
take-append (suc n) (x ∷ xs) ys =
    let same : n - length xs ≡ suc n - suc (length xs) = omega arith in
    ap (λ l. x ∷ l) (take-append n xs ys ∙ ap (λ m. take n xs ++ take m ys) same)

pub drop-append : (n : ℕ) (xs ys : List ℕ) → drop n (xs ++ ys) ≡ drop n xs ++ drop (n - length xs) ys
drop-append n [] ys = ap₂ (λ l m. l ++ drop m ys) (sym (drop-nil n)) (omega arith)
drop-append zero (x ∷ xs) ys = let none : 0 ≡ 0 - suc (length xs) = omega arith in ap (λ m. x ∷ (xs ++ drop m ys)) none
drop-append (suc n) (x ∷ xs) ys =
    let same : n - length xs ≡ suc n - suc (length xs) = omega arith in drop-append n xs ys ∙ ap (λ m. drop n xs ++ drop m ys) same

-- ---- the parts below a pre

pub follows-fronts : (at p q : ℕ) (ss : List Span) → AreLaid p ss q → Follows (min p at) (map (front_of at) ss) (min q at)
follows-fronts at p q [] h = ap (λ k. min k at) h
follows-fronts at p q (s ∷ ss) h =
    let next : min (p + s.n) at ≡ min p at + min s.n (at - s.pre) = omega (arith, h.0) in
    ((λ some. omega (arith, h.0)), subst (λ k. Follows k (map (front_of at) ss) (min q at)) next (follows-fronts at (p + s.n) q ss h.1))

pub ids-fronts : (at p q : ℕ) (ss : List Span) → AreLaid p ss q → ids_of (map (front_of at) ss) ≡ take (at - p) (ids_of ss)
ids-fronts at p q [] h = sym (take-nil (at - p))
ids-fronts at p q (s ∷ ss) h =
    let here : at - s.pre ≡ at - p = omega (arith, h.0) in
    let behind : at - (p + s.n) ≡ at - p - length (ids_from s.first_id s.n) = omega (arith, length-ids_from s.first_id s.n) in
    ap₂ (λ k l. ids_from s.first_id (min s.n k) ++ l) here (ids-fronts at (p + s.n) q ss h.1 ∙ ap (λ k. take k (ids_of ss)) behind)
    ∙ ap (λ l. l ++ take (at - p - length (ids_from s.first_id s.n)) (ids_of ss)) (sym (take-ids_from (at - p) s.first_id s.n))
    ∙ sym (take-append (at - p) (ids_from s.first_id s.n) (ids_of ss))

-- no part of runs that begin at the pre or behind it is below it
pub fronts_past : (at : ℕ) (out ss : List Span) → AllByRecursion (λ s. at ≤ s.pre) ss → fronts_put at out ss ≡ out
fronts_past at out [] h = refl
fronts_past at out (s ∷ ss) h = ap (λ o. fronts_put at o ss) (put_none out (front_of at s) (omega (arith, h.0))) ∙ fronts_past at out ss h.1

-- ---- the parts from a pre on

pub follows-backs : (from to p q : ℕ) (ss : List Span) → AreLaid p ss q → Follows (to + (p - from)) (map (back_of from to) ss) (to + (q - from))
follows-backs from to p q [] h = ap (λ k. to + (k - from)) h
follows-backs from to p q (s ∷ ss) h =
    let next : to + (p + s.n - from) ≡ to + (p - from) + (s.n - min s.n (from - s.pre)) = omega (arith, h.0) in
    ((λ some. ap (λ k. to + (k - from)) h.0), subst (λ k. Follows k (map (back_of from to) ss) (to + (q - from))) next (follows-backs from to (p + s.n) q ss h.1))

pub ids-backs : (from to p q : ℕ) (ss : List Span) → AreLaid p ss q → ids_of (map (back_of from to) ss) ≡ drop (from - p) (ids_of ss)
ids-backs from to p q [] h = sym (drop-nil (from - p))
ids-backs from to p q (s ∷ ss) h =
    let here : from - s.pre ≡ from - p = omega (arith, h.0) in
    let behind : from - (p + s.n) ≡ from - p - length (ids_from s.first_id s.n) = omega (arith, length-ids_from s.first_id s.n) in
    ap₂ (λ k l. ids_from (s.first_id + min s.n k) (s.n - min s.n k) ++ l) here (ids-backs from to (p + s.n) q ss h.1 ∙ ap (λ k. drop k (ids_of ss)) behind)
    ∙ ap (λ l. l ++ drop (from - p - length (ids_from s.first_id s.n)) (ids_of ss)) (sym (drop-ids_from (from - p) s.first_id s.n))
    ∙ sym (drop-append (from - p) (ids_from s.first_id s.n) (ids_of ss))

-- of runs that begin before a pre all but the last end before it, too
pub backs_before : (at from to p q e : ℕ) (out ss : List Span) → AreLaid p ss q → at ≤ from → e ≤ length ss → AllByRecursion (λ s. s.pre < at) (take e ss)
    → backs_put from to out (drop (e - 1) ss) ≡ backs_put from to out ss
backs_before at from to p q zero out ss laid le within h = let none : 0 - 1 ≡ 0 = omega arith in ap (λ k. backs_put from to out (drop k ss)) none
backs_before at from to p q (suc zero) out ss laid le within h = let none : 1 - 1 ≡ 0 = omega arith in ap (λ k. backs_put from to out (drop k ss)) none
backs_before at from to p q (suc (suc e)) out [] laid le within h = absurd (omega arith)
backs_before at from to p q (suc (suc e)) out (s ∷ []) laid le within h = absurd (omega arith)
backs_before at from to p q (suc (suc e)) out (s ∷ t ∷ ts) laid le within h =
    let one : suc (suc e) - 1 ≡ suc (suc e - 1) = omega arith in
    ap (λ k. backs_put from to out (drop k (s ∷ t ∷ ts))) one ∙ backs_before at from to (p + s.n) q (suc e) out (t ∷ ts) laid.1 le (omega arith) h.1
    ∙ ap (λ o. backs_put from to o (t ∷ ts)) (sym (put_none out (back_of from to s) (omega (arith, laid.0, laid.1.0, h.1.0))))

-- ---- both parts

pub apart-parts : (at from to low high : ℕ) (ss : List Span) → at ≤ from → AreApart low ss high → AreApart low (flat_map (parts_of at from to) ss) high
apart-parts at from to low high [] le h = h
apart-parts at from to low high (s ∷ ss) le h =
    let end : s.first_id + s.n ≡ s.first_id + min s.n (from - s.pre) + (s.n - min s.n (from - s.pre)) = omega arith in
    let order : s.first_id + min s.n (at - s.pre) ≤ s.first_id + min s.n (from - s.pre) = omega arith in
    (h.0, (order, subst (λ k. AreApart k (flat_map (parts_of at from to) ss) high) end (apart-parts at from to (s.first_id + s.n) high ss le h.1)))

pub sum-parts : (f : Span → ℕ) (at from to : ℕ) (ss : List Span) → sum_by f (flat_map (parts_of at from to) ss) ≡ sum_by (λ s. f (front_of at s) + f (back_of from to s)) ss
sum-parts f at from to [] = refl
sum-parts f at from to (s ∷ ss) =
    let rest = flat_map (parts_of at from to) ss in
    omega (
      arith,
      sum_by-cons f (front_of at s) (back_of from to s ∷ rest),
      sum_by-cons f (back_of from to s) rest,
      sum-parts f at from to ss,
      sum_by-cons (λ s. f (front_of at s) + f (back_of from to s)) s ss,
    )

pub sum_apart : (f : Span → ℕ) (at from to : ℕ) (ss : List Span) → sum_by (λ s. f (front_of at s) + f (back_of from to s)) ss ≡ sum_by f (map (front_of at) ss) + sum_by f (map (back_of from to) ss)
sum_apart f at from to [] = refl
sum_apart f at from to (s ∷ ss) =
    omega (
      arith,
      sum_by-cons (λ s. f (front_of at s) + f (back_of from to s)) s ss,
      sum_apart f at from to ss,
      sum_by-cons f (front_of at s) (map (front_of at) ss),
      sum_by-cons f (back_of from to s) (map (back_of from to) ss),
    )
