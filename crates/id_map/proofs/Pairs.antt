-- What changes do to the pairs of ids and pres: later pres move, others stay. And the pre of an id is that of its pair.
use Rattle.std.proofs.Common.{◌≡◌, ℕ, zero, suc, ◌+◌, ◌-◌, ◌<◌, ◌≤◌, eqb, eqb-true, List, [], ◌∷◌, ◌++◌, length, take, drop, map, get_or, Some, refl, sym, ap, ap₂, ◌∙◌, arith}
use Rattle.std.specs.List.{Contains}
use Rattle.std.proofs.lemmas.List.{length-take-le, take-append-drop, drop_more}
use Rattle.std.proofs.lemmas.List.Quantifiers.{position-Some}
use Rattle.id_map.specs.Ids.{ids_from, pairs_from, id_pairs, moved_up, moved_down, pre_with, with_ids, without_ids, times}
use Rattle.id_map.proofs.IdLists.{length-ids_from, times-append, times-self, pre_with-at}

pub pairs-append : (n : ℕ) (xs ys : List ℕ) → pairs_from n (xs ++ ys) ≡ pairs_from n xs ++ pairs_from (n + length xs) ys
pairs-append n [] ys = ap (λ k. pairs_from k ys) (omega arith)
pairs-append n (x ∷ xs) ys = ap (λ l. (x, n) ∷ l) (pairs-append (suc n) xs ys ∙ ap (λ k. pairs_from (suc n) xs ++ pairs_from k ys) (omega arith))

pub take-pairs : (k n : ℕ) (ids : List ℕ) → take k (pairs_from n ids) ≡ pairs_from n (take k ids)
take-pairs zero n ids = refl
take-pairs (suc k) n [] = refl
take-pairs (suc k) n (id ∷ ids) = ap (λ l. (id, n) ∷ l) (take-pairs k (suc n) ids)

pub drop-pairs : (k n : ℕ) (ids : List ℕ) → drop k (pairs_from n ids) ≡ pairs_from (n + k) (drop k ids)
drop-pairs zero n ids = ap (λ m. pairs_from m ids) (omega arith)
drop-pairs (suc k) n [] = refl
drop-pairs (suc k) n (id ∷ ids) = drop-pairs k (suc n) ids ∙ ap (λ m. pairs_from m (drop k ids)) (omega arith)

up-pairs : (m n : ℕ) (ids : List ℕ) → map (moved_up m) (pairs_from n ids) ≡ pairs_from (n + m) ids
up-pairs m n [] = refl
up-pairs m n (id ∷ ids) = ap (λ l. (id, n + m) ∷ l) (up-pairs m (suc n) ids ∙ ap (λ k. pairs_from k ids) (omega arith))

down-pairs : (m n : ℕ) (ids : List ℕ) → m ≤ n → map (moved_down m) (pairs_from n ids) ≡ pairs_from (n - m) ids
down-pairs m n [] le = refl
down-pairs m n (id ∷ ids) le = ap (λ l. (id, n - m) ∷ l) (down-pairs m (suc n) ids (omega arith) ∙ ap (λ k. pairs_from k ids) (omega arith))

-- ids that are put in stand at the pres from theirs on, and later pres are n more
pub pairs-with_ids : (pre first n : ℕ) (ids : List ℕ) → pre ≤ length ids
    → id_pairs (with_ids pre first n ids) ≡ take pre (id_pairs ids) ++ (pairs_from pre (ids_from first n) ++ map (moved_up n) (drop pre (id_pairs ids)))
pairs-with_ids pre first n ids le =
    let front : 0 + length (take pre ids) ≡ pre = omega (arith, length-take-le pre ids le) in
    let moved : pre + length (ids_from first n) ≡ 0 + pre + n = omega (arith, length-ids_from first n) in
    pairs-append 0 (take pre ids) (ids_from first n ++ drop pre ids)
    ∙ ap₂ (λ a k. a ++ pairs_from k (ids_from first n ++ drop pre ids)) (sym (take-pairs pre 0 ids)) front
    ∙ ap (λ l. take pre (id_pairs ids) ++ l) (
    pairs-append pre (ids_from first n) (drop pre ids) ∙ ap (λ k. pairs_from pre (ids_from first n) ++ pairs_from k (drop pre ids)) moved
    ∙ ap (λ l. pairs_from pre (ids_from first n) ++ l) (sym (up-pairs n (0 + pre) (drop pre ids)) ∙ ap (map (moved_up n)) (sym (drop-pairs pre 0 ids)))
    )

-- where ids are taken out later pres are n less
pub pairs-without_ids : (pre n : ℕ) (ids : List ℕ) → pre + n ≤ length ids → id_pairs (without_ids pre n ids) ≡ take pre (id_pairs ids) ++ map (moved_down n) (drop (pre + n) (id_pairs ids))
pairs-without_ids pre n ids le =
    let front : 0 + length (take pre ids) ≡ 0 + (pre + n) - n = omega (arith, length-take-le pre ids (omega arith)) in
    pairs-append 0 (take pre ids) (drop (pre + n) ids)
    ∙ ap₂ (λ a k. a ++ pairs_from k (drop (pre + n) ids)) (sym (take-pairs pre 0 ids)) front
    ∙ ap (λ l. take pre (id_pairs ids) ++ l) (sym (down-pairs n (0 + (pre + n)) (drop (pre + n) ids) (omega arith)) ∙ ap (map (moved_down n)) (sym (drop-pairs (pre + n) 0 ids)))

-- ---- the pre of an id is that of its pair

pub length-pairs : (n : ℕ) (ids : List ℕ) → length (pairs_from n ids) ≡ length ids
length-pairs n [] = refl
length-pairs n (id ∷ ids) = ap suc (length-pairs (suc n) ids)

pub pair_at : (n k : ℕ) (ids : List ℕ) (d : ℕ × ℕ) (e : ℕ) → k < length ids → get_or (pairs_from n ids) k d ≡ (get_or ids k e, n + k)
pair_at n k [] d e lt = absurd (omega arith)
pair_at n zero (id ∷ ids) d e lt = let same : n ≡ n + 0 = omega arith in ap (λ m. (id, m)) same
pair_at n (suc k) (id ∷ ids) d e lt = let same : suc n + k ≡ n + suc k = omega arith in pair_at (suc n) k ids d e (omega arith) ∙ ap (λ m. (get_or ids k e, m)) same

pub pair_of_pre : (id pre : ℕ) (ids : List ℕ) → pre_with id ids ≡ Some pre → Contains (id_pairs ids) (id, pre)
pair_of_pre id pre ids e =
    let found = position-Some (λ x. eqb x id) ids pre id e in
    let same : get_or ids pre id ≡ id = eqb-true (get_or ids pre id) id found.1 in
    (pre, (omega (arith, found.0, length-pairs 0 ids)), pair_at 0 pre ids (id, pre) id found.0 ∙ ap₂ (λ a b. (a, b)) same (omega arith))

pub pre_of_pair : (id pre : ℕ) (ids : List ℕ) → times id ids ≤ 1 → Contains (id_pairs ids) (id, pre) → pre_with id ids ≡ Some pre
pre_of_pair id pre ids once held =
    let k : ℕ = held.0 in
    let within : k < length ids = omega (arith, held.1, length-pairs 0 ids) in
    let pair : ◌≡◌ {A = ℕ × ℕ} (get_or ids k id, 0 + k) (id, pre) = sym (pair_at 0 k ids (id, pre) id within) ∙ held.2 in
    let here : get_or ids k id ≡ id = ap (λ (p : ℕ × ℕ). p.0) pair in
    let at : 0 + k ≡ pre = ap (λ (p : ℕ × ℕ). p.1) pair in
    let whole : ids ≡ take k ids ++ id ∷ drop (k + 1) ids = sym (take-append-drop k ids) ∙ ap (λ l. take k ids ++ l) (drop_more ids k id within ∙ ap (λ x. x ∷ drop (k + 1) ids) here) in
    let none : times id (take k ids) ≡ 0 = omega (arith, once, ap (times id) whole, times-append id (take k ids) (id ∷ drop (k + 1) ids), times-self id (drop (k + 1) ids)) in
    sym (pre_with-at id k (take k ids) (drop (k + 1) ids) ids none (length-take-le k ids (omega (arith, within))) whole) ∙ ap (λ m. Some m) (omega arith)
