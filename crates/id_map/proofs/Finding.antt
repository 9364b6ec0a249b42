-- An id is found in the last run that begins at it or before it, or nowhere.
use Rattle.std.proofs.Common.{◌≡◌, ℕ, suc, ◌+◌, ◌-◌, ◌^◌, ◌<◌, ◌≤◌, List, ◌∷◌, ◌++◌, length, take, drop, get_or, Some, None, sym, ap, ◌∙◌, subst, arith, append_assoc}
use Rattle.std.specs.List.{sum_by, AllByRecursion}
use Rattle.std.proofs.lemmas.List.{length-append, take-append-drop, drop_more}
use Rattle.std.proofs.lemmas.List.Concat.{flat_map-append}
use Rattle.std.proofs.lemmas.List.Sums.{sum_by-cons, sum_by-append}
use Rattle.id_map.specs.Ids.{ids_from, times, pre_with}
use Rattle.id_map.specs.Spans.{ids_of, AreLaid, AreApart, IsMap}
use Rattle.id_map.specs.declared.span.Span.{Span}
use Rattle.id_map.proofs.IdLists.{length-ids_from, ids_from-append, times-append, times-self, times_above, pre_with-none, pre_with-at}
use Rattle.id_map.proofs.SameRuns.{stands, stands-append, stands-self, stands-same, cut, apart_split}
use Rattle.id_map.proofs.Searching.{IsLast}
use Rattle.id_map.proofs.Counting.{in_run, times-same_runs, none_above, none_before, end_pre_at_most, pre_is}

about : (k : ℕ) (runs : List Span) (s : Span) → k < length runs → s ≡ get_or runs k s → runs ≡ take k runs ++ s ∷ drop (k + 1) runs
about k runs s lt is = sym (take-append-drop k runs) ∙ ap (λ l. take k runs ++ l) (drop_more runs k s lt ∙ ap (λ x. x ∷ drop (k + 1) runs) (sym is))

last_stands : (id k : ℕ) (runs : List Span) (s : Span) → IsLast id k runs s → 0 < stands s runs
last_stands id k runs s h =
    omega (arith, ap (stands s) (about k runs s h.within h.here), stands-append s (take k runs) (s ∷ drop (k + 1) runs), stands-self s (drop (k + 1) runs))

-- no other run has the id
alone : (id k : ℕ) (by_pre by_id : List Span) (s : Span) → IsMap by_pre by_id → IsLast id k by_id s → times id (ids_of by_pre) ≡ in_run id s
alone id k by_pre by_id s h last =
    let whole = about k by_id s last.within last.here in
    let split = apart_split 0 (2 ^ 32 - 1) (take k by_id) (s ∷ drop (k + 1) by_id) (subst (λ l. AreApart 0 l (2 ^ 32 - 1)) whole h.apart) in
    let before : sum_by (in_run id) (take k by_id) ≡ 0 = none_above id 0 split.0 (take k by_id) split.1 (omega (arith, split.2.0, last.first)) in
    let behind : sum_by (in_run id) (drop (k + 1) by_id) ≡ 0 = none_before id (drop (k + 1) by_id) last.behind in
    times-same_runs id by_pre by_id h.same ∙ ap (sum_by (in_run id)) whole
    ∙ omega (arith, before, behind, sum_by-append (in_run id) (take k by_id) (s ∷ drop (k + 1) by_id), sum_by-cons (in_run id) s (drop (k + 1) by_id))

pub found_fits : (id k : ℕ) (by_pre by_id : List Span) (s : Span) → IsMap by_pre by_id → IsLast id k by_id s → s.pre + s.n < 2 ^ 32
found_fits id k by_pre by_id s h last =
    let some : 0 < stands s by_pre = omega (arith, stands-same s by_id by_pre h.same, last_stands id k by_id s last) in
    omega (arith, end_pre_at_most 0 (length (ids_of by_pre)) by_pre s h.laid some, h.ids.few)

pub found : (id k : ℕ) (by_pre by_id : List Span) (s : Span) → IsMap by_pre by_id → IsLast id k by_id s → id - s.first_id < s.n → Some (s.pre + (id - s.first_id)) ≡ pre_with id (ids_of by_pre)
found id k by_pre by_id s h last lt =
    let some : 0 < stands s by_pre = omega (arith, stands-same s by_id by_pre h.same, last_stands id k by_id s last) in
    let c = cut by_pre s some in
    let steps : ℕ = id - s.first_id in
    let front : List ℕ = ids_of c.front ++ ids_from s.first_id steps in
    let back : List ℕ = ids_from (suc id) (s.n - steps - 1) ++ ids_of c.back in
    let pre : s.pre ≡ 0 + length (ids_of c.front) = pre_is 0 (length (ids_of by_pre)) c.front s c.back (subst (λ l. AreLaid 0 l (length (ids_of by_pre))) c.whole h.laid) in
    let here : s.first_id + steps ≡ id = omega (arith, last.first) in
    let split : steps + suc (s.n - steps - 1) ≡ s.n = omega arith in
    let run : ids_from s.first_id s.n ≡ ids_from s.first_id steps ++ id ∷ ids_from (suc id) (s.n - steps - 1) =
    ap (ids_from s.first_id) (sym split) ∙ ids_from-append s.first_id steps (suc (s.n - steps - 1))
    ∙ ap (λ m. ids_from s.first_id steps ++ ids_from m (suc (s.n - steps - 1))) here in
    let whole : ids_of by_pre ≡ front ++ id ∷ back =
    ap ids_of c.whole ∙ flat_map-append (λ (s : Span). ids_from s.first_id s.n) c.front (s ∷ c.back)
    ∙ ap (λ l. ids_of c.front ++ (l ++ ids_of c.back)) run
    ∙ ap (λ l. ids_of c.front ++ l) (append_assoc (ids_from s.first_id steps) (id ∷ ids_from (suc id) (s.n - steps - 1)) (ids_of c.back))
    ∙ sym (append_assoc (ids_of c.front) (ids_from s.first_id steps) (id ∷ back)) in
    let once : times id (front ++ id ∷ back) ≤ 1 = omega (arith, h.ids.distinct id, ap (times id) whole) in
    let none : times id front ≡ 0 = omega (arith, once, times-append id front (id ∷ back), times-self id back) in
    let long : length front ≡ s.pre + steps = omega (arith, pre, length-append (ids_of c.front) (ids_from s.first_id steps), length-ids_from s.first_id steps) in
    pre_with-at id (s.pre + steps) front back (ids_of by_pre) none long whole

pub not_found : (id k : ℕ) (by_pre by_id : List Span) (s : Span) → IsMap by_pre by_id → IsLast id k by_id s → s.n ≤ id - s.first_id → None ≡ pre_with id (ids_of by_pre)
not_found id k by_pre by_id s h last ge =
    pre_with-none id (ids_of by_pre) (alone id k by_pre by_id s h last ∙ times_above id s.first_id s.n (omega (arith, last.first)))

-- where all runs begin behind an id it isn't there
pub not_begun : (id : ℕ) (by_pre by_id : List Span) → IsMap by_pre by_id → AllByRecursion (λ t. id < t.first_id) by_id → None ≡ pre_with id (ids_of by_pre)
not_begun id by_pre by_id h behind = pre_with-none id (ids_of by_pre) (times-same_runs id by_pre by_id h.same ∙ none_before id by_id behind)
