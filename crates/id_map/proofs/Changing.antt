-- What a change of runs does to their ids, and that a map keeps what it keeps.
use Rattle.std.proofs.Common.{◌≡◌, ℕ, ◌+◌, ◌-◌, ◌^◌, ◌<◌, ◌≤◌, inl, inr, min, eqb, List, [], ◌∷◌, ◌++◌, length, take, drop, map, refl, sym, ap, ap₂, ◌∙◌, subst, arith}
use Rattle.std.specs.List.{sum_by, flat_map, fold, All}
use Rattle.std.proofs.lemmas.Bool.{cases_Bool, cases_lt, eqb-true, eqb-false}
use Rattle.std.proofs.lemmas.List.{length-append, length-take-le, length-drop, take-append-drop}
use Rattle.std.proofs.lemmas.List.Concat.{flat_map-append}
use Rattle.std.proofs.lemmas.List.Elements.{All-from_recursion, recursion_from_All}
use Rattle.std.proofs.lemmas.List.Sums.{fold-append, sum_by-cons, sum_by-append}
use Rattle.id_map.specs.Ids.{ids_from, AreNew}
use Rattle.id_map.specs.Changes.{put_run, front_of, back_of, fronts_put, backs_put, parts_put, Fits, IsIdPlace, IsPrePlace, changed_by_pre, changed_by_id}
use Rattle.id_map.specs.Spans.{ids_of, AreLaid, AreApart, AreMaximal, SameRuns, IsMap}
use Rattle.id_map.specs.declared.span.Span.{Span}
use Rattle.id_map.proofs.IdLists.{length-ids_from}
use Rattle.id_map.proofs.Joined.{joined, filled, filled-none, filled-some, puts_are, parts_of, fronts_put_are, backs_put_are, parts_put_are}
use Rattle.id_map.proofs.Joining.{AreSome, ids-joined, laid-joined, apart-joined, some-joined, maximal-joined, Follows, ids-filled, some-filled, laid-filled, apart-filled, weight, sum-filled}
use Rattle.id_map.proofs.SameRuns.{stands, stands-same, all_from_standing, standing_from_all, apart_split, apart_append, some_right}
use Rattle.id_map.proofs.JoinedAlike.{same_joined}
use Rattle.id_map.proofs.Parts.{fronts_past, backs_before, follows-fronts, ids-fronts, follows-backs, ids-backs, apart-parts, sum-parts, sum_apart}
use Rattle.id_map.proofs.Counting.{in_run, times-same_runs, end_at_most, end_pre_at_most, ids_are, apart_up_to, apart_behind}

-- ---- what is put, one run behind the other

abbrev by_pre_parts : Span → ℕ → List Span → List Span
by_pre_parts run from runs = map (front_of run.pre) runs ++ run ∷ map (back_of from (run.pre + run.n)) runs

abbrev by_id_parts : ℕ → Span → ℕ → List Span → List Span
by_id_parts place run from runs =
    let parts = parts_of run.pre from (run.pre + run.n) in flat_map parts (take place runs) ++ run ∷ flat_map parts (drop place runs)

changed_by_pre_is : (run : Span) (from : ℕ) (runs : List Span) → changed_by_pre run from runs ≡ joined (filled (by_pre_parts run from runs))
changed_by_pre_is run from runs =
    let to : ℕ = run.pre + run.n in
    let fronts = map (front_of run.pre) runs in
    let backs = map (back_of from to) runs in
    backs_put_are from to runs (put_run (fronts_put run.pre [] runs) run)
    ∙ ap (λ o. fold put_run (put_run o run) backs) (fronts_put_are run.pre runs [])
    ∙ sym (fold-append put_run [] fronts (run ∷ backs)) ∙ puts_are (fronts ++ run ∷ backs) []

changed_by_id_is : (place : ℕ) (run : Span) (from : ℕ) (runs : List Span) → changed_by_id place run from runs ≡ joined (filled (by_id_parts place run from runs))
changed_by_id_is place run from runs =
    let to : ℕ = run.pre + run.n in
    let parts = parts_of run.pre from to in
    let before = flat_map parts (take place runs) in
    let behind = flat_map parts (drop place runs) in
    parts_put_are run.pre from to (drop place runs) (put_run (parts_put run.pre from to [] (take place runs)) run)
    ∙ ap (λ o. fold put_run (put_run o run) behind) (parts_put_are run.pre from to (take place runs) [])
    ∙ sym (fold-append put_run [] before (run ∷ behind)) ∙ puts_are (before ++ run ∷ behind) []

-- ---- in order of pre

follows_append : (p m q : ℕ) (xs ys : List Span) → Follows p xs m → Follows m ys q → Follows p (xs ++ ys) q
follows_append p m q [] ys h k = subst (λ x. Follows x ys q) (sym h) k
follows_append p m q (x ∷ xs) ys h k = (h.0, follows_append (p + x.n) m q xs ys h.1 k)

parts_follow : (run : Span) (from q : ℕ) (runs : List Span) → AreLaid 0 runs q → run.pre ≤ from → from ≤ q → Follows 0 (by_pre_parts run from runs) (run.pre + run.n + (q - from))
parts_follow run from q runs laid order within =
    let to : ℕ = run.pre + run.n in
    let start : min 0 run.pre ≡ 0 = omega arith in
    let end : min q run.pre ≡ run.pre = omega arith in
    let begin : to + (0 - from) ≡ to = omega arith in
    let fronts : Follows 0 (map (front_of run.pre) runs) run.pre = subst (λ k. Follows k (map (front_of run.pre) runs) run.pre) start
    (subst (λ k. Follows (min 0 run.pre) (map (front_of run.pre) runs) k) end (follows-fronts run.pre 0 q runs laid)) in
    let backs : Follows to (map (back_of from to) runs) (to + (q - from)) = subst (λ k. Follows k (map (back_of from to) runs) (to + (q - from))) begin (follows-backs from to 0 q runs laid) in
    follows_append 0 run.pre (to + (q - from)) (map (front_of run.pre) runs) (run ∷ map (back_of from to) runs) fronts ((λ some. refl), backs)

-- the ids afterwards
pub ids-changed : (run : Span) (from q : ℕ) (runs : List Span) → AreLaid 0 runs q → ids_of (changed_by_pre run from runs) ≡ take run.pre (ids_of runs) ++ (ids_from run.first_id run.n ++ drop from (ids_of runs))
ids-changed run from q runs laid =
    let to : ℕ = run.pre + run.n in
    let fronts = map (front_of run.pre) runs in
    let backs = map (back_of from to) runs in
    let at : run.pre - 0 ≡ run.pre = omega arith in
    let begin : from - 0 ≡ from = omega arith in
    ap ids_of (changed_by_pre_is run from runs) ∙ ids-joined (filled (by_pre_parts run from runs)) ∙ ids-filled (by_pre_parts run from runs)
    ∙ flat_map-append (λ (s : Span). ids_from s.first_id s.n) fronts (run ∷ backs)
    ∙ ap₂ (λ a b. a ++ (ids_from run.first_id run.n ++ b))
    (ids-fronts run.pre 0 q runs laid ∙ ap (λ k. take k (ids_of runs)) at) (ids-backs from to 0 q runs laid ∙ ap (λ k. drop k (ids_of runs)) begin)

-- ---- in order of id

filled-append : (xs ys : List Span) → filled (xs ++ ys) ≡ filled xs ++ filled ys
filled-append [] ys = refl
filled-append (x ∷ xs) ys =
    elim (cases_Bool (eqb x.n 0)) [
      | inl e ↦ filled-none x (xs ++ ys) (eqb-true x.n 0 e) ∙ filled-append xs ys ∙ ap (λ l. l ++ filled ys) (sym (filled-none x xs (eqb-true x.n 0 e)))
      | inr e ↦ filled-some x (xs ++ ys) (eqb-false x.n 0 e) ∙ ap (λ l. x ∷ l) (filled-append xs ys) ∙ ap (λ l. l ++ filled ys) (sym (filled-some x xs (eqb-false x.n 0 e)))
    ]

parts_apart : (high place : ℕ) (run : Span) (from : ℕ) (runs : List Span) → AreApart 0 runs high → AreSome runs → IsIdPlace runs run.first_id place → run.pre ≤ from → run.first_id + run.n ≤ high
    → ((id : ℕ) → run.first_id ≤ id → id < run.first_id + run.n → sum_by (in_run id) runs ≡ 0) → AreApart 0 (filled (by_id_parts place run from runs)) high
parts_apart high place run from runs apart has placed order small unused =
    let to : ℕ = run.pre + run.n in
    let parts = parts_of run.pre from to in
    let first = take place runs in
    let last = drop place runs in
    let whole : first ++ last ≡ runs = take-append-drop place runs in
    let cut = apart_split 0 high first last (subst (λ l. AreApart 0 l high) (sym whole) apart) in
    elim (cases_Bool (eqb run.n 0)) [
      | inl e ↦ let same : filled (flat_map parts first ++ flat_map parts last) ≡ filled (by_id_parts place run from runs) =
          filled-append (flat_map parts first) (flat_map parts last)
          ∙ ap (λ l. filled (flat_map parts first) ++ l) (sym (filled-none run (flat_map parts last) (eqb-true run.n 0 e)))
          ∙ sym (filled-append (flat_map parts first) (run ∷ flat_map parts last)) in
          subst (λ l. AreApart 0 l high) same (apart-filled 0 high (flat_map parts first ++ flat_map parts last)
          (apart_append 0 cut.0 high (flat_map parts first) (flat_map parts last)
          (apart-parts run.pre from to 0 cut.0 first order cut.1) (apart-parts run.pre from to cut.0 high last order cut.2)))
      | inr e ↦ let some : run.n ≡ 0 → ⊥ = eqb-false run.n 0 e in
          let sums : (id : ℕ) → sum_by (in_run id) runs ≡ sum_by (in_run id) first + sum_by (in_run id) last =
          λ id. ap (sum_by (in_run id)) (sym whole) ∙ sum_by-append (in_run id) first last in
          let least : 0 ≤ run.first_id = omega arith in
          let self : run.first_id ≤ run.first_id = omega arith in
          let within : run.first_id < run.first_id + run.n = omega arith in
          let before : AreApart 0 first run.first_id = apart_up_to 0 cut.0 run.first_id first cut.1 least (recursion_from_All (λ (s : Span). s.first_id ≤ run.first_id) first placed.before) (omega (arith, sums run.first_id, unused run.first_id self within)) in
          let behind : AreApart (run.first_id + run.n) last high =
          apart_behind run.first_id run.n cut.0 high last cut.2 small (some_right first last (subst AreSome (sym whole) has)) (recursion_from_All (λ (s : Span). run.first_id < s.first_id) last placed.behind) (λ id lo hi. omega (arith, sums id, unused id lo hi)) in
          apart-filled 0 high (by_id_parts place run from runs)
          (apart_append 0 run.first_id high (flat_map parts first) (run ∷ flat_map parts last)
          (apart-parts run.pre from to 0 run.first_id first order before) (self, apart-parts run.pre from to (run.first_id + run.n) high last order behind))
    ]

-- ---- the same runs

parts_same : (place : ℕ) (run : Span) (from : ℕ) (by_pre by_id : List Span) → SameRuns by_id by_pre → SameRuns (filled (by_id_parts place run from by_id)) (filled (by_pre_parts run from by_pre))
parts_same place run from by_pre by_id h f =
    let to : ℕ = run.pre + run.n in
    let parts = parts_of run.pre from to in
    let first = take place by_id in
    let last = drop place by_id in
    let fronts = map (front_of run.pre) by_pre in
    let backs = map (back_of from to) by_pre in
    let w = weight f in
    let g = λ (s : Span). w (front_of run.pre s) + w (back_of from to s) in
    let one : sum_by w (by_id_parts place run from by_id) ≡ sum_by w (flat_map parts first) + (w run + sum_by w (flat_map parts last)) =
    sum_by-append w (flat_map parts first) (run ∷ flat_map parts last) ∙ ap (λ k. sum_by w (flat_map parts first) + k) (sum_by-cons w run (flat_map parts last)) in
    let two : sum_by g by_id ≡ sum_by g first + sum_by g last = ap (sum_by g) (sym (take-append-drop place by_id)) ∙ sum_by-append g first last in
    let three : sum_by g by_id ≡ sum_by w fronts + sum_by w backs = h g ∙ sum_apart w run.pre from to by_pre in
    let four : sum_by w (by_pre_parts run from by_pre) ≡ sum_by w fronts + (w run + sum_by w backs) =
    sum_by-append w fronts (run ∷ backs) ∙ ap (λ k. sum_by w fronts + k) (sum_by-cons w run backs) in
    let five : sum_by w (by_id_parts place run from by_id) ≡ sum_by w (by_pre_parts run from by_pre) =
    omega (arith, one, two, three, four, sum-parts w run.pre from to first, sum-parts w run.pre from to last) in
    sum-filled f (by_id_parts place run from by_id) ∙ five ∙ sym (sum-filled f (by_pre_parts run from by_pre))

-- ---- a change of a map

pub record IsChange (ids : List ℕ) (run : Span) (from : ℕ) : Type 0 where
  pub order : run.pre ≤ from
  pub within : from ≤ length ids
  pub small : run.first_id + run.n ≤ 2 ^ 32 - 1
  pub unused : AreNew run.first_id run.n ids
  pub few : length ids + run.n < 2 ^ 32 + (from - run.pre)

some_by_id : (by_pre by_id : List Span) → IsMap by_pre by_id → AreSome by_id
some_by_id by_pre by_id h =
    all_from_standing (λ s. 0 < s.n) by_id (λ s some. standing_from_all (λ s. 0 < s.n) by_pre s (recursion_from_All (λ s. 0 < s.n) by_pre h.some) (omega (arith, stands-same s by_id by_pre h.same)))

-- the numbers of each run fit, also when it is moved
fits_one : (by_pre by_id : List Span) (run : Span) (from : ℕ) → IsMap by_pre by_id → IsChange (ids_of by_pre) run from → (s : Span) → 0 < stands s by_pre → Fits from (run.pre + run.n) s
fits_one by_pre by_id run from h change s some =
    let end : s.first_id + s.n ≤ 2 ^ 32 - 1 = end_at_most 0 (2 ^ 32 - 1) by_id s h.apart (omega (arith, stands-same s by_id by_pre h.same)) in
    let end_pre : s.pre + s.n ≤ length (ids_of by_pre) = end_pre_at_most 0 (length (ids_of by_pre)) by_pre s h.laid some in
    (let fits : s.first_id + s.n < 2 ^ 32 = omega arith in fits, (let moved : run.pre + run.n + (s.pre - from) < 2 ^ 32 = omega (arith, change.order, change.within, change.few) in moved))

pub fits_by_pre : (by_pre by_id : List Span) (run : Span) (from : ℕ) → IsMap by_pre by_id → IsChange (ids_of by_pre) run from → All (Fits from (run.pre + run.n)) by_pre
fits_by_pre by_pre by_id run from h change = All-from_recursion (Fits from (run.pre + run.n)) by_pre (all_from_standing (Fits from (run.pre + run.n)) by_pre (fits_one by_pre by_id run from h change))

pub fits_by_id : (by_pre by_id : List Span) (run : Span) (from : ℕ) → IsMap by_pre by_id → IsChange (ids_of by_pre) run from → All (Fits from (run.pre + run.n)) by_id
fits_by_id by_pre by_id run from h change =
    All-from_recursion (Fits from (run.pre + run.n)) by_id
    (all_from_standing (Fits from (run.pre + run.n)) by_id (λ s some. fits_one by_pre by_id run from h change s (omega (arith, stands-same s by_id by_pre h.same))))

pub map_changed : (by_pre by_id : List Span) (place : ℕ) (run : Span) (from : ℕ) → IsMap by_pre by_id → IsChange (ids_of by_pre) run from → IsIdPlace by_id run.first_id place
    → IsMap (changed_by_pre run from by_pre) (changed_by_id place run from by_id)
map_changed by_pre by_id place run from h change placed =
    let ids = ids_of by_pre in
    let q : ℕ = length ids in
    let parts = filled (by_pre_parts run from by_pre) in
    let others = filled (by_id_parts place run from by_id) in
    let is = changed_by_pre_is run from by_pre in
    let other_is = changed_by_id_is place run from by_id in
    let new_ids = ids-changed run from q by_pre h.laid in
    let end : ℕ = run.pre + run.n + (q - from) in
    let long : end ≡ length (ids_of (changed_by_pre run from by_pre)) =
    omega (
      arith,
      change.order,
      change.within,
      ap (λ (l : List ℕ). length l) new_ids,
      length-append (take run.pre ids) (ids_from run.first_id run.n ++ drop from ids),
      length-append (ids_from run.first_id run.n) (drop from ids),
      length-take-le run.pre ids (omega (arith, change.order, change.within)),
      length-ids_from run.first_id run.n,
      length-drop from ids,
    ) in
    let laid : AreLaid 0 parts end = laid-filled 0 end (by_pre_parts run from by_pre) (parts_follow run from q by_pre h.laid change.order change.within) in
    let some = some-filled (by_pre_parts run from by_pre) in
    let apart : AreApart 0 others (2 ^ 32 - 1) =
    parts_apart (2 ^ 32 - 1) place run from by_id h.apart (some_by_id by_pre by_id h) placed change.order change.small (λ id lo hi. sym (times-same_runs id by_pre by_id h.same) ∙ change.unused id lo hi) in
    let same : SameRuns (joined others) (joined parts) =
    same_joined 0 end 0 (2 ^ 32 - 1) parts others laid some apart (some-filled (by_id_parts place run from by_id)) (parts_same place run from by_pre by_id h.same) in
    let new_apart : AreApart 0 (changed_by_id place run from by_id) (2 ^ 32 - 1) = subst (λ l. AreApart 0 l (2 ^ 32 - 1)) (sym other_is) (apart-joined 0 (2 ^ 32 - 1) others apart) in
    let new_same : SameRuns (changed_by_id place run from by_id) (changed_by_pre run from by_pre) = λ f. ap (sum_by f) other_is ∙ same f ∙ ap (sum_by f) (sym is) in
    record {
      laid = subst (λ l. AreLaid 0 (changed_by_pre run from by_pre) l) long (subst (λ l. AreLaid 0 l end) (sym is) (laid-joined 0 end parts laid));
      some = All-from_recursion (λ s. 0 < s.n) (changed_by_pre run from by_pre) (subst AreSome (sym is) (some-joined parts some));
      maximal = subst AreMaximal (sym is) (maximal-joined 0 end parts laid);
      apart = new_apart;
      same = new_same;
      ids = ids_are (changed_by_pre run from by_pre) (changed_by_id place run from by_id) new_same new_apart (omega (arith, long, change.order, change.within, change.few));
    }

-- ---- in order of pre only some runs have parts below a pre, and only some from it on

pub changed_by_pre_within : (runs : List Span) (run : Span) (from end q : ℕ) → AreLaid 0 runs q → run.pre ≤ from → IsPrePlace runs run.pre end
    → backs_put from (run.pre + run.n) (put_run (fronts_put run.pre [] (take end runs)) run) (drop (end - 1) runs) ≡ changed_by_pre run from runs
changed_by_pre_within runs run from end q laid order placed =
    let at : ℕ = run.pre in
    let step = λ (o : List Span) (s : Span). put_run o (front_of at s) in
    let before = recursion_from_All (λ (s : Span). s.pre < at) (take end runs) placed.before in
    let behind = recursion_from_All (λ (s : Span). at ≤ s.pre) (drop end runs) placed.behind in
    let fronts : fronts_put at [] (take end runs) ≡ fronts_put at [] runs =
    sym (fronts_past at (fronts_put at [] (take end runs)) (drop end runs) behind) ∙ sym (fold-append step [] (take end runs) (drop end runs)) ∙ ap (fronts_put at []) (take-append-drop end runs) in
    backs_before at from (run.pre + run.n) 0 q end (put_run (fronts_put at [] (take end runs)) run) runs laid order placed.within before
    ∙ ap (λ o. backs_put from (run.pre + run.n) (put_run o run) runs) fronts

pub change_is : (by_pre by_id : List Span) (now : List ℕ) (run : Span) (removed : ℕ) → IsMap by_pre by_id → ids_of by_pre ≡ now → run.pre + removed ≤ length now → run.first_id + run.n ≤ 2 ^ 32 - 1
    → AreNew run.first_id run.n now → (0 < run.n → length now + run.n < 2 ^ 32 + removed) → IsChange (ids_of by_pre) run (run.pre + removed)
change_is by_pre by_id now run removed h e within small unused few =
    let same : length (ids_of by_pre) ≡ length now = ap (λ (l : List ℕ). length l) e in
    record {
      order = omega arith;
      within = omega (arith, within, same);
      small = small;
      unused = subst (AreNew run.first_id run.n) (sym e) unused;
      few = elim (cases_lt 0 run.n) [
        | inl some ↦ omega (arith, few some, same)
        | inr none ↦ omega (arith, none, h.ids.few)
      ];
    }

pub map_made : (by_pre by_id slice new_by_pre new_by_id : List Span) (place : ℕ) (run : Span) (from : ℕ) → slice ≡ by_id → IsMap by_pre by_id → IsChange (ids_of by_pre) run from
    → IsIdPlace slice run.first_id place → new_by_pre ≡ changed_by_pre run from by_pre → new_by_id ≡ changed_by_id place run from slice → IsMap new_by_pre new_by_id
map_made by_pre by_id slice new_by_pre new_by_id place run from e h change placed pre_is id_is =
    let made = map_changed by_pre by_id place run from h change (subst (λ l. IsIdPlace l run.first_id place) e placed) in
    let by_id_is : new_by_id ≡ changed_by_id place run from by_id = id_is ∙ ap (changed_by_id place run from) e in
    subst (λ l. IsMap l new_by_id) (sym pre_is) (subst (λ l. IsMap (changed_by_pre run from by_pre) l) (sym by_id_is) made)
