-- Runs put one behind the other are joined: where the ids and pres go on, two runs are one.
use Rattle.std.proofs.Common.{◌≡◌, ℕ, suc, ◌+◌, ◌<◌, inl, inr, true, false, cond, eqb, List, [], ◌∷◌, ◌++◌, length, map, refl, sym, ap, ◌∙◌, subst, arith, append_assoc}
use Rattle.std.specs.List.{flat_map, fold}
use Rattle.std.proofs.lemmas.Bool.{cond-true, cond-false, eq-eqb, ne_eqb, eqb-true, eqb-false, cases_Bool, and_parts}
use Rattle.std.proofs.lemmas.List.{append-nil}
use Rattle.id_map.specs.Changes.{joins, both, put_behind, put_run, front_of, back_of, fronts_put, backs_put, parts_put}
use Rattle.id_map.specs.declared.span.Span.{Span}
use Rattle.id_map.proofs.Putting.{put_some, put_none}

pub joins_parts : (s t : Span) → joins s t ≡ true → (s.first_id + s.n ≡ t.first_id) × (s.pre + s.n ≡ t.pre)
joins_parts s t e =
    let parts = and_parts (eqb (s.first_id + s.n) t.first_id) (eqb (s.pre + s.n) t.pre) e in
    (eqb-true (s.first_id + s.n) t.first_id parts.0, eqb-true (s.pre + s.n) t.pre parts.1)

-- a run that is still open, with those behind it
abbrev pub close : Span → List Span → List Span
close cur [] = cur ∷ []
close cur (t ∷ ts) = cond (joins cur t) (close (both cur t) ts) (cur ∷ close t ts)

abbrev pub joined : List Span → List Span
joined [] = []
joined (s ∷ ss) = close s ss

pub close-on : (cur t : Span) (ts : List Span) → joins cur t ≡ true → close cur (t ∷ ts) ≡ close (both cur t) ts
close-on cur t ts on = cond-true (joins cur t) (close (both cur t) ts) (cur ∷ close t ts) on

pub close-off : (cur t : Span) (ts : List Span) → joins cur t ≡ false → close cur (t ∷ ts) ≡ cur ∷ close t ts
close-off cur t ts off = cond-false (joins cur t) (close (both cur t) ts) (cur ∷ close t ts) off

-- the runs that have ids
abbrev pub filled : List Span → List Span
filled [] = []
filled (s ∷ ss) = cond (eqb s.n 0) (filled ss) (s ∷ filled ss)

pub filled-none : (s : Span) (ss : List Span) → s.n ≡ 0 → filled (s ∷ ss) ≡ filled ss
filled-none s ss none = cond-true (eqb s.n 0) (filled ss) (s ∷ filled ss) (eq-eqb s.n 0 none)

pub filled-some : (s : Span) (ss : List Span) → (s.n ≡ 0 → ⊥) → filled (s ∷ ss) ≡ s ∷ filled ss
filled-some s ss some = cond-false (eqb s.n 0) (filled ss) (s ∷ filled ss) (ne_eqb s.n 0 some)

-- ---- putting is joining

close_some : (cur : Span) (ss : List Span) → 0 < length (close cur ss)
close_some cur [] = omega arith
close_some cur (t ∷ ts) =
    elim (cases_Bool (joins cur t)) [
      | inl on ↦ subst (λ l. 0 < length l) (sym (close-on cur t ts on)) (close_some (both cur t) ts)
      | inr off ↦ subst (λ l. 0 < length l) (sym (close-off cur t ts off)) (let some : 0 < suc (length (close t ts)) = omega arith in some)
    ]

put-cons : (x : Span) (xs : List Span) (s : Span) → 0 < length xs → put_behind (x ∷ xs) s ≡ x ∷ put_behind xs s
put-cons x [] s some = absurd (omega arith)
put-cons x (y ∷ xs) s some = refl

put_close : (cur : Span) (ss : List Span) (s : Span) → put_behind (close cur ss) s ≡ close cur (ss ++ s ∷ [])
put_close cur [] s = refl
put_close cur (t ∷ ts) s =
    elim (cases_Bool (joins cur t)) [
      | inl on ↦ ap (λ l. put_behind l s) (close-on cur t ts on) ∙ put_close (both cur t) ts s ∙ sym (close-on cur t (ts ++ s ∷ []) on)
      | inr off ↦ ap (λ l. put_behind l s) (close-off cur t ts off) ∙ put-cons cur (close t ts) s (close_some t ts)
          ∙ ap (λ l. cur ∷ l) (put_close t ts s) ∙ sym (close-off cur t (ts ++ s ∷ []) off)
    ]

put_joined_list : (ss : List Span) (s : Span) → put_behind (joined ss) s ≡ joined (ss ++ s ∷ [])
put_joined_list [] s = refl
put_joined_list (x ∷ ss) s = put_close x ss s

filled-push : (ss : List Span) (s : Span) → (s.n ≡ 0 → ⊥) → filled (ss ++ s ∷ []) ≡ filled ss ++ s ∷ []
filled-push [] s some = filled-some s [] some
filled-push (x ∷ ss) s some =
    elim (cases_Bool (eqb x.n 0)) [
      | inl e ↦ filled-none x (ss ++ s ∷ []) (eqb-true x.n 0 e) ∙ filled-push ss s some ∙ ap (λ l. l ++ s ∷ []) (sym (filled-none x ss (eqb-true x.n 0 e)))
      | inr e ↦ filled-some x (ss ++ s ∷ []) (eqb-false x.n 0 e) ∙ ap (λ l. x ∷ l) (filled-push ss s some) ∙ ap (λ l. l ++ s ∷ []) (sym (filled-some x ss (eqb-false x.n 0 e)))
    ]

filled-empty : (ss : List Span) (s : Span) → s.n ≡ 0 → filled (ss ++ s ∷ []) ≡ filled ss
filled-empty [] s none = filled-none s [] none
filled-empty (x ∷ ss) s none =
    elim (cases_Bool (eqb x.n 0)) [
      | inl e ↦ filled-none x (ss ++ s ∷ []) (eqb-true x.n 0 e) ∙ filled-empty ss s none ∙ sym (filled-none x ss (eqb-true x.n 0 e))
      | inr e ↦ filled-some x (ss ++ s ∷ []) (eqb-false x.n 0 e) ∙ ap (λ l. x ∷ l) (filled-empty ss s none) ∙ sym (filled-some x ss (eqb-false x.n 0 e))
    ]

put_run_is : (ss : List Span) (s : Span) → put_run (joined (filled ss)) s ≡ joined (filled (ss ++ s ∷ []))
put_run_is ss s =
    elim (cases_Bool (eqb s.n 0)) [
      | inl e ↦ put_none (joined (filled ss)) s (eqb-true s.n 0 e) ∙ ap joined (sym (filled-empty ss s (eqb-true s.n 0 e)))
      | inr e ↦ sym (put_some (joined (filled ss)) s (eqb-false s.n 0 e)) ∙ put_joined_list (filled ss) s ∙ ap joined (sym (filled-push ss s (eqb-false s.n 0 e)))
    ]

pub puts_are : (ss done : List Span) → fold put_run (joined (filled done)) ss ≡ joined (filled (done ++ ss))
puts_are [] done = ap (λ l. joined (filled l)) (sym (append-nil done))
puts_are (s ∷ ss) done =
    ap (λ o. fold put_run o ss) (put_run_is done s) ∙ puts_are ss (done ++ s ∷ []) ∙ ap (λ l. joined (filled l)) (append_assoc done (s ∷ []) ss)

-- both parts of a run
abbrev pub parts_of : ℕ → ℕ → ℕ → Span → List Span
parts_of at from to s = front_of at s ∷ back_of from to s ∷ []

pub fronts_put_are : (at : ℕ) (runs out : List Span) → fronts_put at out runs ≡ fold put_run out (map (front_of at) runs)
fronts_put_are at [] out = refl
fronts_put_are at (s ∷ runs) out = fronts_put_are at runs (put_run out (front_of at s))

pub backs_put_are : (from to : ℕ) (runs out : List Span) → backs_put from to out runs ≡ fold put_run out (map (back_of from to) runs)
backs_put_are from to [] out = refl
backs_put_are from to (s ∷ runs) out = backs_put_are from to runs (put_run out (back_of from to s))

pub parts_put_are : (at from to : ℕ) (runs out : List Span) → parts_put at from to out runs ≡ fold put_run out (flat_map (parts_of at from to) runs)
parts_put_are at from to [] out = refl
parts_put_are at from to (s ∷ runs) out = parts_put_are at from to runs (put_run (put_run out (front_of at s)) (back_of from to s))
