-- What a change makes of runs.
use Rattle.std.specs.Prelude.{ℕ, ◌+◌, ◌-◌, ◌^◌, ◌<◌, ◌≤◌, ◌==◌, nat_le, Bool, ◌&&◌, cond, min, List, [], ◌∷◌, fold, length, take, drop, All}
use Rattle.id_map.specs.declared.span.Span.{Span}

-- whether the ids and pres of a run go on where those of another end
abbrev pub joins : Span → Span → Bool
joins s t = (s.first_id + s.n == t.first_id) && (s.pre + s.n == t.pre)

-- two runs as one
abbrev pub both : Span → Span → Span
both s t = record { first_id = s.first_id; pre = s.pre; n = s.n + t.n }

-- a run behind others, as one with the last where it joins it
abbrev pub put_behind : List Span → Span → List Span
put_behind [] s = s ∷ []
put_behind (x ∷ []) s = cond (joins x s) (both x s ∷ []) (x ∷ s ∷ [])
put_behind (x ∷ y ∷ runs) s = x ∷ put_behind (y ∷ runs) s

-- a run without ids isn't put
abbrev pub put_run : List Span → Span → List Span
put_run runs s = cond (s.n == 0) runs (put_behind runs s)

-- the part of a run below a pre
abbrev pub front_of : ℕ → Span → Span
front_of at s = record { first_id = s.first_id; pre = s.pre; n = min s.n (at - s.pre) }

-- the part of a run from a pre on, moved to where that pre becomes another
abbrev pub back_of : ℕ → ℕ → Span → Span
back_of from to s =
    let skipped = min s.n (from - s.pre) in
    record { first_id = s.first_id + skipped; pre = to + (s.pre - from); n = s.n - skipped }

-- a run that is moved where it begins at a pre or behind it
abbrev pub moved_run : ℕ → ℕ → Span → Span
moved_run from to s = record { first_id = s.first_id; pre = cond (nat_le from s.pre) (to + (s.pre - from)) s.pre; n = s.n }

-- the parts of runs are put behind others
abbrev pub fronts_put : ℕ → List Span → List Span → List Span
fronts_put at out runs = fold (λ o s. put_run o (front_of at s)) out runs

abbrev pub backs_put : ℕ → ℕ → List Span → List Span → List Span
backs_put from to out runs = fold (λ o s. put_run o (back_of from to s)) out runs

abbrev pub parts_put : ℕ → ℕ → ℕ → List Span → List Span → List Span
parts_put at from to out runs = fold (λ o s. put_run (put_run o (front_of at s)) (back_of from to s)) out runs

-- a run's numbers fit, also when it is moved
abbrev pub Fits : ℕ → ℕ → Span → Type 0
Fits from to s = (s.first_id + s.n < 2 ^ 32) × (to + (s.pre - from) < 2 ^ 32)

-- so many runs begin at an id or before it, and no others
pub record IsIdPlace (runs : List Span) (id place : ℕ) : Type 0 where
  pub within : place ≤ length runs
  pub before : All (λ s. s.first_id ≤ id) (take place runs)
  pub behind : All (λ s. id < s.first_id) (drop place runs)

-- so many runs begin before a pre, and no others
pub record IsPrePlace (runs : List Span) (pre place : ℕ) : Type 0 where
  pub within : place ≤ length runs
  pub before : All (λ s. s.pre < pre) (take place runs)
  pub behind : All (λ s. pre ≤ s.pre) (drop place runs)

-- the ids of runs from one pre up to another give way to a run
abbrev pub changed_by_pre : Span → ℕ → List Span → List Span
changed_by_pre run from runs = backs_put from (run.pre + run.n) (put_run (fronts_put run.pre [] runs) run) runs

-- the same in order of id, where so many runs stand before the new one
abbrev pub changed_by_id : ℕ → Span → ℕ → List Span → List Span
changed_by_id place run from runs =
    let to = run.pre + run.n in
    parts_put run.pre from to (put_run (parts_put run.pre from to [] (take place runs)) run) (drop place runs)
