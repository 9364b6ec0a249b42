-- Runs of ids.
use Rattle.std.specs.Prelude.{◌≡◌, ◌≢◌, ℕ, ◌+◌, ◌-◌, ◌^◌, ◌<◌, ◌≤◌, List, [], ◌∷◌, length, All}
use Rattle.std.specs.List.{flat_map, sum_by}
use Rattle.id_map.specs.Ids.{ids_from, AreIds}
use Rattle.id_map.specs.declared.span.Span.{Span}

-- the ids of runs, one run after the other
abbrev pub ids_of : List Span → List ℕ
ids_of runs = flat_map (λ s. ids_from s.first_id s.n) runs

-- runs whose ids stand at the pres from one up to another
abbrev pub AreLaid : ℕ → List Span → ℕ → Type 0
AreLaid p [] q = p ≡ q
AreLaid p (s ∷ runs) q = (s.pre ≡ p) × AreLaid (p + s.n) runs q

-- runs whose ids rise, from a least one on, and stay below a bound
abbrev pub AreApart : ℕ → List Span → ℕ → Type 0
AreApart low [] high = low ≤ high
AreApart low (s ∷ runs) high = (low ≤ s.first_id) × AreApart (s.first_id + s.n) runs high

-- the first of the runs doesn't begin with an id, nor any other with the one that follows the last of the run before it
abbrev pub NoneGoesOn : ℕ → List Span → Type 0
NoneGoesOn id [] = Unit {0}
NoneGoesOn id (s ∷ runs) = (s.first_id ≢ id) × NoneGoesOn (s.first_id + s.n) runs

-- none of the runs goes on with the ids of the one before it
abbrev pub AreMaximal : List Span → Type 0
AreMaximal [] = Unit {0}
AreMaximal (s ∷ runs) = NoneGoesOn (s.first_id + s.n) runs

-- two lists have the same runs: whatever is counted in them comes to the same
abbrev pub SameRuns : List Span → List Span → Type 0
SameRuns xs ys = (f : Span → ℕ) → sum_by f xs ≡ sum_by f ys

-- what a map keeps: the maximal runs in order of pre, and the same in order of id
pub record IsMap (by_pre by_id : List Span) : Type 0 where
  pub laid : AreLaid 0 by_pre (length (ids_of by_pre))
  pub some : All (λ s. 0 < s.n) by_pre
  pub maximal : AreMaximal by_pre
  pub apart : AreApart 0 by_id (2 ^ 32 - 1)
  pub same : SameRuns by_id by_pre
  pub ids : AreIds (ids_of by_pre)
