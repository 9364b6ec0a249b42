-- Readers of a front of the bytes, and how they are put together.
use Rattle.std.specs.Prelude.{◌≡◌, ℕ, ◌+◌, Bool, List, [], ◌∷◌, ◌++◌, length, take, drop, Option, Some, None, if◌then◌else◌}
use Rattle.std.specs.List.{prefix_len}
use Rattle.std.specs.Option.{option_and_then}
use Rattle.tree_model.specs.XmlChars.{begins_with}

abbrev pub Read : Type 0 → Type 0
Read A = Option (A × List ℕ)

abbrev pub read : {A : Type 0} → A → List ℕ → Read A
read x rest = Some (x, rest)

-- the longest front that passes
abbrev pub span : (ℕ → Bool) → List ℕ → Read (List ℕ)
span p bytes = read (take (prefix_len p bytes) bytes) (drop (prefix_len p bytes) bytes)

-- one byte that passes
abbrev pub one : (ℕ → Bool) → List ℕ → Read ℕ
one p [] = None
one p (c ∷ bytes) = if p c then read c bytes else None

-- what is read must pass, or nothing is
abbrev pub tested : {A : Type 0} → (A → Bool) → Read A → Read A
tested p r = option_and_then (λ x. if p x.0 then Some x else None) r

-- the front up to a word, and the word
abbrev pub cons_read : ℕ → Read (List ℕ) → Read (List ℕ)
cons_read c None = None
cons_read c (Some x) = read (c ∷ x.0) x.1

abbrev pub until : List ℕ → List ℕ → Read (List ℕ)
until word [] = None
until word (c ∷ bytes) = if begins_with word (c ∷ bytes) then read [] (drop (length word) (c ∷ bytes)) else cons_read c (until word bytes)

-- how many bytes stand before the word, or all
abbrev pub until_len : List ℕ → List ℕ → ℕ
until_len word [] = 0
until_len word (c ∷ bytes) = if begins_with word (c ∷ bytes) then 0 else 1 + until_len word bytes

-- the word, and nothing of value
abbrev pub word_of : List ℕ → List ℕ → Read (Unit {0})
word_of word bytes = if begins_with word bytes then read tt (drop (length word) bytes) else None

-- one reader behind the other
abbrev pub then_second : {A B : Type 0} → A → Read B → Read (A × B)
then_second x None = None
then_second x (Some y) = read (x, y.0) y.1

abbrev pub both : {A B : Type 0} → (List ℕ → Read A) → (List ℕ → Read B) → List ℕ → Read (A × B)
both first second bytes = option_and_then (λ x. then_second x.0 (second x.1)) (first bytes)

-- the second by what the first has read
abbrev pub chain : {A B : Type 0} → (List ℕ → Read A) → (A → List ℕ → Read B) → List ℕ → Read (A × B)
chain first second bytes = option_and_then (λ x. then_second x.0 (second x.0 x.1)) (first bytes)

-- a part that may be left out: it is, only where it can't be read
abbrev pub kept : {A : Type 0} → List ℕ → Read A → Read (Option A)
kept bytes None = read None bytes
kept bytes (Some x) = read (Some x.0) x.1

abbrev pub maybe : {A : Type 0} → (List ℕ → Read A) → List ℕ → Read (Option A)
maybe r bytes = kept bytes (r bytes)

-- what was read, as something else
abbrev pub as_read : {A B : Type 0} → (A → B) → Read A → Read B
as_read f None = None
as_read f (Some x) = read (f x.0) x.1

-- a reader gives exactly what is spelled so: what it reads fits and was spelled, and what fits is read, where what follows ends it
pub record IsExact (A : Type 0) (reader : List ℕ → Read A) (spell : A → List ℕ) (Fits : A → Type 0) (Ends : A → List ℕ → Type 0) : Type 0 where
  pub sound : (bytes : List ℕ) (x : A) (rest : List ℕ) → reader bytes ≡ Some (x, rest) → (bytes ≡ spell x ++ rest) × Fits x × Ends x rest
  pub complete : (x : A) (rest : List ℕ) → Fits x → Ends x rest → reader (spell x ++ rest) ≡ Some (x, rest)
