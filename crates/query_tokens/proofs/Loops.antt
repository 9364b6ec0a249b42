-- A loop over a repetition: what it has read so far, and how many turns are left.
use Rattle.std.proofs.Common.{◌≡◌, ◌≢◌, ℕ, zero, suc, ◌+◌, ◌-◌, ◌<◌, ◌≤◌, length, refl, ap, ◌∙◌, arith, Ok, Err}
use Rattle.query_terms.specs.Rule.{Text, Value, empty, more, list, nothing, Outcome, turns, turn, and_then, listed}
use Rattle.query_terms.specs.declared.stop.Stop.{Stop}
use Rattle.query_terms.specs.declared.stop.Stop.TheVariants.{Refused, TooDeep, NoMemory}

-- a repetition of what `item` reads, begun at `rest`, stands at `after`, and what it has read comes to `found`
pub record Loop {A : Type 0} (f : Value → A) (item : Text → Outcome) (rest : Text) (left : ℕ) (after : Text) (found : A) : Type 0 where
  pub value : Value
  pub stands : turns (suc (length rest)) item empty rest ≡ turns left item value after
  pub comes_to : f value ≡ found

-- what `many` reads there
abbrev pub all_of : (Text → Outcome) → Text → Outcome
all_of item rest = and_then (turns (suc (length rest)) item empty rest) listed

-- the repetition was read to its end
abbrev pub Whole : {A : Type 0} → (Value → A) → (Text → Outcome) → Text → Text → A → Type 0
Whole f item rest after found = (v : Value) × (all_of item rest ≡ Ok (list v, after)) × (f v ≡ found)

abbrev pub silent : Outcome → Outcome
silent o = and_then o (λ x. Ok (nothing, x.1))

abbrev pub whatever : Value → Unit {0}
whatever v = tt

pub begun : {A : Type 0} (f : Value → A) (item : Text → Outcome) (rest : Text) (found : A) → f empty ≡ found → Loop f item rest (length rest + 1 - 0) rest found
begun f item rest found e =
    let n : suc (length rest) ≡ length rest + 1 - 0 = omega arith in
    record { value = empty; stands = ap (λ (m : ℕ). turns m item empty rest) n; comes_to = e }

pub went_on : {A : Type 0} {f : Value → A} {item : Text → Outcome} {rest after : Text} {found : A} (n i : ℕ) (w : Value) (next : Text) (later : A)
    → Loop f item rest (n - i) after found → i < n → item after ≡ Ok (w, next) → ((v : Value) → f v ≡ found → f (more v w) ≡ later) → Loop f item rest (n - (i + 1)) next later
unfolding turns
went_on {item = item} {after = after} n i w next later loop below reads step =
    let m : n - i ≡ suc (n - (i + 1)) = omega arith in
    record {
      value = more loop.value w;
      stands = loop.stands ∙ ap (λ (k : ℕ). turns k item loop.value after) m ∙ ap (turn (turns (n - (i + 1)) item) loop.value after) reads;
      comes_to = step loop.value loop.comes_to;
    }

stops : (item : Text → Outcome) (n : ℕ) (v : Value) (s : Text) → item s ≡ Err Refused → turns n item v s ≡ Ok (v, s)
unfolding turns
stops item zero v s e = refl
stops item (suc n) v s e = ap (turn (turns n item) v s) e

pub ended : {A : Type 0} {f : Value → A} {item : Text → Outcome} {rest after : Text} {found : A} (n : ℕ) → Loop f item rest n after found → item after ≡ Err Refused → Whole f item rest after found
ended {item = item} {after = after} n loop e = (loop.value, ap (λ (o : Outcome). and_then o listed) (loop.stands ∙ stops item n loop.value after e), loop.comes_to)

pub ran_out : {A : Type 0} {f : Value → A} {item : Text → Outcome} {rest after : Text} {found : A} (n i : ℕ) → Loop f item rest (n - i) after found → n ≤ i → Whole f item rest after found
unfolding turns
ran_out {item = item} {after = after} n i loop out =
    let none : n - i ≡ 0 = omega arith in
    (loop.value, ap (λ (o : Outcome). and_then o listed) (loop.stands ∙ ap (λ (k : ℕ). turns k item loop.value after) none), loop.comes_to)

-- ---- where the body answers with its reason

pub ended_by : {A : Type 0} {f : Value → A} {item : Text → Outcome} {rest after : Text} {found : A} (n : ℕ) (e : Stop) → Loop f item rest n after found
    → (e ≢ NoMemory → item after ≡ Err e) → e ≡ Refused → Whole f item rest after found
ended_by n e loop reads is = let other : e ≢ NoMemory = λ z. cc in ended n loop (reads other ∙ ap (λ (x : Stop). Err x) is)

fails : (item : Text → Outcome) (n : ℕ) (v : Value) (s : Text) → item s ≡ Err TooDeep → turns (suc n) item v s ≡ Err TooDeep
unfolding turns
fails item n v s e = ap (turn (turns n item) v s) e

pub failed_by : {A : Type 0} {f : Value → A} {item : Text → Outcome} {rest after : Text} {found : A} (n i : ℕ) (e : Stop) → Loop f item rest (n - i) after found
    → i < n → (e ≢ NoMemory → item after ≡ Err e) → e ≡ TooDeep → all_of item rest ≡ Err TooDeep
failed_by {item = item} {after = after} n i e loop below reads is =
    let other : e ≢ NoMemory = λ z. cc in
    let m : n - i ≡ suc (n - (i + 1)) = omega arith in
    ap (λ (o : Outcome). and_then o listed)
    (loop.stands ∙ ap (λ (k : ℕ). turns k item loop.value after) m ∙ fails item (n - (i + 1)) loop.value after (reads other ∙ ap (λ (x : Stop). Err x) is))
