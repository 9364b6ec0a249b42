-- The longest front that passes a test, and what is past it.
use Rattle.std.proofs.Common.{◌≡◌, ℕ, ◌+◌, Bool, true, false, ◌&&◌, cond, List, [], ◌∷◌, ◌++◌, length, take, drop, refl, sym, ap, ◌∙◌, arith, take-append-drop, one-add}
use Rattle.std.specs.List.{list_all, prefix_len}
use Rattle.std.proofs.Math.Seq.{take-append_seam, drop-append_seam}
use Rattle.std.proofs.lemmas.Bool.{false≢true}
use Rattle.tree_model.specs.XmlChars.{first_is}

abbrev pub skip : (ℕ → Bool) → List ℕ → List ℕ
skip p bytes = drop (prefix_len p bytes) bytes

abbrev pub front : (ℕ → Bool) → List ℕ → List ℕ
front p bytes = take (prefix_len p bytes) bytes

pub both_true : (a b : Bool) → (a && b) ≡ true → (a ≡ true) × (b ≡ true)
both_true true b e = (refl, e)
both_true false b e = absurd (false≢true e)

prefix_all : (p : ℕ → Bool) (v rest : List ℕ) → list_all p v ≡ true → first_is p rest ≡ false → prefix_len p (v ++ rest) ≡ length v
prefix_all p [] [] all stop = refl
prefix_all p [] (c ∷ cs) all stop = ap (λ b. cond b (1 + prefix_len p cs) 0) stop
prefix_all p (x ∷ v) rest all stop =
    let parts = both_true (p x) (list_all p v) all in
    ap (λ b. cond b (1 + prefix_len p (v ++ rest)) 0) parts.0 ∙ omega (arith, prefix_all p v rest parts.1 stop)

pub front_all : (p : ℕ → Bool) (v rest : List ℕ) → list_all p v ≡ true → first_is p rest ≡ false → front p (v ++ rest) ≡ v
front_all p v rest all stop = ap (λ n. take n (v ++ rest)) (prefix_all p v rest all stop) ∙ take-append_seam v rest

pub skip_all : (p : ℕ → Bool) (v rest : List ℕ) → list_all p v ≡ true → first_is p rest ≡ false → skip p (v ++ rest) ≡ rest
skip_all p v rest all stop = ap (λ n. drop n (v ++ rest)) (prefix_all p v rest all stop) ∙ drop-append_seam v rest

pub front_skip : (p : ℕ → Bool) (bytes : List ℕ) → bytes ≡ front p bytes ++ skip p bytes
front_skip p bytes = sym (take-append-drop (prefix_len p bytes) bytes)

pub front_passes : (p : ℕ → Bool) (bytes : List ℕ) → list_all p (front p bytes) ≡ true
front_passes p [] = refl
front_passes p (x ∷ xs) = passes (p x) refl (front_passes p xs)
  where
    passes : (b : Bool) → p x ≡ b → list_all p (take (prefix_len p xs) xs) ≡ true → list_all p (take (cond b (1 + prefix_len p xs) 0) (x ∷ xs)) ≡ true
    passes true e ih = rw one-add (ap (λ b. b && list_all p (take (prefix_len p xs) xs)) e ∙ ih)
    passes false e ih = refl

pub skip_stops : (p : ℕ → Bool) (bytes : List ℕ) → first_is p (skip p bytes) ≡ false
skip_stops p [] = refl
skip_stops p (x ∷ xs) = stops (p x) refl (skip_stops p xs)
  where
    stops : (b : Bool) → p x ≡ b → first_is p (skip p xs) ≡ false → first_is p (drop (cond b (1 + prefix_len p xs) 0) (x ∷ xs)) ≡ false
    stops true e ih = rw one-add ih
    stops false e ih = e
