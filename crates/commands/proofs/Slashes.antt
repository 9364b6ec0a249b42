-- Two slashes in a row.
use Rattle.std.proofs.Common.{◌≡◌, ℕ, suc, ◌<◌, Bool, true, false, ◌&&◌, ◌||◌, ◌==◌, List, [], ◌∷◌, ◌++◌, length, drop, get_or, codes, refl, sym, ap, ◌∙◌}
use Rattle.std.proofs.Math.Seq.{drop-cons}
use Rattle.tree_model.specs.XmlChars.{has_word}

-- whether a slash stands behind another, the last one behind the bytes; and whether one stands before them
abbrev pub doubles : Bool → List ℕ → Bool
doubles was [] = was
doubles was (c ∷ bytes) = (was && (c == 47)) || doubles (c == 47) bytes

or_false : (a : Bool) → (a || false) ≡ a
or_false true = refl
or_false false = refl

and_true : (a : Bool) → (a && true) ≡ a
and_true true = refl
and_true false = refl

-- behind a byte
behind : (c : ℕ) (bytes : List ℕ) → has_word (codes "//") (c ∷ (bytes ++ codes "/")) ≡ doubles (c == 47) bytes
behind c [] = or_false ((c == 47) && true) ∙ and_true (c == 47)
behind c (d ∷ bytes) =
    ap (λ more. ((c == 47) && ((d == 47) && true)) || more) (behind d bytes)
    ∙ ap (λ a. ((c == 47) && a) || doubles (d == 47) bytes) (and_true (d == 47))

pub doubles_are : (bytes : List ℕ) → doubles false bytes ≡ has_word (codes "//") (bytes ++ codes "/")
doubles_are [] = refl
doubles_are (c ∷ bytes) = sym (behind c bytes)

-- a slash at a place of bytes, behind another
doubled_first : (was : Bool) (c : ℕ) (bytes rest : List ℕ) → bytes ≡ c ∷ rest → was ≡ true → (c == 47) ≡ true → doubles was bytes ≡ true
doubled_first was c bytes rest e first second = ap (doubles was) e ∙ rw (first, second) refl

pub doubled : (was : Bool) (bytes : List ℕ) (i d : ℕ) → i < length bytes → was ≡ true → get_or bytes i d ≡ 47 → doubles was (drop i bytes) ≡ true
doubled was bytes i d lt first second = doubled_first was (get_or bytes i d) (drop i bytes) (drop (suc i) bytes) (drop-cons bytes i d lt) first (ap (λ b. b == 47) second)
