-- Texts by their numbers, among keys that each have a text.
use Rattle.std.proofs.Common.{◌≡◌, ℕ, zero, suc, ◌<◌, true, List, [], ◌∷◌, map, length, get_or, Some, sym, ap, ◌∙◌, ⊎_elim, arith, eqb}
use Rattle.std.specs.Prelude.{slice_get}
use Rattle.std.specs.List.{position, IsDistinct}
use Rattle.std.specs.Str.{bytes_eq}
use Rattle.std.proofs.lemmas.Bool.{false≢true, cases_lt}
use Rattle.std.proofs.lemmas.Bool.Decides.{same_from_decides, Decides-eqb}
use Rattle.std.proofs.lemmas.List.{get_or-map}
use Rattle.std.proofs.lemmas.List.Quantifiers.{position-Some}
use Rattle.std.proofs.lemmas.Map.Keys.{apart_from_distinct}
use Rattle.std.proofs.lemmas.Slice.Eq.{bytes_eq-Decides}
use Rattle.xml_rows.specs.Numbers.{uri_at}

-- the text of the first key that has it
pub text_found : {X : Type 0} (text_of : X → List ℕ) (text : List ℕ) (keys : List X) (n : ℕ) → position (λ k. bytes_eq text (text_of k)) keys ≡ Some n → uri_at (map text_of keys) n ≡ text
text_found text_of text [] n is = absurd cc
text_found text_of text (k ∷ keys) n is =
    let at = position-Some (λ k. bytes_eq text (text_of k)) (k ∷ keys) n k is in
    get_or-map text_of (k ∷ keys) n k [] at.0 ∙ sym ((bytes_eq-Decides text (text_of (get_or (k ∷ keys) n k))).0 at.1)

apart : {X : Type 0} (text_of : X → List ℕ) (keys : List X) (a b : ℕ) → IsDistinct (λ x y. bytes_eq (text_of x) (text_of y)) keys → a < b → b < length keys → uri_at (map text_of keys) a ≡ uri_at (map text_of keys) b → ⊥
apart text_of [] a b distinct lt within same = absurd (omega arith)
apart text_of (k ∷ keys) a b distinct lt within same =
    let differ = apart_from_distinct (λ x y. bytes_eq (text_of x) (text_of y)) (k ∷ keys) a b k distinct lt within in
    let e = sym (get_or-map text_of (k ∷ keys) a k [] (omega arith)) ∙ same ∙ get_or-map text_of (k ∷ keys) b k [] within in
    false≢true (sym differ ∙ (bytes_eq-Decides _ _).1 e)

-- two numbers are equal exactly where their texts are
pub texts_differ : {X : Type 0} (text_of : X → List ℕ) (keys : List X) (a b : ℕ) → IsDistinct (λ x y. bytes_eq (text_of x) (text_of y)) keys → a < length keys → b < length keys
    → eqb a b ≡ bytes_eq (uri_at (map text_of keys) a) (uri_at (map text_of keys) b)
texts_differ text_of keys a b distinct a_in b_in =
    same_from_decides (eqb a b) (bytes_eq (uri_at (map text_of keys) a) (uri_at (map text_of keys) b))
    (decided, differs) (bytes_eq-Decides _ _)
  where
    decided : eqb a b ≡ true → uri_at (map text_of keys) a ≡ uri_at (map text_of keys) b
    decided is = ap (uri_at (map text_of keys)) ((Decides-eqb a b).0 is)

    differs : uri_at (map text_of keys) a ≡ uri_at (map text_of keys) b → eqb a b ≡ true
    differs same =
        ⊎_elim (λ lt. absurd (apart text_of keys a b distinct lt b_in same))
        (λ le. ⊎_elim (λ lt. absurd (apart text_of keys b a distinct lt a_in (sym same))) (λ more. (Decides-eqb a b).1 (omega arith)) (cases_lt b a)) (cases_lt a b)

pub text_stored : {X : Type 0} (text_of : X → List ℕ) (text : List ℕ) (keys : List X) (n : ℕ) (key : X) → slice_get keys n ≡ Some key → bytes_eq text (text_of key) ≡ true → uri_at (map text_of keys) n ≡ text
text_stored text_of text [] n key is same = absurd cc
text_stored text_of text (k ∷ keys) zero key is same = let at : k ≡ key = cc in ap text_of at ∙ sym ((bytes_eq-Decides text (text_of key)).0 same)
text_stored text_of text (k ∷ keys) (suc n) key is same = text_stored text_of text keys n key is same
