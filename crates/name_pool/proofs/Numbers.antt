-- Names that are found, and names that differ.
use Rattle.std.proofs.Common.{◌≡◌, ℕ, zero, suc, ◌<◌, true, false, List, [], ◌∷◌, length, position, Some, refl, sym, ap, ◌∙◌, arith}
use Rattle.std.specs.Prelude.{slice_get}
use Rattle.std.specs.List.{AllByRecursion, IsDistinct, list_any}
use Rattle.std.proofs.lemmas.Bool.{false≢true}
use Rattle.std.proofs.lemmas.List.Folds.{list_any_at}
use Rattle.std.proofs.lemmas.List.Quantifiers.{position-Some}
use Rattle.std.proofs.lemmas.Option.{get_or_from_slice_get, slice_get_within}
use Rattle.std.proofs.lemmas.Slice.Eq.{bytes_eq-Decides}
use Rattle.tree_model.specs.Labels.{local_name}
use Rattle.tree_model.specs.Rows.{name_at}
use Rattle.tree_model.specs.declared.text.Name.{Name}
use Rattle.name_pool.specs.Names.{are_equal_names, same_names, HasNumber, AreDistinct}

-- ---- the test for equal names

pub same_self : (a : Name) → are_equal_names a a ≡ true
same_self a =
    let e1 = (bytes_eq-Decides a.uri a.uri).1 refl in
    let e2 = (bytes_eq-Decides a.prefix a.prefix).1 refl in
    let e3 = (bytes_eq-Decides a.local a.local).1 refl in
    rw (e1, e2, e3) refl

-- ---- a name that is found

pub found_number : (names : List Name) (name : Name) (n : ℕ) → position (are_equal_names name) names ≡ Some n → HasNumber names name n
found_number names name n is =
    let at = position-Some (are_equal_names name) names n (local_name []) is in
    (at.0, sym (same_names name (name_at names n) at.1))

pub stored_number : (names : List Name) (name key : Name) (n : ℕ) → slice_get names n ≡ Some key → are_equal_names name key ≡ true → HasNumber names name n
stored_number names name key n is same =
    (slice_get_within names n key is, get_or_from_slice_get names n key (local_name []) is ∙ sym (same_names name key same))

-- where none is found, none has a number
pub none_number : (names : List Name) (name : Name) → list_any (are_equal_names name) names ≡ false → (n : ℕ) → n < length names → name_at names n ≡ name → ⊥
none_number names name misses n lt is =
    false≢true (sym misses ∙ list_any_at (are_equal_names name) names n (local_name []) lt (ap (are_equal_names name) is ∙ same_self name))

-- ---- names without two that are equal

apart : (name : Name) (names : List Name) → AllByRecursion (λ other. are_equal_names name other ≡ false) names → (n : ℕ) → n < length names → name_at names n ≡ name → ⊥
apart name [] all n lt is = omega arith
apart name (x ∷ names) all zero lt is = false≢true (sym all.0 ∙ ap (are_equal_names name) is ∙ same_self name)
apart name (x ∷ names) all (suc n) lt is = apart name names all.1 n (omega arith) is

pub distinct : (names : List Name) → IsDistinct are_equal_names names → AreDistinct names
unfolding IsDistinct
distinct [] all i j lt other same = absurd (omega arith)
distinct (x ∷ names) all zero zero lt other same = refl
distinct (x ∷ names) all zero (suc j) lt other same = absurd (apart x names all.0 j (omega arith) (sym same))
distinct (x ∷ names) all (suc i) zero lt other same = absurd (apart x names all.0 i (omega arith) same)
distinct (x ∷ names) all (suc i) (suc j) lt other same = ap suc (distinct names all.1 i j (omega arith) (omega arith) same)
