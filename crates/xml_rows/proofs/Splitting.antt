-- The colon of a name.
use Rattle.std.proofs.Common.{◌≡◌, ℕ, ◌<◌, Bool, true, false, List, [], ◌∷◌, length, take, drop, Some, None, refl, sym, ap, ◌∙◌, arith, ◌==◌, one-add}
use Rattle.std.specs.List.{prefix_len}
use Rattle.tree_model.specs.XmlChars.{is_no_colon, has_colon}
use Rattle.xml_rows.specs.Numbers.{split_of}

rest_case : (b : Bool) (c : ℕ) (name : List ℕ) (d : ℕ) (more : List ℕ) → (c == 58) ≡ b → (drop (prefix_len is_no_colon name) name ≡ d ∷ more → has_colon name ≡ true)
    → drop (prefix_len is_no_colon (c ∷ name)) (c ∷ name) ≡ d ∷ more → has_colon (c ∷ name) ≡ true
rest_case true c name d more e found is = rw e refl
rest_case false c name d more e found is = rw e (found (rw (e, one-add) at is))

colon_found : (name : List ℕ) (d : ℕ) (more : List ℕ) → drop (prefix_len is_no_colon name) name ≡ d ∷ more → has_colon name ≡ true
colon_found [] d more is = absurd cc
colon_found (c ∷ name) d more is = rest_case (c == 58) c name d more refl (colon_found name d more) is

none_case : (b : Bool) (c : ℕ) (name : List ℕ) → (c == 58) ≡ b → (drop (prefix_len is_no_colon name) name ≡ [] → has_colon name ≡ false)
    → drop (prefix_len is_no_colon (c ∷ name)) (c ∷ name) ≡ [] → has_colon (c ∷ name) ≡ false
none_case true c name e missed is = absurd (let h = rw e at is in cc)
none_case false c name e missed is = rw e (missed (rw (e, one-add) at is))

colon_missed : (name : List ℕ) → drop (prefix_len is_no_colon name) name ≡ [] → has_colon name ≡ false
colon_missed [] is = refl
colon_missed (c ∷ name) is = none_case (c == 58) c name refl (colon_missed name) is

some_by : (name rest : List ℕ) → drop (prefix_len is_no_colon name) name ≡ rest → 0 < length rest → has_colon name ≡ true
some_by name [] is some = absurd (omega arith)
some_by name (d ∷ more) is some = colon_found name d more is

none_by : (name rest : List ℕ) → drop (prefix_len is_no_colon name) name ≡ rest → length rest ≡ 0 → has_colon name ≡ false
none_by name [] is none = colon_missed name is
none_by name (d ∷ more) is none = absurd (omega arith)

pub split_some : (name front back more : List ℕ) (n : ℕ) → n ≡ prefix_len is_no_colon name → front ≡ take n name → back ≡ drop n name → more ≡ drop 1 back → 0 < length back → Some (front, more) ≡ split_of name
split_some name front back more n len front_is back_is more_is some =
    let found = some_by name back (ap (λ k. drop k name) (sym len) ∙ sym back_is) some in
    rw (found, more_is, back_is, front_is, len) refl

pub split_none : (name back : List ℕ) (n : ℕ) → n ≡ prefix_len is_no_colon name → back ≡ drop n name → length back ≡ 0 → None ≡ split_of name
split_none name back n len back_is none = rw (none_by name back (ap (λ k. drop k name) (sym len) ∙ sym back_is) none) refl
