-- The names of a tag in the order of the code, and the last first.
use Rattle.std.proofs.Common.{◌≡◌, ℕ, Bool, true, false, ◌||◌, List, [], ◌∷◌, ◌++◌, map, reverse, Option, refl, ap, ◌∙◌}
use Rattle.std.specs.List.{list_any}
use Rattle.std.specs.Str.{bytes_eq}
use Rattle.std.specs.HashSet.{HashSet}
use Rattle.std.proofs.lemmas.List.Folds.{list_any-append}
use Rattle.std.proofs.lemmas.List.{reverse-append, map-append}
use Rattle.tree_model.specs.XmlGood.{is_in}
use Rattle.xml_pieces.specs.View.{Bytes}
use Rattle.xml_order.specs.NamesView.{names_of, keys_in, names_in}

or_last : (a b : Bool) → (a || (b || false)) ≡ (b || a)
or_last true true = refl
or_last true false = refl
or_last false true = refl
or_last false false = refl

any_reverse : (p : List ℕ → Bool) (xs : List (List ℕ)) → list_any p (reverse xs) ≡ list_any p xs
any_reverse p [] = refl
any_reverse p (x ∷ xs) = ap (list_any p) (reverse-append (x ∷ []) xs) ∙ list_any-append p (reverse xs) (x ∷ []) ∙ ap (λ b. b || (p x || false)) (any_reverse p xs) ∙ or_last (list_any p xs) (p x)

any_map : (name : List ℕ) (names : List Bytes) → list_any (λ other. bytes_eq name other) (map (λ (n : Bytes). n.now) names) ≡ list_any (λ (other : Bytes). bytes_eq name other.now) names
any_map name [] = refl
any_map name (n ∷ names) = ap (λ b. bytes_eq name n.now || b) (any_map name names)

pub any_is : (name : List ℕ) (names : List Bytes) → is_in name (names_of names) ≡ list_any (λ (other : Bytes). bytes_eq name other.now) names
any_is name names = any_reverse (λ other. bytes_eq name other) (map (λ (n : Bytes). n.now) names) ∙ any_map name names

-- a name is among the first ones or among those behind them
pub in_either : {S : Type 0} (name : List ℕ) (few : List Bytes) (many : Option (HashSet Bytes S))
    → is_in name (names_in few many) ≡ (list_any (λ (other : Bytes). bytes_eq name other.now) few || list_any (λ (other : Bytes). bytes_eq name other.now) (keys_in many))
in_either name few many = any_is name (few ++ keys_in many) ∙ list_any-append (λ (other : Bytes). bytes_eq name other.now) few (keys_in many)

-- one more name
pub names_more : (names : List Bytes) (name : Bytes) → names_of (names ++ name ∷ []) ≡ name.now ∷ names_of names
names_more names name = ap reverse (map-append (λ (n : Bytes). n.now) names (name ∷ [])) ∙ reverse-append (map (λ (n : Bytes). n.now) names) (name.now ∷ [])
