-- Pairs that stand twice in a list.
use Rattle.std.proofs.Common.{◌≡◌, ℕ, ◌+◌, ◌<◌, Bool, true, false, List, [], ◌∷◌, ◌++◌, length, reverse, take, drop, get_or, ◌||◌, refl, sym, ap, ◌∙◌}
use Rattle.std.specs.List.{list_any}
use Rattle.std.proofs.Math.Bool.{or_comm, or-false}
use Rattle.std.proofs.lemmas.List.{reverse-append, map_more, drop_more}
use Rattle.std.proofs.lemmas.List.Folds.{list_any-append}
use Rattle.tree_model.specs.XmlMeaning.{Pair, is_same_pair, is_pair_in, has_twice}
use Rattle.xml_rows.specs.Tagging.{expanded_of, all_expanded}
use Rattle.xml_rows.specs.declared.tag.Expanded.{Expanded}

any_reverse : {A : Type 0} (p : A → Bool) (xs : List A) → list_any p (reverse xs) ≡ list_any p xs
any_reverse p [] = refl
any_reverse p (x ∷ xs) =
    ap (list_any p) (reverse-append (x ∷ []) xs) ∙ list_any-append p (reverse xs) (x ∷ []) ∙ ap (λ b. b || (p x || false)) (any_reverse p xs)
    ∙ ap (λ b. list_any p xs || b) (or-false (p x)) ∙ or_comm (list_any p xs) (p x)

-- the next pair is among those before it
pub twice_here : (front tail : List Pair) (p : Pair) (whole : Bool) → is_pair_in p front ≡ true → has_twice (reverse front) (p ∷ tail) ≡ whole → true ≡ whole
twice_here front tail p whole is sofar = sym (ap (λ b. b || has_twice (p ∷ reverse front) tail) (any_reverse (is_same_pair p) front ∙ is)) ∙ sofar

-- or it isn't
pub twice_more : (front tail : List Pair) (p : Pair) (whole : Bool) → is_pair_in p front ≡ false → has_twice (reverse front) (p ∷ tail) ≡ whole → has_twice (reverse (front ++ p ∷ [])) tail ≡ whole
twice_more front tail p whole is sofar =
    ap (λ l. has_twice l tail) (reverse-append front (p ∷ [])) ∙ sym (ap (λ b. b || has_twice (p ∷ reverse front) tail) (any_reverse (is_same_pair p) front ∙ is)) ∙ sofar

-- ---- the expanded names of the code, up to an index

rest_is : (uris : List (List ℕ)) (found : List Expanded) (i : ℕ) (d : Expanded) → i < length found → all_expanded uris (drop i found) ≡ expanded_of uris (get_or found i d) ∷ all_expanded uris (drop (i + 1) found)
rest_is uris found i d lt = ap (all_expanded uris) (drop_more found i d lt)

pub found_here : (uris : List (List ℕ)) (found front : List Expanded) (i : ℕ) (d : Expanded) (whole : Bool) → i < length found → front ≡ take i found → is_pair_in (expanded_of uris (get_or found i d)) (all_expanded uris front) ≡ true
    → has_twice (reverse (all_expanded uris (take i found))) (all_expanded uris (drop i found)) ≡ whole → true ≡ whole
found_here uris found front i d whole lt front_is is sofar =
    twice_here (all_expanded uris (take i found)) (all_expanded uris (drop (i + 1) found)) (expanded_of uris (get_or found i d)) whole (ap (λ l. is_pair_in (expanded_of uris (get_or found i d)) (all_expanded uris l)) (sym front_is) ∙ is)
    (ap (has_twice (reverse (all_expanded uris (take i found)))) (sym (rest_is uris found i d lt)) ∙ sofar)

pub found_more : (uris : List (List ℕ)) (found front : List Expanded) (i : ℕ) (d : Expanded) (whole : Bool) → i < length found → front ≡ take i found → is_pair_in (expanded_of uris (get_or found i d)) (all_expanded uris front) ≡ false
    → has_twice (reverse (all_expanded uris (take i found))) (all_expanded uris (drop i found)) ≡ whole → has_twice (reverse (all_expanded uris (take (i + 1) found))) (all_expanded uris (drop (i + 1) found)) ≡ whole
found_more uris found front i d whole lt front_is is sofar =
    ap (λ l. has_twice (reverse l) (all_expanded uris (drop (i + 1) found))) (map_more (expanded_of uris) found i d lt)
    ∙ twice_more (all_expanded uris (take i found)) (all_expanded uris (drop (i + 1) found)) (expanded_of uris (get_or found i d)) whole (ap (λ l. is_pair_in (expanded_of uris (get_or found i d)) (all_expanded uris l)) (sym front_is) ∙ is)
    (ap (has_twice (reverse (all_expanded uris (take i found)))) (sym (rest_is uris found i d lt)) ∙ sofar)
