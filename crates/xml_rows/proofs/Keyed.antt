-- Expanded names as the keys of a set.
use Rattle.std.proofs.Common.{◌≡◌, ℕ, ◌+◌, ◌<◌, Bool, true, false, List, [], ◌∷◌, ◌++◌, length, map, reverse, take, drop, get_or, ◌||◌, ◌&&◌, ◌==◌, not, refl, sym, ap, ◌∙◌, subst}
use Rattle.std.specs.Prelude.{if◌then◌else◌}
use Rattle.std.specs.List.{list_any}
use Rattle.std.specs.Str.{bytes_eq}
use Rattle.std.proofs.lemmas.Bool.{false≢true}
use Rattle.std.proofs.lemmas.List.{map_more, map_push}
use Rattle.tree_model.specs.XmlMeaning.{is_pair_in, has_twice}
use Rattle.xml_rows.specs.Known.{Key, is_same_key, key_of, AreKeys}
use Rattle.xml_rows.specs.Numbers.{uri_at}
use Rattle.xml_rows.specs.Tagging.{expanded_of, all_expanded}
use Rattle.xml_rows.specs.declared.tag.Expanded.{Expanded}
use Rattle.xml_rows.proofs.Twice.{found_here, found_more}

-- no two URIs are equal
abbrev Distinct : List (List ℕ) → Type 0
Distinct uris = (a b : ℕ) → a < length uris → b < length uris → (a == b) ≡ bytes_eq (uri_at uris a) (uri_at uris b)

any_key : (uris : List (List ℕ)) (key : Key) (keys : List Key) → Distinct uris → key.0 < length uris → AreKeys (length uris) keys → list_any (is_same_key key) keys ≡ is_pair_in (key_of uris key) (map (key_of uris) keys)
any_key uris key [] distinct lt are = refl
any_key uris key (other ∷ keys) distinct lt are =
    ap (λ b. (b && bytes_eq key.1.now other.1.now) || list_any (is_same_key key) keys) (distinct key.0 other.0 lt are.0)
    ∙ ap (λ b. (bytes_eq (uri_at uris key.0) (uri_at uris other.0) && bytes_eq key.1.now other.1.now) || b) (any_key uris key keys distinct lt are.1)

keys_push : (count : ℕ) (keys : List Key) (key : Key) → AreKeys count keys → key.0 < count → AreKeys count (keys ++ key ∷ [])
keys_push count [] key are lt = (lt, tt)
keys_push count (other ∷ keys) key are lt = (are.0, keys_push count keys key are.1 lt)

-- what the set keeps before the attribute at an index
pub record IsSeen (uris : List (List ℕ)) (found : List Expanded) (keys : List Key) (i : ℕ) (whole : Bool) : Type 0 where
  pub pairs : map (key_of uris) keys ≡ all_expanded uris (take i found)
  pub in_use : AreKeys (length uris) keys
  pub sofar : has_twice (reverse (all_expanded uris (take i found))) (all_expanded uris (drop i found)) ≡ whole

here_is : (uris : List (List ℕ)) (found : List Expanded) (keys : List Key) (i : ℕ) (whole : Bool) (key : Key) (d : Expanded) → Distinct uris → key.0 < length uris → key_of uris key ≡ expanded_of uris (get_or found i d) → IsSeen uris found keys i whole
    → is_pair_in (expanded_of uris (get_or found i d)) (all_expanded uris (take i found)) ≡ list_any (is_same_key key) keys
here_is uris found keys i whole key d distinct lt is seen =
    sym (any_key uris key keys distinct lt seen.in_use ∙ ap (λ p. is_pair_in p (map (key_of uris) keys)) is ∙ ap (is_pair_in (expanded_of uris (get_or found i d))) seen.pairs)

pub seen_here : (uris : List (List ℕ)) (found : List Expanded) (keys : List Key) (i : ℕ) (whole : Bool) (key : Key) (d : Expanded) → Distinct uris → i < length found → key.0 < length uris → key_of uris key ≡ expanded_of uris (get_or found i d)
    → IsSeen uris found keys i whole → false ≡ not (list_any (is_same_key key) keys) → true ≡ whole
seen_here uris found keys i whole key d distinct within lt is seen old =
    found_here uris found (take i found) i d whole within refl (here_is uris found keys i whole key d distinct lt is seen ∙ by (list_any (is_same_key key) keys) old) seen.sofar
  where
    by : (b : Bool) → false ≡ not b → b ≡ true
    by true e = refl
    by false e = absurd (false≢true e)

pub seen_more : (uris : List (List ℕ)) (found : List Expanded) (keys more : List Key) (i : ℕ) (whole : Bool) (key : Key) (d : Expanded) → Distinct uris → i < length found → key.0 < length uris → key_of uris key ≡ expanded_of uris (get_or found i d)
    → IsSeen uris found keys i whole → true ≡ not (list_any (is_same_key key) keys) → more ≡ (if list_any (is_same_key key) keys then keys else keys ++ key ∷ []) → IsSeen uris found more (i + 1) whole
seen_more uris found keys more i whole key d distinct within lt is seen new more_is =
    let fresh : list_any (is_same_key key) keys ≡ false = by (list_any (is_same_key key) keys) new in
    let grown : more ≡ keys ++ key ∷ [] = more_is ∙ ap (λ b. if b then keys else keys ++ key ∷ []) fresh in
    record {
      pairs = ap (map (key_of uris)) grown ∙ map_push (key_of uris) keys key ∙ ap (λ l. l ++ key_of uris key ∷ []) seen.pairs ∙ ap (λ p. all_expanded uris (take i found) ++ p ∷ []) is ∙ sym (map_more (expanded_of uris) found i d within);
      in_use = subst (λ l. AreKeys (length uris) l) (sym grown) (keys_push (length uris) keys key seen.in_use lt);
      sofar = found_more uris found (take i found) i d whole within refl (here_is uris found keys i whole key d distinct lt is seen ∙ fresh) seen.sofar;
    }
  where
    by : (b : Bool) → true ≡ not b → b ≡ false
    by true e = absurd (false≢true (sym e))
    by false e = refl
