-- Where the bindings of prefixes stand, as more come and go.
use Rattle.std.proofs.Common.{◌≡◌, ℕ, ◌<◌, Bool, true, false, cond, List, [], ◌∷◌, ◌++◌, length, reverse, get_or, Option, Some, None, IsSome, refl, sym, ap, ◌∙◌, subst, arith}
use Rattle.std.specs.Option.{option_flatten}
use Rattle.std.specs.Str.{bytes_eq}
use Rattle.std.proofs.lemmas.List.{reverse-append, reverse-reverse, length-reverse, get_or_append_left, get_or_push}
use Rattle.std.proofs.lemmas.Slice.Eq.{bytes_eq-Decides}
use Rattle.prefix_scopes.specs.Scoping.{number_of}
use Rattle.prefix_scopes.specs.Places.{Prefix, is_same_prefix, numberings_of, place_of, ArePlaced}
use Rattle.prefix_scopes.specs.declared.hashed.Binding.{Binding}

-- ---- what is found

within_case : (same : Bool) (outer len p : ℕ) (rest : Option ℕ) → outer < len → (rest ≡ Some p → p < len) → cond same (Some outer) rest ≡ Some p → p < len
within_case true outer len p rest lt more is = let e : outer ≡ p = cc in omega (arith, e, lt)
within_case false outer len p rest lt more is = more is

pub place_within : (prefix : List ℕ) (bindings : List Binding) (p : ℕ) → place_of prefix bindings ≡ Some p → p < length bindings
place_within prefix [] p is = absurd cc
place_within prefix (b ∷ outer) p is =
    within_case (bytes_eq b.prefix.now prefix) (length outer) (length (b ∷ outer)) p (place_of prefix outer) (omega arith) (λ e. omega (arith, place_within prefix outer p e)) is

none_case : (same : Bool) (outer n : ℕ) (rest number : Option ℕ) → (rest ≡ None → number ≡ None) → cond same (Some outer) rest ≡ None → cond same (Some n) number ≡ None
none_case true outer n rest number more is = absurd cc
none_case false outer n rest number more is = more is

pub place_missed : (prefix : List ℕ) (bindings : List Binding) → place_of prefix bindings ≡ None → number_of prefix (numberings_of bindings) ≡ None
place_missed prefix [] is = refl
place_missed prefix (b ∷ outer) is =
    none_case (bytes_eq b.prefix.now prefix) (length outer) b.number (place_of prefix outer) (number_of prefix (numberings_of outer)) (place_missed prefix outer) is

-- the binding at a place from the outermost one on
abbrev binding_at : List Binding → ℕ → Binding → Binding
binding_at bindings p d = get_or (reverse bindings) p d

at_front : (b d : Binding) (outer : List Binding) → binding_at (b ∷ outer) (length outer) d ≡ b
at_front b d outer = ap (λ l. get_or l (length outer) d) (reverse-append (b ∷ []) outer) ∙ get_or_push (reverse outer) b d (length outer) (length-reverse outer)

at_rest : (b d : Binding) (outer : List Binding) (p : ℕ) → p < length outer → binding_at (b ∷ outer) p d ≡ binding_at outer p d
at_rest b d outer p lt =
    let within : p < length (reverse outer) = omega (arith, lt, length-reverse outer) in
    ap (λ l. get_or l p d) (reverse-append (b ∷ []) outer) ∙ get_or_append_left (reverse outer) (b ∷ []) d p within

found_case : (same : Bool) (b d : Binding) (outer : List Binding) (p : ℕ) (rest number : Option ℕ) → (rest ≡ Some p → (number ≡ Some (binding_at outer p d).number) × (p < length outer)) → cond same (Some (length outer)) rest ≡ Some p
    → cond same (Some b.number) number ≡ Some (binding_at (b ∷ outer) p d).number
found_case true b d outer p rest number more is = let e : length outer ≡ p = cc in sym (ap (λ (x : Binding). Some x.number) (ap (λ n. binding_at (b ∷ outer) n d) (sym e) ∙ at_front b d outer))
found_case false b d outer p rest number more is = (more is).0 ∙ sym (ap (λ (x : Binding). Some x.number) (at_rest b d outer p (more is).1))

pub place_found : (prefix : List ℕ) (bindings : List Binding) (p : ℕ) (d : Binding) → place_of prefix bindings ≡ Some p → number_of prefix (numberings_of bindings) ≡ Some (binding_at bindings p d).number
place_found prefix [] p d is = absurd cc
place_found prefix (b ∷ outer) p d is =
    found_case (bytes_eq b.prefix.now prefix) b d outer p (place_of prefix outer) (number_of prefix (numberings_of outer)) (λ e. (place_found prefix outer p d e, place_within prefix outer p e)) is

-- the same of bindings of which the innermost stands last
pub place_inside : (prefix : List ℕ) (items : List Binding) (p : ℕ) → place_of prefix (reverse items) ≡ Some p → p < length items
place_inside prefix items p is = omega (arith, place_within prefix (reverse items) p is, length-reverse items)

pub place_number : (prefix : List ℕ) (items : List Binding) (p : ℕ) (b : Binding) → place_of prefix (reverse items) ≡ Some p → b ≡ get_or items p b → number_of prefix (numberings_of (reverse items)) ≡ Some b.number
place_number prefix items p b is at =
    place_found prefix (reverse items) p b is ∙ ap (λ (x : Binding). Some x.number) (ap (λ l. get_or l p b) (reverse-reverse items) ∙ sym at)

-- ---- the innermost binding goes

same_self : (prefix : List ℕ) → bytes_eq prefix prefix ≡ true
same_self prefix = (bytes_eq-Decides prefix prefix).1 refl

told_case : (same : Bool) (prefix other : List ℕ) (before : Option ℕ) (place : ℕ) (outer : List Binding) (look look' : Option (Option ℕ)) → bytes_eq prefix other ≡ same → before ≡ place_of prefix outer
    → look' ≡ cond same (Some before) look → option_flatten look ≡ cond same (Some place) (place_of other outer) → option_flatten look' ≡ place_of other outer
told_case true prefix other before place outer look look' same is now told =
    ap option_flatten now ∙ is ∙ ap (λ p. place_of p outer) ((bytes_eq-Decides prefix other).0 same)
told_case false prefix other before place outer look look' same is now told = ap option_flatten now ∙ told

pub placed_pop : (look look' : Prefix → Option (Option ℕ)) (b : Binding) (outer : List Binding) → ArePlaced look (b ∷ outer)
    → ((other : Prefix) → look' other ≡ cond (is_same_prefix b.prefix other) (Some b.before) (look other)) → ArePlaced look' outer
placed_pop look look' b outer placed now = record {
  linked = placed.linked.1;
  told = λ other. told_case (is_same_prefix b.prefix other) b.prefix.now other.now b.before (length outer) outer (look other) (look' other) refl placed.linked.0 (now other) (placed.told other);
}

-- each binding's prefix is in the map
is_in_map : (look : Prefix → Option (Option ℕ)) (b : Binding) (outer : List Binding) → ArePlaced look (b ∷ outer) → option_flatten (look b.prefix) ≡ Some (length outer)
is_in_map look b outer placed = placed.told b.prefix ∙ ap (λ same. cond same (Some (length outer)) (place_of b.prefix.now outer)) (same_self b.prefix.now)

some_flat : (o : Option (Option ℕ)) (p : ℕ) → option_flatten o ≡ Some p → IsSome o
some_flat None p is = absurd cc
some_flat (Some place) p is = refl

pub innermost_some : (look : Prefix → Option (Option ℕ)) (b : Binding) (outer : List Binding) → ArePlaced look (b ∷ outer) → IsSome (look b.prefix)
innermost_some look b outer placed = some_flat (look b.prefix) (length outer) (is_in_map look b outer placed)

-- the last of the bindings in a row is the innermost
pub placed_push : (look : Prefix → Option (Option ℕ)) (items more : List Binding) (b : Binding) → more ≡ items ++ b ∷ [] → ArePlaced look (reverse more) → ArePlaced look (b ∷ reverse items)
placed_push look items more b is placed = subst (λ l. ArePlaced look l) (ap reverse is ∙ reverse-append items (b ∷ [])) placed
