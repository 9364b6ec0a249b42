-- Scopes with their URIs, as more URIs are met.
use Rattle.std.proofs.Common.{◌≡◌, ℕ, ◌<◌, ◌≤◌, Bool, true, false, List, [], ◌∷◌, length, Option, Some, None, refl, sym, ap, ◌∙◌, subst, arith}
use Rattle.std.specs.Prelude.{codes, if◌then◌else◌}
use Rattle.std.specs.Option.{option_map, IfSome}
use Rattle.std.specs.Str.{bytes_eq}
use Rattle.tree_model.specs.XmlChars.{has_colon, before_colon, behind_colon, prefix_of}
use Rattle.tree_model.specs.XmlMeaning.{uri_of, element_uri, attr_uri}
use Rattle.xml_rows.specs.Numbers.{Begins, uri_at, split_of}
use Rattle.prefix_scopes.specs.Scoping.{Numbering, number_of}
use Rattle.xml_rows.specs.Scoping.{binding, scope_in, scopes_in, AreUris, EachAreUris}
use Rattle.xml_rows.proofs.Growing.{begins_at, begins_length}

pub scope_grown : (uris more : List (List ℕ)) (scope : List Numbering) → Begins uris more → AreUris (length uris) scope → scope_in more scope ≡ scope_in uris scope
scope_grown uris more [] begins are = refl
scope_grown uris more (bound ∷ scope) begins are =
    ap (λ uri. binding bound.0 uri ∷ scope_in more scope) (begins_at uris more bound.1 [] begins are.0)
    ∙ ap (λ l. binding bound.0 (uri_at uris bound.1) ∷ l) (scope_grown uris more scope begins are.1)

pub scopes_grown : (uris more : List (List ℕ)) (outer : List (List Numbering)) → Begins uris more → EachAreUris (length uris) outer → scopes_in more outer ≡ scopes_in uris outer
scopes_grown uris more [] begins are = refl
scopes_grown uris more (scope ∷ outer) begins are =
    ap (λ s. s ∷ scopes_in more outer) (scope_grown uris more scope begins are.0) ∙ ap (λ l. scope_in uris scope ∷ l) (scopes_grown uris more outer begins are.1)

uris_wider : (count more : ℕ) (scope : List Numbering) → count ≤ more → AreUris count scope → AreUris more scope
uris_wider count more [] le are = tt
uris_wider count more (bound ∷ scope) le are = (omega (arith, are.0), uris_wider count more scope le are.1)

pub uris_grown : (uris more : List (List ℕ)) (scope : List Numbering) → Begins uris more → AreUris (length uris) scope → AreUris (length more) scope
uris_grown uris more scope begins are = uris_wider (length uris) (length more) scope (begins_length uris more begins) are

pub each_grown : (uris more : List (List ℕ)) (outer : List (List Numbering)) → Begins uris more → EachAreUris (length uris) outer → EachAreUris (length more) outer
each_grown uris more [] begins are = tt
each_grown uris more (scope ∷ outer) begins are = (uris_grown uris more scope begins are.0, each_grown uris more outer begins are.1)

-- one prefix more
pub scope_bound : (uris more : List (List ℕ)) (scope bounds : List Numbering) (bound : Numbering) (uri : List ℕ) → Begins uris more → AreUris (length uris) scope → bounds ≡ bound ∷ scope → uri_at more bound.1 ≡ uri
    → scope_in more bounds ≡ binding bound.0 uri ∷ scope_in uris scope
scope_bound uris more scope bounds bound uri begins are is at =
    ap (scope_in more) is ∙ ap (λ u. binding bound.0 u ∷ scope_in more scope) at ∙ ap (λ l. binding bound.0 uri ∷ l) (scope_grown uris more scope begins are)

pub uris_bound : (uris more : List (List ℕ)) (scope bounds : List Numbering) (bound : Numbering) → Begins uris more → AreUris (length uris) scope → bounds ≡ bound ∷ scope → bound.1 < length more → AreUris (length more) bounds
uris_bound uris more scope bounds bound begins are is lt = subst (λ l. AreUris (length more) l) (sym is) (lt, uris_grown uris more scope begins are)

-- ---- the URI of a prefix

find_case : (b : Bool) (uris : List (List ℕ)) (n : ℕ) (rest : Option (List ℕ)) (found : Option ℕ) → rest ≡ option_map (uri_at uris) found → (if b then Some (uri_at uris n) else rest) ≡ option_map (uri_at uris) (if b then Some n else found)
find_case true uris n rest found is = refl
find_case false uris n rest found is = is

pub uri_found : (uris : List (List ℕ)) (scope : List Numbering) (prefix : List ℕ) → uri_of prefix (scope_in uris scope) ≡ option_map (uri_at uris) (number_of prefix scope)
uri_found uris [] prefix = refl
uri_found uris (bound ∷ scope) prefix = find_case (bytes_eq bound.0 prefix) uris bound.1 (uri_of prefix (scope_in uris scope)) (number_of prefix scope) (uri_found uris scope prefix)

within_case : (b : Bool) (count n : ℕ) (found : Option ℕ) → n < count → IfSome found (λ m. m < count) → IfSome (if b then Some n else found) (λ m. m < count)
within_case true count n found lt rest = lt
within_case false count n found lt rest = rest

pub number_within : (count : ℕ) (scope : List Numbering) (prefix : List ℕ) → AreUris count scope → IfSome (number_of prefix scope) (λ n. n < count)
number_within count [] prefix are = tt
number_within count (bound ∷ scope) prefix are = within_case (bytes_eq bound.0 prefix) count bound.1 (number_of prefix scope) are.0 (number_within count scope prefix are.1)

-- ---- the parts of a name

parts_case : (colon : Bool) (front back name : List ℕ) (x : List ℕ × List ℕ) → (let parts : List ℕ × List ℕ = (front, back) in if colon then Some parts else None) ≡ Some x → (colon ≡ true) × (front ≡ x.0) × (back ≡ x.1)
parts_case true front back name x is = (refl, cc, cc)
parts_case false front back name x is = absurd cc

pub parts_found : (name : List ℕ) (x : List ℕ × List ℕ) → split_of name ≡ Some x → (has_colon name ≡ true) × (before_colon name ≡ x.0) × (behind_colon name ≡ x.1)
parts_found name x is = parts_case (has_colon name) (before_colon name) (behind_colon name) name x is

none_case : (colon : Bool) (front back : List ℕ) → (let parts : List ℕ × List ℕ = (front, back) in if colon then Some parts else None) ≡ None → colon ≡ false
none_case true front back is = absurd cc
none_case false front back is = refl

pub parts_missed : (name : List ℕ) → split_of name ≡ None → has_colon name ≡ false
parts_missed name is = none_case (has_colon name) (before_colon name) (behind_colon name) is

-- ---- the URI of an element's name, and of an attribute's

prefixed : (name : List ℕ) (x : List ℕ × List ℕ) → split_of name ≡ Some x → prefix_of name ≡ x.0
prefixed name x is = let p = parts_found name x is in ap (λ b. if b then before_colon name else []) p.0 ∙ p.1

unprefixed : (name : List ℕ) → split_of name ≡ None → prefix_of name ≡ []
unprefixed name is = ap (λ b. if b then before_colon name else []) (parts_missed name is)

pub element_split : (uris : List (List ℕ)) (scope : List Numbering) (name : List ℕ) (x : List ℕ × List ℕ) (reserved : Bool) → split_of name ≡ Some x → bytes_eq x.0 (codes "xmlns") ≡ reserved
    → element_uri (scope_in uris scope) name ≡ option_map (uri_at uris) (if reserved then None else number_of x.0 scope)
unfolding element_uri
element_split uris scope name x reserved is test =
    ap (λ p. if bytes_eq p (codes "xmlns") then None else uri_of p (scope_in uris scope)) (prefixed name x is)
    ∙ ap (λ b. if b then None else uri_of x.0 (scope_in uris scope)) test ∙ by reserved
  where
    by : (b : Bool) → (if b then None else uri_of x.0 (scope_in uris scope)) ≡ option_map (uri_at uris) (if b then None else number_of x.0 scope)
    by true = refl
    by false = uri_found uris scope x.0

pub element_whole : (uris : List (List ℕ)) (scope : List Numbering) (name : List ℕ) → split_of name ≡ None → element_uri (scope_in uris scope) name ≡ option_map (uri_at uris) (number_of [] scope)
unfolding element_uri
element_whole uris scope name is = ap (λ p. if bytes_eq p (codes "xmlns") then None else uri_of p (scope_in uris scope)) (unprefixed name is) ∙ uri_found uris scope []

pub attribute_split : (uris : List (List ℕ)) (scope : List Numbering) (name : List ℕ) (x : List ℕ × List ℕ) → split_of name ≡ Some x → attr_uri (scope_in uris scope) name ≡ option_map (uri_at uris) (number_of x.0 scope)
unfolding attr_uri
attribute_split uris scope name x is =
    let p = parts_found name x is in
    ap (λ b. if b then uri_of (before_colon name) (scope_in uris scope) else Some []) p.0 ∙ ap (λ q. uri_of q (scope_in uris scope)) p.1 ∙ uri_found uris scope x.0

pub attribute_whole : (uris : List (List ℕ)) (scope : List Numbering) (name : List ℕ) (no_uri : ℕ) → split_of name ≡ None → uri_at uris no_uri ≡ [] → attr_uri (scope_in uris scope) name ≡ Some (uri_at uris no_uri)
unfolding attr_uri
attribute_whole uris scope name no_uri is empty = ap (λ b. if b then uri_of (before_colon name) (scope_in uris scope) else Some []) (parts_missed name is) ∙ ap Some (sym empty)
