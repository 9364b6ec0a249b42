-- Prefixes in scope, with the numbers of their URIs.
use Rattle.std.specs.Prelude.{ℕ, ◌-◌, ◌<◌, ◌≤◌, List, [], ◌∷◌, drop, length, map}
use Rattle.tree_model.specs.XmlMeaning.{Pair, Scope}
use Rattle.prefix_scopes.specs.Scoping.{Numbering}
use Rattle.xml_rows.specs.Numbers.{uri_at}

-- the prefixes in scope, and those outside of each open element; the innermost stands first
pub record Scoped : Type 0 where
  pub scope : List Numbering
  pub outer : List (List Numbering)

abbrev pub binding : List ℕ → List ℕ → Pair
binding prefix uri = (prefix, uri)

-- with the URIs themselves
abbrev pub scope_in : List (List ℕ) → List Numbering → Scope
scope_in uris scope = map (λ (bound : Numbering). binding bound.0 (uri_at uris bound.1)) scope

abbrev pub scopes_in : List (List ℕ) → List (List Numbering) → List Scope
scopes_in uris outer = map (scope_in uris) outer

-- each number is one of a URI
abbrev pub AreUris : ℕ → List Numbering → Type 0
AreUris count [] = Unit {0}
AreUris count (bound ∷ scope) = (bound.1 < count) × AreUris count scope

abbrev pub EachAreUris : ℕ → List (List Numbering) → Type 0
EachAreUris count [] = Unit {0}
EachAreUris count (scope ∷ outer) = AreUris count scope × EachAreUris count outer

-- ---- as the code keeps them

-- so many bindings, from the outermost on
abbrev pub outermost : ℕ → List Numbering → List Numbering
outermost n scope = drop (length scope - n) scope

-- what was in scope outside of each open element
abbrev pub outer_of : List Numbering → List ℕ → List (List Numbering)
outer_of scope lens = map (λ n. outermost n scope) lens

-- none of them is longer than the one inside
abbrev pub AreNested : ℕ → List ℕ → Type 0
AreNested len [] = Unit {0}
AreNested len (n ∷ lens) = (n ≤ len) × AreNested n lens
