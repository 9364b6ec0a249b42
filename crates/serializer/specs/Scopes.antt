-- The bindings of open elements, the innermost first, and the scope that they make.
use Rattle.std.specs.Prelude.{◌≡◌, ◌<◌, ◌==◌, ℕ, List, [], ◌∷◌, ◌++◌, drop, map, filter, not}
use Rattle.std.specs.List.{prefix_len}
use Rattle.tree_model.specs.Printing.{behind}
use Rattle.tree_model.specs.Sound.{is_empty}
use Rattle.tree_model.specs.XmlMeaning.{Pair, Scope, first_scope}
use Rattle.tree_model.specs.declared.text.Name.{Name}

-- a prefix and its URI, bound by the element at a place
pub record InForce : Type 0 where
  pub place : ℕ
  pub pair : Pair

abbrev pub pairs_of : List InForce → List Pair
pairs_of bindings = map (λ (b : InForce). b.pair) bindings

-- what is in scope where they are in force
abbrev pub scope_of : List InForce → Scope
scope_of bindings = pairs_of bindings ++ first_scope

-- all but the innermost ones that the element at a place made
abbrev pub outside : ℕ → List InForce → List InForce
outside place bindings = drop (prefix_len (λ (b : InForce). b.place == place) bindings) bindings

-- those names that have a prefix
abbrev pub with_prefix : List Name → List Name
with_prefix names = filter (λ (name : Name). not (is_empty name.prefix)) names

-- all were made by the element at a place
abbrev pub AreAt : ℕ → List InForce → Type 0
AreAt place [] = Unit {0}
AreAt place (b ∷ bindings) = (b.place ≡ place) × AreAt place bindings

-- all were made by elements before it
abbrev pub AreAbout : ℕ → List InForce → Type 0
AreAbout place [] = Unit {0}
AreAbout place (b ∷ bindings) = (b.place < place) × AreAbout place bindings

-- an element at a place makes these declarations
pub record Declares (place : ℕ) (declared : List Pair) (old new : List InForce) : Type 0 where
  pub own : List InForce
  pub is : new ≡ own ++ old
  pub at : AreAt place own
  pub scope : scope_of new ≡ behind declared (scope_of old)
