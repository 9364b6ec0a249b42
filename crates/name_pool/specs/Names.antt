-- The names of a pool, in the order of their numbers.
use Rattle.std.specs.Prelude.{◌≡◌, ℕ, ◌<◌, Bool, true, ◌&&◌, List, [], ◌∷◌, ◌++◌, length, if◌then◌else◌}
use Rattle.std.specs.List.{list_any}
use Rattle.std.specs.Str.{bytes_eq}
use Rattle.std.proofs.lemmas.Bool.{and_parts}
use Rattle.std.proofs.lemmas.Slice.Eq.{bytes_eq-Decides}
use Rattle.tree_model.specs.Rows.{name_at}
use Rattle.tree_model.specs.declared.text.Name.{Name}

-- equal in all three parts
abbrev pub are_equal_names : Name → Name → Bool
are_equal_names a b = bytes_eq a.uri b.uri && (bytes_eq a.prefix b.prefix && bytes_eq a.local b.local)

pub same_names : (a b : Name) → are_equal_names a b ≡ true → a ≡ b
same_names a b h =
    let uri = and_parts (bytes_eq a.uri b.uri) (bytes_eq a.prefix b.prefix && bytes_eq a.local b.local) h in
    let others = and_parts (bytes_eq a.prefix b.prefix) (bytes_eq a.local b.local) uri.1 in
    let e1 = (bytes_eq-Decides a.uri b.uri).0 uri.0 in
    let e2 = (bytes_eq-Decides a.prefix b.prefix).0 others.0 in
    let e3 = (bytes_eq-Decides a.local b.local).0 others.1 in
    λ i. record { uri = e1 i; prefix = e2 i; local = e3 i }

abbrev pub name_of : List ℕ → List ℕ → List ℕ → Name
name_of uri prefix local = record { uri = uri; prefix = prefix; local = local }

-- the names with one more behind them, unless it is among them
unfoldable pub with_name : List Name → Name → List Name
with_name names name = if list_any (are_equal_names name) names then names else names ++ name ∷ []

-- the number is in use, and the name has it
abbrev pub HasNumber : List Name → Name → ℕ → Type 0
HasNumber names name n = (n < length names) × (name_at names n ≡ name)

-- a name has one number at most
abbrev pub AreDistinct : List Name → Type 0
AreDistinct names = (i j : ℕ) → i < length names → j < length names → name_at names i ≡ name_at names j → i ≡ j
