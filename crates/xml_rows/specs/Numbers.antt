-- Names and URIs by their numbers.
use Rattle.std.specs.Prelude.{◌≡◌, ℕ, ◌<◌, List, [], length, take, Option, Some, None, if◌then◌else◌}
use Rattle.std.specs.List.{slice_index_or}
use Rattle.tree_model.specs.Rows.{name_at}
use Rattle.tree_model.specs.XmlChars.{has_colon, before_colon, behind_colon, prefix_of, local_of}
use Rattle.tree_model.specs.declared.text.Name.{Name}

-- the list only grew at its end
abbrev pub Begins : {A : Type 0} → List A → List A → Type 0
Begins old new = take (length old) new ≡ old

abbrev pub uri_at : List (List ℕ) → ℕ → List ℕ
uri_at uris n = slice_index_or uris n []

-- the names and the URIs in the order of their numbers
pub record Numbered : Type 0 where
  pub names : List Name
  pub uris : List (List ℕ)

-- a name as it is written, in the namespace of a URI
abbrev pub name_in : List ℕ → List ℕ → Name
name_in uri written = record { uri = uri; prefix = prefix_of written; local = local_of written }

-- the parts before and behind the colon
abbrev pub split_of : List ℕ → Option (List ℕ × List ℕ)
split_of name = if has_colon name then Some (before_colon name, behind_colon name) else None

-- the number is that of a name as it is written, in the namespace of a URI with a number
pub record IsNumber (names : List Name) (uris : List (List ℕ)) (uri : ℕ) (written : List ℕ) (n : ℕ) : Type 0 where
  pub name_in_use : n < length names
  pub uri_in_use : uri < length uris
  pub name : name_at names n ≡ name_in (uri_at uris uri) written
