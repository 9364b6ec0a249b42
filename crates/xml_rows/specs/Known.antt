-- The names that were met, by the number of their URI and as they are written.
use Rattle.std.specs.Prelude.{◌≡◌, ℕ, ◌<◌, Bool, List, [], ◌∷◌, length, ◌&&◌, ◌==◌, Option, IfSome}
use Rattle.std.specs.Str.{bytes_eq}
use Rattle.tree_model.specs.Labels.{local_name}
use Rattle.tree_model.specs.Rows.{name_at}
use Rattle.tree_model.specs.XmlMeaning.{Pair}
use Rattle.tree_model.specs.declared.text.Name.{Name}
use Rattle.xml_rows.specs.Numbers.{IsNumber, uri_at}
use Rattle.xml_rows.specs.Words.{Bytes}

abbrev pub Key : Type 0
Key = ℕ × Bytes

abbrev pub is_same_key : Key → Key → Bool
is_same_key a b = (a.0 == b.0) && bytes_eq a.1.now b.1.now

-- what is found at a key is the number of its name
abbrev pub AreKnown : List Name → List (List ℕ) → (Key → Option ℕ) → Type 0
AreKnown names uris look = (uri : ℕ) (written : Bytes) → IfSome (look (uri, written)) (IsNumber names uris uri written.now)

-- besides, these are the numbers of the name and of the URI without bytes
pub record AreNumbered (names : List Name) (uris : List (List ℕ)) (look : Key → Option ℕ) (unnamed no_uri : ℕ) : Type 0 where
  pub known : AreKnown names uris look
  pub unnamed_in_use : unnamed < length names
  pub unnamed_name : name_at names unnamed ≡ local_name []
  pub no_uri_in_use : no_uri < length uris
  pub no_uri_text : uri_at uris no_uri ≡ []

-- a URI and a local part by a key
abbrev pub key_of : List (List ℕ) → Key → Pair
key_of uris key = (uri_at uris key.0, key.1.now)

abbrev pub AreKeys : ℕ → List Key → Type 0
AreKeys count [] = Unit {0}
AreKeys count (key ∷ keys) = (key.0 < count) × AreKeys count keys
