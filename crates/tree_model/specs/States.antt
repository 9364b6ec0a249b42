-- What the commands of a script work on.
use Rattle.std.specs.Prelude.{◌≡◌, ℕ, Bool, true, not, nat_le, ◌||◌, ◌&&◌, ◌==◌, List, [], ◌∷◌, ◌++◌, filter, length, codes, Option, Some, None, if◌then◌else◌}
use Rattle.std.specs.List.{list_all, slice_get}
use Rattle.std.specs.Str.{bytes_eq}
use Rattle.std.specs.Char.{is_ascii_alphanumeric}
use Rattle.tree_model.specs.Forest.{Forest, none, tree, count}
use Rattle.tree_model.specs.Labels.{Label}

-- a database: its name, the next id, its documents, and which indexes it has
pub record Base : Type 0 where
  pub name : List ℕ
  pub next : ℕ
  pub documents : Forest Label
  pub has_text_index : Bool
  pub has_attribute_index : Bool

-- the databases in order of making, and the place of the open one
pub record State : Type 0 where
  pub bases : List Base
  pub opened : Option ℕ

abbrev pub no_bases : State
no_bases = record { bases = []; opened = None }

-- ---- databases and their names

abbrev pub is_base_name_char : ℕ → Bool
is_base_name_char c = is_ascii_alphanumeric c || c == 95 || c == 45

-- 1 to 64 ASCII letters, digits, _ or -
abbrev pub is_base_name : List ℕ → Bool
is_base_name name = nat_le 1 (length name) && nat_le (length name) 64 && list_all is_base_name_char name

-- the path of a document that is given as XML text
abbrev pub default_path : List ℕ → List ℕ
default_path name = name ++ codes ".xml"

-- the document under a path, by itself
abbrev pub document_under : List ℕ → Forest Label → Option (Forest Label)
document_under path none = None
document_under path (tree label attrs kids rest) = if bytes_eq label.value path then Some (tree label attrs kids none) else document_under path rest

-- a new database with these documents, whose ids begin at 0, and with both indexes
abbrev pub new_base : List ℕ → Forest Label → Base
new_base name f = record { name = name; next = count f; documents = f; has_text_index = true; has_attribute_index = true }

abbrev pub without_name : List ℕ → List Base → List Base
without_name name bases = filter (λ (b : Base). not (bytes_eq b.name name)) bases

-- the base is the last one and is open; one of its name that was there is gone
abbrev pub with_new : Base → State → State
with_new base state = record { bases = without_name base.name state.bases ++ base ∷ []; opened = Some (length (without_name base.name state.bases)) }

-- the base is the open one
abbrev pub IsOpened : State → Base → Type 0
IsOpened state base = (place : ℕ) × (state.opened ≡ Some place) × (slice_get state.bases place ≡ Some base)
