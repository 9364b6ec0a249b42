-- Files as a map from names to bytes, what a read and a write of one do, and when each may fail.
use Rattle.std.specs.Prelude.{◌≡◌, ◌≢◌, ℕ, ◌<◌, ◌≤◌, Bool, true, ◌&&◌, is_none, List, [], ◌∷◌, length, option_map, IfSome, IsSomeAnd, Option, Some, None, if◌then◌else◌}
use Rattle.std.specs.Str.{bytes_eq}
use Rattle.outer_io.specs.Outer.{Rose}
use Rattle.outer_io.specs.declared.files.FileRead.{FileRead}
use Rattle.outer_io.specs.declared.files.FileRead.TheVariants as read
use Rattle.outer_io.specs.declared.files.FileWrite.{FileWrite}
use Rattle.outer_io.specs.declared.files.FileWrite.TheVariants as write

-- a file: its name and its bytes
pub record Entry : Type 0 where
  pub name : List ℕ
  pub bytes : List ℕ

-- the bytes under a name, of the first entry that has it
abbrev pub file_in : List ℕ → List Entry → Option (List ℕ)
file_in name [] = None
file_in name (entry ∷ more) = if bytes_eq entry.name name then Some entry.bytes else file_in name more

-- the entries with these bytes under a name: in the place of the first entry that has it, and behind all others where none has it
abbrev pub with_file : List ℕ → List ℕ → List Entry → List Entry
with_file name bytes [] = record { name = name; bytes = bytes } ∷ []
with_file name bytes (entry ∷ more) = if bytes_eq entry.name name then record entry { bytes = bytes } ∷ more else entry ∷ with_file name bytes more

-- no two entries have one name
abbrev pub have_different_names : List Entry → Bool
have_different_names [] = true
have_different_names (entry ∷ more) = is_none (file_in entry.name more) && have_different_names more

-- what is seen of files: the map, where it is told, and how often a call failed, how often a read found no file, and how often one found too many bytes
pub record FilesSeen : Type 0 where
  pub map : Option (List Entry)
  pub faults : ℕ
  pub misses : ℕ
  pub overlong : ℕ

-- no count has fallen
pub record NoneFell (before now : FilesSeen) : Type 0 where
  pub faults : before.faults ≤ now.faults
  pub misses : before.misses ≤ now.misses
  pub overlong : before.overlong ≤ now.overlong

-- what a read of at most so many bytes found, by its answer
abbrev pub FileReadDid : FilesSeen → FilesSeen → List ℕ → ℕ → FileRead → Type 0
FileReadDid before now name limit (read.Bytes bytes) = (length bytes.items ≤ limit) × IfSome before.map (λ entries. file_in name entries ≡ Some bytes.items)
FileReadDid before now name limit read.Missing = Rose before.misses now.misses × IfSome before.map (λ entries. file_in name entries ≡ None)
FileReadDid before now name limit read.TooLong =
    Rose before.overlong now.overlong × IfSome before.map (λ entries. IsSomeAnd (file_in name entries) (λ bytes. limit < length bytes))
FileReadDid before now name limit read.Failed = Rose before.faults now.faults
FileReadDid before now name limit read.NoMemory = Unit {0}

-- a read changes no file
pub record FileReads (before now : FilesSeen) (name : List ℕ) (limit : ℕ) (answer : FileRead) : Type 0 where
  pub same : now.map ≡ before.map
  pub later : NoneFell before now
  pub did : FileReadDid before now name limit answer

-- what stands under any other name stays, and whether the map is told
abbrev pub OthersStay : List ℕ → Option (List Entry) → Option (List Entry) → Type 0
OthersStay name None None = Unit {0}
OthersStay name None (Some new) = ⊥
OthersStay name (Some old) None = ⊥
OthersStay name (Some old) (Some new) = (other : List ℕ) → other ≢ name → file_in other new ≡ file_in other old

-- what a write did, by its answer
abbrev pub FileWriteDid : FilesSeen → FilesSeen → List ℕ → List ℕ → FileWrite → Type 0
FileWriteDid before now name bytes write.Done = now.map ≡ option_map (with_file name bytes) before.map
FileWriteDid before now name bytes write.Failed = Rose before.faults now.faults × OthersStay name before.map now.map
FileWriteDid before now name bytes write.NoMemory = now.map ≡ before.map

pub record FileWrites (before now : FilesSeen) (name bytes : List ℕ) (answer : FileWrite) : Type 0 where
  pub later : NoneFell before now
  pub did : FileWriteDid before now name bytes answer
