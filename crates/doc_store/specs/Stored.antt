-- Databases and branches as their fields, the bases that they stand for, and what calls make of them.
use Rattle.std.specs.Prelude.{◌≡◌, ◌⊎◌, ℕ, ◌+◌, ◌-◌, ◌^◌, ◌<◌, ◌≤◌, Bool, true, false, List, [], length, take, codes}
use Rattle.frame_pool.specs.Frames.{Held}
use Rattle.tree_model.specs.Forest.{Forest, Line}
use Rattle.tree_model.specs.Ids.{ids_of}
use Rattle.tree_model.specs.Labels.{Label}
use Rattle.tree_model.specs.Rows.{ArePlaced}
use Rattle.tree_model.specs.Sound.{IsSound, IsLoose}
use Rattle.tree_model.specs.States.{Base}
use Rattle.tree_model.specs.CodeTexts.{text_of_code}
use Rattle.tree_model.specs.declared.code.Refusal.{Refusal}
use Rattle.tree_model.specs.declared.code.Refusal.TheVariants as refusal
use Rattle.tree_model.specs.declared.row.Row.{Row}
use Rattle.tree_model.specs.declared.text.Name.{Name}
use Rattle.node_table.specs.Tables.{rows_in, IsIn}
use Rattle.node_table.specs.Views.{TableView, view_of, view_lines, view_forest, KeepsTrees}
use Rattle.doc_store.specs.Moving.{HasMore}

-- a database: its name, the next id, its table with the table's pool, the ids of its rows, their names and the bytes of their values, and
-- whether a branch is out
pub record Stored : Type 0 where
  pub name : List ℕ
  pub next : ℕ
  pub table : List Row
  pub pool : List (Held Row)
  pub ids : List ℕ
  pub names : List Name
  pub values : List ℕ
  pub branched : Bool

abbrev pub stored : List ℕ → ℕ → List Row → List (Held Row) → List ℕ → List Name → List ℕ → Bool → Stored
stored name next table pool ids names values branched =
    record { name = name; next = next; table = table; pool = pool; ids = ids; names = names; values = values; branched = branched }

abbrev pub stored_rows : Stored → List Row
stored_rows d = rows_in d.pool d.table

abbrev pub stored_view : Stored → TableView
stored_view d = view_of (stored_rows d) d.names d.values

abbrev pub stored_lines : Stored → List (Line Label)
stored_lines d = view_lines (stored_view d)

-- the base that it stands for
abbrev pub base_of : Stored → Base
base_of d = record { name = d.name; next = d.next; documents = view_forest (stored_view d); has_text_index = true; has_attribute_index = true }

-- the rows are those of the base's trees, which keep all rules, and the ids are theirs
pub record IsKept (d : Stored) : Type 0 where
  pub held : IsIn d.pool d.table
  pub trees : KeepsTrees (stored_view d)
  pub ids : d.ids ≡ ids_of (base_of d).documents
  pub sound : IsSound (base_of d).documents d.next

-- no documents, and a first id
pub record IsEmptyAt (name : List ℕ) (next : ℕ) (d : Stored) : Type 0 where
  pub name_is : d.name ≡ name
  pub next_is : d.next ≡ next
  pub rows : stored_rows d ≡ []
  pub names : d.names ≡ []
  pub values : d.values ≡ []
  pub whole : d.branched ≡ false

-- ---- branches

-- a branch: the name of its database, its table and ids, the next id, and how many names and bytes the database had before it
pub record Branched : Type 0 where
  pub origin : List ℕ
  pub table : List Row
  pub ids : List ℕ
  pub next : ℕ
  pub names_mark : ℕ
  pub values_mark : ℕ

-- its rows lie in the database's pool
abbrev pub branch_rows : Stored → Branched → List Row
branch_rows d b = rows_in d.pool b.table

-- and its values among those of the database
abbrev pub branch_values : Stored → Branched → List ℕ
branch_values d b = d.values

abbrev pub branch_view : Stored → Branched → TableView
branch_view d b = view_of (branch_rows d b) d.names (branch_values d b)

abbrev pub branch_lines : Stored → Branched → List (Line Label)
branch_lines d b = view_lines (branch_view d b)

abbrev pub branch_forest : Stored → Branched → Forest Label
branch_forest d b = view_forest (branch_view d b)

-- the branch is the one of this database that is out, also after a change that wanted memory half way: the rows of the database lie before
-- its marks
pub record IsOut (d : Stored) (b : Branched) : Type 0 where
  pub is_out : d.branched ≡ true
  pub own : b.origin ≡ d.name
  pub names_within : b.names_mark ≤ length d.names
  pub values_within : b.values_mark ≤ length d.values
  pub before : ArePlaced (take b.names_mark d.names) (take b.values_mark d.values) (stored_rows d)

-- it is whole: its rows stand for its trees, which keep what holds while an update is applied, and its ids are theirs
pub record IsBranchOf (d : Stored) (b : Branched) : Type 0 where
  pub out : IsOut d b
  pub held : IsIn d.pool b.table
  pub trees : KeepsTrees (branch_view d b)
  pub ids : b.ids ≡ ids_of (branch_forest d b)
  pub loose : IsLoose (branch_forest d b) b.next

-- a branch that begins is equal to the database
pub record IsBegun (d : Stored) (new : Stored) (b : Branched) : Type 0 where
  pub forest : branch_forest new b ≡ (base_of d).documents
  pub next : b.next ≡ d.next
  pub names_mark : b.names_mark ≡ length d.names
  pub values_mark : b.values_mark ≡ length d.values

-- what the calls on a branch leave of its database: all as it was, with names and values behind those that were there
pub record HasGrown (old new : Stored) : Type 0 where
  pub name : new.name ≡ old.name
  pub next : new.next ≡ old.next
  pub rows : stored_rows new ≡ stored_rows old
  pub ids : new.ids ≡ old.ids
  pub names : HasMore old.names new.names
  pub values : HasMore old.values new.values

-- why a document of so many nodes isn't added: ids run out, or there are too many rows; nothing has changed then. Or memory was wanting
abbrev pub IsAddRefusal : Stored → Branched → ℕ → Refusal → Type 0
IsAddRefusal d b n (refusal.Code code) =
    ((2 ^ 32 - 1 < b.next + n) × (text_of_code code ≡ codes "XKLM0005"))
    ⊎ ((b.next + n ≤ 2 ^ 32 - 1) × (2 ^ 24 < length (branch_rows d b) + n) × (text_of_code code ≡ codes "XKLM0003"))
IsAddRefusal d b n refusal.NoMemory = Unit {0}

-- nothing changed, unless memory was wanting
abbrev pub IsSameAfter : {A : Type 0} → Refusal → A → A → Type 0
IsSameAfter (refusal.Code code) old new = new ≡ old
IsSameAfter refusal.NoMemory old new = Unit {0}

-- the database is what its branch was
pub record IsCommitted (d : Stored) (b : Branched) (new : Stored) : Type 0 where
  pub base : base_of new ≡ record (base_of d) { next = b.next; documents = branch_forest d b }
  pub names : new.names ≡ d.names
  pub values : new.values ≡ d.values
  pub whole : new.branched ≡ false

-- the database is what it was before the branch
pub record IsAbandoned (d : Stored) (b : Branched) (new : Stored) : Type 0 where
  pub base : base_of new ≡ base_of d
  pub names : new.names ≡ take b.names_mark d.names
  pub values : new.values ≡ take b.values_mark d.values
  pub whole : new.branched ≡ false
