-- The rows of a table and its pool, and what the calls of a table do.
use Rattle.std.specs.Prelude.{◌≡◌, ℕ, ◌+◌, ◌-◌, ◌≤◌, ◌^◌, min, List, ◌++◌, length, take, drop}
use Rattle.frame_pool.specs.Frames.{Held}
use Rattle.frame_pool.specs.declared.meter.Meter.{Meter}
use Rattle.tree_model.specs.declared.row.Row.{Row}

-- the rows that a table and its pool have together
unfoldable pub rows_in : List (Held Row) → List Row → List Row
rows_in pool table = table

-- the pool is the table's: with it the table has its rows, of which there are at most 2^24
unfoldable pub IsIn : List (Held Row) → List Row → Type 0
IsIn pool table = length table ≤ 2 ^ 24

-- each table of a pool has the rows that it had
abbrev pub KeepsTables : List (Held Row) → List (Held Row) → Type 0
KeepsTables old new = (table : List Row) → IsIn old table → IsIn new table × (rows_in new table ≡ rows_in old table)

-- one row more was read, and no frame was written
abbrev pub HasCountedRow : Meter → Meter → Type 0
HasCountedRow old new = (new.rows_read ≡ min (old.rows_read + 1) (2 ^ 64 - 1)) × (new.frames_written ≡ old.frames_written)

-- rows with others put in at a place
abbrev pub with_rows : ℕ → List Row → List Row → List Row
with_rows at more rows = take at rows ++ (more ++ drop at rows)

pub few_rows : (pool : List (Held Row)) (table : List Row) → IsIn pool table → length (rows_in pool table) ≤ 2 ^ 24
unfolding rows_in IsIn
few_rows pool table h = h
