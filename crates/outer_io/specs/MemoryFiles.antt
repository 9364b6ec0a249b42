-- The states of files in memory, and what one call makes of them.
use Rattle.std.specs.Prelude.{◌≡◌, ℕ, nat_le, List, length, Option, Some, None, if◌then◌else◌}
use Rattle.outer_io.specs.Memory.{counted, fails_next}
use Rattle.outer_io.specs.Files.{Entry, FilesSeen, file_in, with_file}
use Rattle.outer_io.specs.declared.files.FileRead.{FileRead}
use Rattle.outer_io.specs.declared.files.FileRead.TheVariants as read
use Rattle.outer_io.specs.declared.files.FileWrite.{FileWrite}
use Rattle.outer_io.specs.declared.files.FileWrite.TheVariants as write

-- what a read comes to where memory suffices
pub data ReadAnswer : Type 0 where
  file : (bytes : List ℕ) → ReadAnswer
  missing : ReadAnswer
  too_long : ReadAnswer
  failed : ReadAnswer

-- by the bytes that stand under the name, and how many may be given
abbrev pub found_answer : Option (List ℕ) → ℕ → ReadAnswer
found_answer None limit = missing
found_answer (Some found) limit = if nat_le (length found) limit then file found else too_long

-- the read came to that; where there are bytes to give, memory may have been wanting for them
abbrev pub IsReadAnswer : ReadAnswer → FileRead → Type 0
IsReadAnswer (file found) (read.Bytes bytes) = bytes.items ≡ found
IsReadAnswer (file found) read.NoMemory = Unit {0}
IsReadAnswer (file found) read.Missing = ⊥
IsReadAnswer (file found) read.TooLong = ⊥
IsReadAnswer (file found) read.Failed = ⊥
IsReadAnswer missing (read.Bytes bytes) = ⊥
IsReadAnswer missing read.NoMemory = ⊥
IsReadAnswer missing read.Missing = Unit {0}
IsReadAnswer missing read.TooLong = ⊥
IsReadAnswer missing read.Failed = ⊥
IsReadAnswer too_long (read.Bytes bytes) = ⊥
IsReadAnswer too_long read.NoMemory = ⊥
IsReadAnswer too_long read.Missing = ⊥
IsReadAnswer too_long read.TooLong = Unit {0}
IsReadAnswer too_long read.Failed = ⊥
IsReadAnswer failed (read.Bytes bytes) = ⊥
IsReadAnswer failed read.NoMemory = ⊥
IsReadAnswer failed read.Missing = ⊥
IsReadAnswer failed read.TooLong = ⊥
IsReadAnswer failed read.Failed = Unit {0}

-- files: what stands under each name, the numbers of the calls that fail, the calls so far, and the counts
pub record MemFilesState : Type 0 where
  pub map : List Entry
  pub fails : List ℕ
  pub calls : ℕ
  pub faults : ℕ
  pub misses : ℕ
  pub overlong : ℕ

-- the files tell what stands under each name
abbrev pub files_seen : MemFilesState → FilesSeen
files_seen s = record { map = Some s.map; faults = s.faults; misses = s.misses; overlong = s.overlong }

abbrev pub fresh_files : List Entry → List ℕ → MemFilesState
fresh_files entries fails = record { map = entries; fails = fails; calls = 0; faults = 0; misses = 0; overlong = 0 }

abbrev pub read_answer : MemFilesState → List ℕ → ℕ → ReadAnswer
read_answer s name limit = if fails_next s.fails s.calls then failed else found_answer (file_in name s.map) limit

abbrev pub after_answer : ReadAnswer → MemFilesState → MemFilesState
after_answer (file found) s = record s { calls = counted s.calls }
after_answer missing s = record s { calls = counted s.calls; misses = counted s.misses }
after_answer too_long s = record s { calls = counted s.calls; overlong = counted s.overlong }
after_answer failed s = record s { calls = counted s.calls; faults = counted s.faults }

abbrev pub after_read : MemFilesState → List ℕ → ℕ → MemFilesState
after_read s name limit = after_answer (read_answer s name limit) s

-- what a write comes to where memory suffices
abbrev pub write_answer : MemFilesState → FileWrite
write_answer s = if fails_next s.fails s.calls then write.Failed else write.Done

-- the write came to that; where it does not fail, memory may have been wanting
abbrev pub IsWriteAnswer : FileWrite → FileWrite → Type 0
IsWriteAnswer write.Done write.Done = Unit {0}
IsWriteAnswer write.Done write.Failed = ⊥
IsWriteAnswer write.Done write.NoMemory = Unit {0}
IsWriteAnswer write.Failed write.Done = ⊥
IsWriteAnswer write.Failed write.Failed = Unit {0}
IsWriteAnswer write.Failed write.NoMemory = ⊥
IsWriteAnswer write.NoMemory answer = ⊥

-- the entries after a write, by its answer
abbrev pub after_put : List ℕ → List ℕ → FileWrite → List Entry → List Entry
after_put name bytes write.Done entries = with_file name bytes entries
after_put name bytes write.Failed entries = entries
after_put name bytes write.NoMemory entries = entries

abbrev pub after_write : MemFilesState → List ℕ → List ℕ → FileWrite → MemFilesState
after_write s name bytes answer =
    record s { calls = counted s.calls; map = after_put name bytes answer s.map; faults = if fails_next s.fails s.calls then counted s.faults else s.faults }
