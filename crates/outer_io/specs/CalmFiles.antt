-- The states of files that never fail, and what one call makes of them.
use Rattle.std.specs.Prelude.{ℕ, List, Some}
use Rattle.outer_io.specs.Memory.{counted}
use Rattle.outer_io.specs.Files.{Entry, FilesSeen, file_in}
use Rattle.outer_io.specs.MemoryFiles.{ReadAnswer, file, missing, too_long, failed, found_answer, after_put}
use Rattle.outer_io.specs.declared.files.FileWrite.{FileWrite}

-- files: what stands under each name, and the counts of the reads that found none, or too many bytes
pub record CalmFilesState : Type 0 where
  pub map : List Entry
  pub misses : ℕ
  pub overlong : ℕ

-- the files tell what stands under each name, and never fail
abbrev pub calm_files_seen : CalmFilesState → FilesSeen
calm_files_seen s = record { map = Some s.map; faults = 0; misses = s.misses; overlong = s.overlong }

abbrev pub calm_files : List Entry → CalmFilesState
calm_files entries = record { map = entries; misses = 0; overlong = 0 }

abbrev pub calm_read_answer : CalmFilesState → List ℕ → ℕ → ReadAnswer
calm_read_answer s name limit = found_answer (file_in name s.map) limit

abbrev pub calm_after_answer : ReadAnswer → CalmFilesState → CalmFilesState
calm_after_answer (file found) s = s
calm_after_answer missing s = record s { misses = counted s.misses }
calm_after_answer too_long s = record s { overlong = counted s.overlong }
calm_after_answer failed s = s

abbrev pub calm_after_read : CalmFilesState → List ℕ → ℕ → CalmFilesState
calm_after_read s name limit = calm_after_answer (calm_read_answer s name limit) s

-- by the answer of the write
abbrev pub calm_after_write : CalmFilesState → List ℕ → List ℕ → FileWrite → CalmFilesState
calm_after_write s name bytes answer = record s { map = after_put name bytes answer s.map }
