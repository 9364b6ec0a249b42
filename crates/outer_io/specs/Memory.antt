-- The states of a source and of a sink in memory, and what one call makes of them.
use Rattle.std.specs.Prelude.{ℕ, ◌+◌, ◌-◌, ◌^◌, min, Bool, true, List, [], ◌++◌, length, take, drop, ◌==◌, Some, if◌then◌else◌}
use Rattle.std.specs.List.{list_any}
use Rattle.outer_io.specs.Outer.{SourceSeen, SinkSeen}
use Rattle.outer_io.specs.declared.outer.ReadStep.{ReadStep}
use Rattle.outer_io.specs.declared.outer.ReadStep.TheVariants.{Got, End, Failed}
use Rattle.outer_io.specs.declared.outer.WriteStep.{WriteStep}
use Rattle.outer_io.specs.declared.outer.WriteStep.TheVariants as write

-- one more, up to the greatest u64
abbrev pub counted : ℕ → ℕ
counted n = min (n + 1) (2 ^ 64 - 1)

-- whether the call after so many is one of those that fail
abbrev pub fails_next : List ℕ → ℕ → Bool
fails_next fails calls = list_any (λ number. number == counted calls) fails

-- a source: the bytes that are left, the most that a call gives, the numbers of the calls that fail, the calls and the faults so far
pub record MemSourceState : Type 0 where
  pub left : List ℕ
  pub piece : ℕ
  pub fails : List ℕ
  pub calls : ℕ
  pub faults : ℕ

-- the source tells what is left
abbrev pub source_seen : MemSourceState → SourceSeen
source_seen s = record { left = Some s.left; faults = s.faults }

abbrev pub fresh_source : List ℕ → ℕ → List ℕ → MemSourceState
fresh_source bytes piece fails = record { left = bytes; piece = piece; fails = fails; calls = 0; faults = 0 }

-- how many bytes a read that does not fail gives into so much room
abbrev pub read_count : MemSourceState → ℕ → ℕ
read_count s room = min (min (length s.left) room) s.piece

abbrev pub read_answer : MemSourceState → ℕ → ReadStep
read_answer s room = if fails_next s.fails s.calls then Failed else (if length s.left == 0 then End else Got (read_count s room))

abbrev pub source_after_read : MemSourceState → ℕ → MemSourceState
source_after_read s room =
    if fails_next s.fails s.calls
    then record s { calls = counted s.calls; faults = counted s.faults }
    else record s { calls = counted s.calls; left = drop (read_count s room) s.left }

-- the buffer: the bytes that were given go to its front, and what stands behind them stays
abbrev pub buffer_after_read : MemSourceState → List ℕ → List ℕ
buffer_after_read s buf =
    if fails_next s.fails s.calls
    then buf
    else take (read_count s (length buf)) s.left ++ drop (read_count s (length buf)) buf

-- a sink: the bytes that it holds, how many it has room for, the most that a call takes, the numbers of the calls that fail, the calls and the faults so far
pub record MemSinkState : Type 0 where
  pub bytes : List ℕ
  pub room : ℕ
  pub piece : ℕ
  pub fails : List ℕ
  pub calls : ℕ
  pub faults : ℕ

-- the sink tells what was written
abbrev pub sink_seen : MemSinkState → SinkSeen
sink_seen s = record { written = Some s.bytes; faults = s.faults }

abbrev pub fresh_sink : ℕ → ℕ → List ℕ → MemSinkState
fresh_sink room piece fails = record { bytes = []; room = room; piece = piece; fails = fails; calls = 0; faults = 0 }

-- how many of so many bytes a write that is not one of those that fail takes: none where the room is used up
abbrev pub write_count : MemSinkState → ℕ → ℕ
write_count s size = min (min size s.piece) (s.room - length s.bytes)

-- whether a write of so many bytes fails
abbrev pub fails_write : MemSinkState → ℕ → Bool
fails_write s size = if fails_next s.fails s.calls then true else write_count s size == 0

abbrev pub write_answer : MemSinkState → ℕ → WriteStep
write_answer s size = if fails_write s size then write.Failed else write.Took (write_count s size)

abbrev pub sink_after_write : MemSinkState → List ℕ → MemSinkState
sink_after_write s bytes =
    if fails_write s (length bytes)
    then record s { calls = counted s.calls; faults = counted s.faults }
    else record s { calls = counted s.calls; bytes = s.bytes ++ take (write_count s (length bytes)) bytes }
