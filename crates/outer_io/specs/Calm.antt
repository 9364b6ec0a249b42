-- What a source and a sink that never fail tell, and what a read answers and gives.
use Rattle.std.specs.Prelude.{ℕ, min, List, ◌++◌, length, take, drop, ◌==◌, Some, None, if◌then◌else◌}
use Rattle.outer_io.specs.Outer.{SourceSeen, SinkSeen}
use Rattle.outer_io.specs.declared.outer.ReadStep.{ReadStep}
use Rattle.outer_io.specs.declared.outer.ReadStep.TheVariants.{Got, End}

-- the source tells what is left
abbrev pub calm_source_seen : List ℕ → SourceSeen
calm_source_seen left = record { left = Some left; faults = 0 }

-- the sink does not tell what was written
abbrev pub calm_sink_seen : SinkSeen
calm_sink_seen = record { written = None; faults = 0 }

abbrev pub calm_answer : List ℕ → ℕ → ReadStep
calm_answer left room = if length left == 0 then End else Got (min (length left) room)

-- the buffer: the bytes that were given go to its front, and what stands behind them stays
abbrev pub calm_buffer : List ℕ → List ℕ → List ℕ
calm_buffer left buf = take (min (length left) (length buf)) left ++ drop (min (length left) (length buf)) buf
