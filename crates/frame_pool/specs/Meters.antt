-- What meters tell of work.
use Rattle.std.specs.Prelude.{◌≡◌, ◌+◌, ◌-◌, ◌^◌, ◌≤◌, min}
use Rattle.frame_pool.specs.declared.meter.Meter.{Meter}

-- rows may have been read, and no frame was written
pub record HasRead (old new : Meter) : Type 0 where
  pub rows : old.rows_read ≤ new.rows_read
  pub frames : new.frames_written ≡ old.frames_written

-- one frame more was written, up to the greatest count, and no row was read
pub record HasCountedFrame (old new : Meter) : Type 0 where
  pub frames : new.frames_written ≡ min (old.frames_written + 1) (2 ^ 64 - 1)
  pub least : old.frames_written ≤ new.frames_written
  pub rows : new.rows_read ≡ old.rows_read
