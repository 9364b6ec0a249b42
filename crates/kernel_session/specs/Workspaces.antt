-- What the commands of a script work on.
use Rattle.std.specs.Prelude.{ℕ, List, map, Option}
use Rattle.frame_pool.specs.declared.meter.Meter.{Meter}
use Rattle.outer_io.specs.Files.{FilesSeen}
use Rattle.tree_model.specs.States.{State}
use Rattle.doc_store.specs.Stored.{Stored, base_of}

-- the databases of a kernel as they are stored, in order of making, and the place of the open one
pub record KernelView : Type 0 where
  pub stored : List Stored
  pub opened : Option ℕ

-- the state that they stand for
abbrev pub state_of : KernelView → State
state_of kernel = record { bases = map base_of kernel.stored; opened = kernel.opened }

-- the state, what is seen of files, and the work that was counted
pub record Workspace : Type 0 where
  pub state : State
  pub files : FilesSeen
  pub meter : Meter

abbrev pub workspace : State → FilesSeen → Meter → Workspace
workspace state files meter = record { state = state; files = files; meter = meter }
