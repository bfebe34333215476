-- The kernels that services and ticks lead to from the start on.
use Rattle.std.specs.Prelude.{ℕ, List, fold, if◌then◌else◌, is_some}
use Rattle.osek_core.specs.declared.tables.Tables.{Tables}
use Rattle.osek_core.specs.declared.call.Call.{Call}
use Rattle.osek_core.specs.Tables.WellConfigured.{IsWellConfigured}
use Rattle.osek_core.specs.Kernel.Rules.{rules_of}
use Rattle.osek_core.specs.Kernel.Scheduler.{running}
use Rattle.osek_core.specs.Kernel.State.{Kernel}
use Rattle.osek_core.specs.Kernel.Start.{new_kernel, start_kernel}
use Rattle.osek_core.specs.Kernel.Service.{service}
use Rattle.osek_core.specs.Kernel.Tick.{tick}
use Rattle.osek_core.specs.Kernel.Invariant.{IsDispatched}

-- what happens to a kernel: the running job calls a service, or a counter ticks
pub data Happening : Type 0 where
  Serve : Call → Happening
  Count : ℕ → Happening

-- a service is called only where a job runs
abbrev pub happen : Tables → Kernel → Happening → Kernel
happen tables k (Serve call) = if is_some (running k.scheduler) then (service tables k call).kernel else k
happen tables k (Count counter) = (tick tables k counter).kernel

-- the kernel of well-configured tables, after its start and whatever happens then
abbrev pub StaysDispatched : Type 0
StaysDispatched = (tables : Tables) → IsWellConfigured tables → (happenings : List Happening) →
    IsDispatched (rules_of tables) (fold (happen tables) (start_kernel tables (new_kernel tables)) happenings).scheduler
