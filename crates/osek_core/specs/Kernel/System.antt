-- The kernel from before its start on: who acts next, and what a tick shows. Both the bytecode and the C run under it.
use Rattle.std.specs.Prelude.{ℕ, Bool, true, false, ◌&&◌, not, List, [], map, Option, Some, None, option_map, if◌then◌else◌}
use Rattle.osek_core.specs.declared.tables.Tables.{Tables}
use Rattle.osek_core.specs.declared.event.Who.{Who}
use Rattle.osek_core.specs.declared.event.Who.TheVariants.{Start, Task}
use Rattle.osek_core.specs.declared.event.Event.{Event}
use Rattle.osek_core.specs.declared.event.Event.TheVariants.{Lost}
use Rattle.osek_core.specs.Kernel.Scheduler.{running}
use Rattle.osek_core.specs.Kernel.State.{Kernel, shutdown}
use Rattle.osek_core.specs.Kernel.Start.{new_kernel, start_kernel}
use Rattle.osek_core.specs.Kernel.Tick.{tick}

pub record System : Type 0 where
  pub kernel : Kernel
  -- the kernel was started; until then the start runs the initialisers
  pub started : Bool

abbrev pub new_system : Tables → System
new_system tables = record { kernel = new_kernel tables; started = false }

abbrev pub start_system : Tables → System → System
start_system tables y = record { kernel = start_kernel tables y.kernel; started = true }

abbrev pub shut_system : System → System
shut_system y = record y { kernel = shutdown y.kernel }

-- who makes the next step: nobody once the system is shut, and else the start, or the running job
abbrev pub acting : System → Option Who
acting y =
    if y.kernel.shut then None
    else (if y.started then option_map Task (running y.kernel.scheduler) else Some Start)

-- the system after a tick, and its lost actions as events
pub record SystemTicked : Type 0 where
  pub system : System
  pub events : List Event

-- a tick does nothing before the kernel's start or once the system is shut
abbrev pub tick_system : Tables → System → ℕ → SystemTicked
tick_system tables y counter =
    let ticked = tick tables y.kernel counter in
    if y.started && not y.kernel.shut then record { system = record y { kernel = ticked.kernel }; events = map Lost ticked.lost }
    else record { system = y; events = [] }
