-- The kernel's whole state.
use Rattle.std.specs.Prelude.{ℕ, Bool, true, false, [], length, replicate, None}
use Rattle.osek_core.specs.declared.tables.Tables.{Tables}
use Rattle.osek_core.specs.Kernel.Rules.{Rules}
use Rattle.osek_core.specs.Kernel.Scheduler.{Scheduler, idle}
use Rattle.osek_core.specs.Kernel.Clock.{Clock}

pub record Kernel : Type 0 where
  pub scheduler : Scheduler
  pub clock : Clock
  -- interrupts are suspended
  pub suspended : Bool
  -- the system is shut down
  pub shut : Bool

-- how many priorities there are: from 0 to 63
abbrev pub priorities : ℕ
priorities = 64

-- no task was activated yet
abbrev pub first_scheduler : Rules → Scheduler
first_scheduler rules =
    let tasks = length rules.tasks in
    record { ready = replicate priorities []; tasks = replicate tasks idle; held = replicate tasks [] }

-- the counters stand at 0, and no alarm is in use
abbrev pub first_clock : Tables → Clock
first_clock tables =
    record { counters = replicate (length tables.counters) 0; alarms = replicate (length tables.alarms) None }

abbrev pub suspend : Kernel → Kernel
suspend k = record k { suspended = true }

abbrev pub resume : Kernel → Kernel
resume k = record k { suspended = false }

-- ShutdownOS
abbrev pub shutdown : Kernel → Kernel
shutdown k = record k { shut = true }
