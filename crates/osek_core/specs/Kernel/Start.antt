-- StartOS: OSEK/VDX OS 2.2.3, section 11.3. The tasks with autostart are activated in the order of the configuration,
-- then the alarms with autostart are set, then there is one dispatch.
use Rattle.std.specs.Prelude.{Bool, false, map, fold, if◌then◌else◌, slice_get, Option, Some, None}
use Rattle.osek_core.specs.declared.tables.Tables.{Tables}
use Rattle.osek_core.specs.declared.tables.TaskRow.{TaskRow}
use Rattle.osek_core.specs.declared.tables.Start.{Start}
use Rattle.osek_core.specs.Kernel.Rules.{rules_of}
use Rattle.osek_core.specs.Kernel.Scheduler.{Scheduler}
use Rattle.osek_core.specs.Kernel.Clock.{Armed, places}
use Rattle.osek_core.specs.Kernel.State.{Kernel, first_scheduler, first_clock}
use Rattle.osek_core.specs.Kernel.Dispatch.{dispatch}
use Rattle.osek_core.specs.Kernel.TaskServices.{activate}

abbrev pub starts_itself : Option TaskRow → Bool
starts_itself None = false
starts_itself (Some row) = row.auto

-- each task with autostart has one activation
abbrev pub autostarted : Tables → Scheduler → Scheduler
autostarted tables s =
    fold (λ s task. if starts_itself (slice_get tables.tasks task) then activate (rules_of tables) s task else s) s (places tables.tasks)

abbrev pub armed_at_start : Option Start → Option Armed
armed_at_start None = None
armed_at_start (Some start) = Some (record { ticks = start.first; cycle = start.cycle })

-- before the start: no job and no alarm
abbrev pub new_kernel : Tables → Kernel
new_kernel tables =
    record { scheduler = first_scheduler (rules_of tables); clock = first_clock tables; suspended = false; shut = false }

abbrev pub start_kernel : Tables → Kernel → Kernel
start_kernel tables k =
    record k {
      scheduler = dispatch (rules_of tables) (autostarted tables k.scheduler);
      clock = record k.clock { alarms = map (λ row. armed_at_start row.start) tables.alarms };
    }
