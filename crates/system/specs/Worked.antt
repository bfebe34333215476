-- A small application: one task, which starts with the kernel, and an alarm that activates it at each tick.
use Rattle.std.specs.Prelude.{◌≡◌, true, false, [], ◌∷◌, codes, Some}
use Rattle.osek_core.specs.declared.tables.TaskRow.{TaskRow}
use Rattle.osek_core.specs.declared.tables.CounterRow.{CounterRow}
use Rattle.osek_core.specs.declared.tables.AlarmRow.{AlarmRow}
use Rattle.osek_core.specs.declared.tables.Action.TheVariants.{Activate}
use Rattle.osek_core.specs.declared.tables.Tables.{Tables}
use Rattle.osek_core.specs.declared.event.Who.TheVariants.{Start, Task}
use Rattle.osek_core.specs.declared.event.Event.TheVariants.{Lost}
use Rattle.osek_core.specs.Kernel.System.{acting, tick_system}
use Rattle.system.specs.Lost.{lost_alarms}
use Rattle.system.specs.Value.{first_system}

abbrev pub only_task : TaskRow
only_task = record {
  name = record { text = codes "t" };
  rule = record { priority = 1; activations = 1; preemptable = true; extended = false };
  auto = true;
  resources = [];
  events = [];
}

abbrev pub only_counter : CounterRow
only_counter = record { name = record { text = codes "c" }; rule = record { max = 9; base = 1; min = 1 } }

abbrev pub only_alarm : AlarmRow
only_alarm = record { name = record { text = codes "a" }; counter = 0; action = Activate 0; start = Some (record { first = 1; cycle = 1 }) }

abbrev pub one_task : Tables
one_task = record {
  events = [];
  resources = [];
  counters = only_counter ∷ [];
  tasks = only_task ∷ [];
  alarms = only_alarm ∷ [];
}

-- with initialisers the start acts first, and without any the task's job
abbrev pub FirstActs : Type 0
FirstActs = (acting (first_system one_task true) ≡ Some Start) × (acting (first_system one_task false) ≡ Some (Task 0))

-- the task has its one activation when the alarm is due, so the alarm's is lost
abbrev pub AlarmIsLost : Type 0
AlarmIsLost = (tick_system one_task (first_system one_task false) 0).events ≡ Lost 0 ∷ []

-- before the kernel's start a tick does nothing
abbrev pub TickIsIdle : Type 0
TickIsIdle = (tick_system one_task (first_system one_task true) 0).events ≡ []

abbrev pub AlarmsOfSet : Type 0
AlarmsOfSet = lost_alarms 9223372036854775813 ≡ 0 ∷ 2 ∷ 63 ∷ []
