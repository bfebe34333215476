-- The kernel's tables of a configuration: its declared objects in line order. A place in the tables is the place among
-- the lines of that kind.
use Rattle.std.specs.Prelude.{ℕ, Bool, ◌==◌, List, map, filter, length, Option}
use Rattle.std.specs.Option.{option_map}
use Rattle.std.specs.List.{list_any, find, range_with_len, enumerate_from}
use Rattle.osek_core.specs.declared.tables.Name.{Name}
use Rattle.osek_core.specs.declared.tables.TaskRow.{TaskRow}
use Rattle.osek_core.specs.declared.tables.CounterRow.{CounterRow}
use Rattle.osek_core.specs.declared.tables.AlarmRow.{AlarmRow}
use Rattle.osek_core.specs.declared.tables.Start.{Start}
use Rattle.osek_core.specs.declared.tables.Tables.{Tables}
use Rattle.kconfig.specs.declared.config.Config.{Config}
use Rattle.kconfig.specs.declared.config.NameLine.{NameLine}
use Rattle.kconfig.specs.declared.config.CounterLine.{CounterLine}
use Rattle.kconfig.specs.declared.config.TaskLine.{TaskLine}
use Rattle.kconfig.specs.declared.config.WaitLine.{WaitLine}
use Rattle.kconfig.specs.declared.config.AlarmLine.{AlarmLine}
use Rattle.kconfig.specs.declared.config.StartLine.{StartLine}
use Rattle.kconfig.specs.Tasks.{use_stands, wait_stands}
use Rattle.kconfig.specs.Sound.{rule_of, times_of}

abbrev pub name_of : List ℕ → Name
name_of text = record { text = text }

abbrev pub names_of : List NameLine → List Name
names_of lines = map (λ x. name_of x.name) lines

abbrev pub counter_row : CounterLine → CounterRow
counter_row x = record { name = name_of x.name; rule = rule_of x }

-- the places below a count that pass a test, which rise
abbrev pub places_where : (ℕ → Bool) → ℕ → List ℕ
places_where test count = filter test (range_with_len 0 count)

-- a line says that the task waits
abbrev pub is_extended : List WaitLine → ℕ → Bool
is_extended waits task = list_any (λ x. x.task == task) waits

-- the task at a place: it has the resources that lines say it uses, and the events that lines say it waits for
abbrev pub task_row : Config → ℕ → TaskLine → TaskRow
task_row c task x = record {
  name = name_of x.name;
  rule = record { priority = x.prio; activations = x.acts; preemptable = x.full; extended = is_extended c.waits task };
  auto = x.auto;
  resources = places_where (use_stands c.uses task) (length c.resources);
  events = places_where (wait_stands c.waits task) (length c.events);
}

-- how the alarm at a place starts with the kernel, if a line says so
abbrev pub start_of : List StartLine → ℕ → Option Start
start_of starts alarm = option_map times_of (find (λ x. x.alarm == alarm) starts)

abbrev pub alarm_row : List StartLine → ℕ → AlarmLine → AlarmRow
alarm_row starts alarm x = record { name = name_of x.name; counter = x.counter; action = x.action; start = start_of starts alarm }

abbrev pub task_rows : Config → List TaskRow
task_rows c = map (λ x. task_row c x.0 x.1) (enumerate_from 0 c.tasks)

abbrev pub alarm_rows : Config → List AlarmRow
alarm_rows c = map (λ x. alarm_row c.starts x.0 x.1) (enumerate_from 0 c.alarms)

abbrev pub tables_of : Config → Tables
tables_of c = record {
  events = names_of c.events;
  resources = names_of c.resources;
  counters = map counter_row c.counters;
  tasks = task_rows c;
  alarms = alarm_rows c;
}
