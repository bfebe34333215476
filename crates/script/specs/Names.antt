-- The names of an application's objects.
use Rattle.std.specs.Prelude.{◌≤◌, ◌^◌, length}
use Rattle.osek_core.specs.Event.Text as event
use Rattle.script.specs.declared.names.Names.{Names}

-- the names of which event lines speak
abbrev pub event_names : Names → event.Names
event_names names = record { tasks = names.tasks; resources = names.resources; events = names.events; alarms = names.alarms; methods = names.methods }

-- the numbers of counters have 32 bits, and a mask of 32 bits has each event
pub record AreFew (names : Names) : Type 0 where
  pub counters : length names.counters ≤ 2 ^ 32
  pub events : length names.events ≤ 32
