-- What stands before a line, and the configuration with one line more.
use Rattle.std.specs.Prelude.{ℕ, List, [], ◌∷◌, ◌++◌}
use Rattle.kconfig.specs.declared.config.Config.{Config}
use Rattle.kconfig.specs.declared.config.KesoLine.{KesoLine}
use Rattle.kconfig.specs.declared.config.Line.{Line}
use Rattle.kconfig.specs.declared.config.Line.TheVariants as line

-- the configuration of the lines before it, and the task and the event of each `wait` line of the whole text
pub record Before : Type 0 where
  pub config : Config
  pub waits : List (List ℕ × List ℕ)

-- the first line alone
abbrev pub first_config : KesoLine → Config
first_config keso = record {
  keso = keso;
  devices = record { line = 0; base = 0; size = 0 };
  domains = [];
  counters = [];
  events = [];
  resources = [];
  tasks = [];
  uses = [];
  waits = [];
  alarms = [];
  starts = [];
  natives = [];
  cells = [];
  objects = [];
  device_methods = [];
  portals = [];
}

abbrev pub with_line : Config → Line → Config
with_line c (line.Devices x) = record c { devices = x }
with_line c (line.Domain x) = record c { domains = c.domains ++ x ∷ [] }
with_line c (line.Counter x) = record c { counters = c.counters ++ x ∷ [] }
with_line c (line.Event x) = record c { events = c.events ++ x ∷ [] }
with_line c (line.Resource x) = record c { resources = c.resources ++ x ∷ [] }
with_line c (line.Task x) = record c { tasks = c.tasks ++ x ∷ [] }
with_line c (line.Use x) = record c { uses = c.uses ++ x ∷ [] }
with_line c (line.Wait x) = record c { waits = c.waits ++ x ∷ [] }
with_line c (line.Alarm x) = record c { alarms = c.alarms ++ x ∷ [] }
with_line c (line.Start x) = record c { starts = c.starts ++ x ∷ [] }
with_line c (line.Native x) = record c { natives = c.natives ++ x ∷ [] }
with_line c (line.Cell x) = record c { cells = c.cells ++ x ∷ [] }
with_line c (line.Object x) = record c { objects = c.objects ++ x ∷ [] }
with_line c (line.Device x) = record c { device_methods = c.device_methods ++ x ∷ [] }
with_line c (line.Portal x) = record c { portals = c.portals ++ x ∷ [] }

abbrev pub after : Before → Line → Before
after before x = record before { config = with_line before.config x }
