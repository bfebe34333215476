-- The bounds of a configuration's lists and numbers.
use Rattle.std.specs.Prelude.{◌≡◌, ℕ, ◌<◌, ◌≤◌, List, length, All}
use Rattle.kconfig.specs.declared.config.Config.{Config}
use Rattle.kconfig.specs.declared.config.Line.{Line}
use Rattle.kconfig.specs.declared.config.Line.TheVariants as line
use Rattle.kconfig.specs.declared.config.TaskLine.{TaskLine}
use Rattle.kconfig.specs.declared.config.CounterLine.{CounterLine}
use Rattle.kconfig.specs.declared.config.StartLine.{StartLine}

pub record IsTaskSmall (task : TaskLine) : Type 0 where
  pub prio : task.prio ≤ 63
  pub acts : task.acts ≤ 15

pub record IsCounterSmall (counter : CounterLine) : Type 0 where
  pub max : counter.max ≤ 2147483647
  pub base : counter.base ≤ 65535
  pub min : counter.min ≤ counter.max

-- the times of an alarm, in ticks
pub record IsStartSmall (start : StartLine) : Type 0 where
  pub first : start.first ≤ 2147483647
  pub cycle : start.cycle ≤ 2147483647

pub record IsSmall (c : Config) : Type 0 where
  pub domains : length c.domains ≤ 16
  pub counters : length c.counters ≤ 8
  pub events : length c.events ≤ 31
  pub resources : length c.resources ≤ 32
  pub tasks : length c.tasks ≤ 64
  pub alarms : length c.alarms ≤ 64
  pub objects : length c.objects ≤ 64
  pub portals : length c.portals ≤ 256
  pub each_task : All IsTaskSmall c.tasks
  pub each_counter : All IsCounterSmall c.counters

-- what a line keeps within the bounds where it comes behind these
abbrev pub Fits : Config → Line → Type 0
Fits c (line.Domain x) = length c.domains < 16
Fits c (line.Counter x) = (length c.counters < 8) × IsCounterSmall x
Fits c (line.Event x) = length c.events < 31
Fits c (line.Resource x) = length c.resources < 32
Fits c (line.Task x) = (length c.tasks < 64) × IsTaskSmall x
Fits c (line.Alarm x) = length c.alarms < 64
Fits c (line.Object x) = length c.objects < 64
Fits c (line.Portal x) = length c.portals < 256
Fits c _ = Unit {0}

-- the METHOD or the CLASS.FIELD of a line that has one
abbrev pub IsKey : Line → List ℕ → Type 0
IsKey (line.Native x) key = x.method ≡ key
IsKey (line.Device x) key = x.method ≡ key
IsKey (line.Portal x) key = x.method ≡ key
IsKey (line.Cell x) key = x.field ≡ key
IsKey _ key = Unit {0}
