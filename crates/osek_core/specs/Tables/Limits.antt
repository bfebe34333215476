-- The bounds of the numbers in the tables, and of their lengths.
use Rattle.std.specs.Prelude.{◌≡◌, ◌≤◌, true, length, ◌⊎◌}
use Rattle.osek_core.specs.declared.tables.TaskRule.{TaskRule}
use Rattle.osek_core.specs.declared.tables.CounterRule.{CounterRule}
use Rattle.osek_core.specs.declared.tables.Start.{Start}
use Rattle.osek_core.specs.declared.tables.Tables.{Tables}

pub record IsTaskRule (rule : TaskRule) : Type 0 where
  pub priority : rule.priority ≤ 63
  pub at_least_one : 1 ≤ rule.activations
  pub at_most : rule.activations ≤ 15
  pub extended : rule.extended ≡ true → rule.activations ≡ 1

-- OIL 2.5, COUNTER: MAXALLOWEDVALUE, TICKSPERBASE, MINCYCLE
pub record IsCounterRule (rule : CounterRule) : Type 0 where
  pub max_at_least : 1 ≤ rule.max
  pub max_at_most : rule.max ≤ 2147483647
  pub base_at_least : 1 ≤ rule.base
  pub base_at_most : rule.base ≤ 65535
  pub min_at_least : 1 ≤ rule.min
  pub min_at_most : rule.min ≤ rule.max

-- OIL 2.5, ALARM: ALARMTIME, CYCLETIME
pub record IsStart (rule : CounterRule) (start : Start) : Type 0 where
  pub at_least : 1 ≤ start.first
  pub at_most : start.first ≤ rule.max
  pub cycle : (start.cycle ≡ 0) ⊎ ((rule.min ≤ start.cycle) × (start.cycle ≤ rule.max))

pub record IsSmall (tables : Tables) : Type 0 where
  pub events : length tables.events ≤ 31
  pub resources : length tables.resources ≤ 32
  pub counters : length tables.counters ≤ 8
  pub tasks : length tables.tasks ≤ 64
  pub alarms : length tables.alarms ≤ 64
