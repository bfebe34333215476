-- How the lists that a `Time` keeps stand for its value, and what holds of them between calls.
use Rattle.std.specs.Prelude.{◌≡◌, ℕ, ◌<◌, ◌≤◌, List, map, length, All, Option, slice_index, slice_index_or, option_map}
use Rattle.osek_core.specs.declared.tables.CounterRule.{CounterRule}
use Rattle.osek_core.specs.Tables.Limits.{IsCounterRule}
use Rattle.osek_core.specs.Kernel.Clock.{Clock, Armed, no_counter}
use Rattle.osek_time.specs.declared.time.Countdown.{Countdown}
use Rattle.osek_time.specs.Value.{Timed}

-- an alarm as the definition has it
abbrev pub shown : Option Countdown → Option Armed
shown alarm = option_map (λ countdown. record { ticks = countdown.ticks; cycle = countdown.cycle }) alarm

abbrev pub clock_of : List ℕ → List (Option Countdown) → Clock
clock_of values armed = record { counters = values; alarms = map shown armed }

abbrev pub timed : List CounterRule → List ℕ → List ℕ → List (Option Countdown) → Timed
timed rules alarms values armed = record { rules = record { counters = rules; alarms = alarms }; clock = clock_of values armed }

pub record IsSound (rules : List CounterRule) (alarms values : List ℕ) (armed : List (Option Countdown)) : Type 0 where
  pub each_counter : length values ≡ length rules
  pub each_alarm : length armed ≡ length alarms
  pub few : length alarms ≤ 64
  pub lawful : All IsCounterRule rules
  -- each alarm's counter is there
  pub counted : All (λ counter. counter < length rules) alarms
  -- no counter is past its greatest value
  pub bounded : (counter : ℕ) → counter < length rules → slice_index values counter ≤ (slice_index_or rules counter no_counter).max
