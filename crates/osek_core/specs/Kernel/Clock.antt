-- OSEK/VDX OS 2.2.3, section 9: counters and alarms. A tick adds 1 to its counter, from its greatest value to 0.
use Rattle.std.specs.Prelude.{ℕ, ◌+◌, ◌-◌, Bool, false, ◌&&◌, List, map, length, filter, Option, Some, None, nat_eq, if◌then◌else◌, slice_index, slice_index_or, slice_set}
use Rattle.std.specs.List.{range_with_len}
use Rattle.osek_core.specs.declared.tables.CounterRule.{CounterRule}
use Rattle.osek_core.specs.declared.tables.Tables.{Tables}

-- each counter's rule, and each alarm's counter
pub record ClockRules : Type 0 where
  pub counters : List CounterRule
  pub alarms : List ℕ

abbrev pub clock_rules_of : Tables → ClockRules
clock_rules_of tables =
    record { counters = map (λ row. row.rule) tables.counters; alarms = map (λ row. row.counter) tables.alarms }

-- an alarm in use: due after so many ticks, and then every so many ticks, or once where the cycle is 0
pub record Armed : Type 0 where
  pub ticks : ℕ
  pub cycle : ℕ

pub record Clock : Type 0 where
  -- each counter's value
  pub counters : List ℕ
  -- each alarm, where it is in use
  pub alarms : List (Option Armed)

-- the rule of a counter that isn't there
abbrev pub no_counter : CounterRule
no_counter = record { max = 0; base = 0; min = 0 }

abbrev pub rule_of_counter : ClockRules → ℕ → CounterRule
rule_of_counter rules counter = slice_index_or rules.counters counter no_counter

abbrev pub counter_of : ClockRules → ℕ → ℕ
counter_of rules alarm = slice_index rules.alarms alarm

abbrev pub alarm_at : Clock → ℕ → Option Armed
alarm_at clock alarm = slice_index_or clock.alarms alarm None

abbrev pub set_alarm : Clock → ℕ → Option Armed → Clock
set_alarm clock alarm armed = record clock { alarms = slice_set clock.alarms alarm armed }

abbrev pub places : {A : Type 0} → List A → List ℕ
places xs = range_with_len 0 (length xs)

-- this tick is the one that the alarm waits for
abbrev pub is_last_tick : Option Armed → Bool
is_last_tick None = false
is_last_tick (Some armed) = nat_eq armed.ticks 1

-- an alarm after a tick of its counter
abbrev pub counted_down : Option Armed → Option Armed
counted_down None = None
counted_down (Some armed) = if nat_eq armed.ticks 1 then again else Some (record armed { ticks = armed.ticks - 1 })
  where
    again : Option Armed
    again = if nat_eq armed.cycle 0 then None else Some (record armed { ticks = armed.cycle })

-- the alarms that are due at the counter's next tick, in the order of the configuration
abbrev pub due : ClockRules → Clock → ℕ → List ℕ
due rules clock counter =
    filter (λ alarm. nat_eq (counter_of rules alarm) counter && is_last_tick (alarm_at clock alarm)) (places clock.alarms)

-- the counter's value after its next tick
abbrev pub next_value : ClockRules → Clock → ℕ → ℕ
next_value rules clock counter =
    let value = slice_index clock.counters counter in
    if nat_eq value (rule_of_counter rules counter).max then 0 else value + 1

abbrev pub advance : ClockRules → Clock → ℕ → Clock
advance rules clock counter =
    record {
      counters = slice_set clock.counters counter (next_value rules clock counter);
      alarms = map (λ alarm. if nat_eq (counter_of rules alarm) counter then counted_down (alarm_at clock alarm) else alarm_at clock alarm) (places clock.alarms);
    }
