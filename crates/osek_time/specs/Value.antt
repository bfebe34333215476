-- The value of a `Time`, and what its calls answer.
use Rattle.std.specs.Prelude.{ℕ, ◌^◌, Bool, ◌&&◌, bit_or, List, fold, nat_eq, nat_le}
use Rattle.osek_core.specs.declared.tables.CounterRule.{CounterRule}
use Rattle.osek_core.specs.Kernel.Clock.{ClockRules, Clock, counter_of, alarm_at, is_last_tick}
use Rattle.osek_core.specs.Kernel.AlarmServices.{is_cycle}

pub record Timed : Type 0 where
  pub rules : ClockRules
  pub clock : Clock

-- a set of alarms: bit k for the alarm at the place k
abbrev pub alarm_set : List ℕ → ℕ
alarm_set alarms = fold (λ set alarm. bit_or set (2 ^ alarm)) 0 alarms

-- the alarm is due at the counter's next tick
abbrev pub is_due : ClockRules → Clock → ℕ → ℕ → Bool
is_due rules clock counter alarm = nat_eq (counter_of rules alarm) counter && is_last_tick (alarm_at clock alarm)

-- the bounds of SetRelAlarm's numbers
abbrev pub is_within : CounterRule → ℕ → ℕ → ℕ → Bool
is_within rule least first cycle = nat_le least first && nat_le first rule.max && is_cycle rule cycle
