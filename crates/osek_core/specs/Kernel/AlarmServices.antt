-- OSEK/VDX OS 2.2.3, section 13.6.3: the services of alarms.
use Rattle.std.specs.Prelude.{ℕ, ◌+◌, ◌-◌, Bool, ◌||◌, ◌&&◌, not, Option, Some, None, nat_eq, nat_lt, nat_le, if◌then◌else◌, slice_index, is_some, Result, Ok, Err}
use Rattle.osek_core.specs.declared.tables.CounterRule.{CounterRule}
use Rattle.osek_core.specs.Kernel.Status.{Answered, done, refused, e_os_nofunc, e_os_state, e_os_value}
use Rattle.osek_core.specs.Kernel.Clock.{ClockRules, Clock, Armed, rule_of_counter, counter_of, alarm_at, set_alarm}

-- a cycle is 0, or from the counter's `MINCYCLE` to its `MAXALLOWEDVALUE`
abbrev pub is_cycle : CounterRule → ℕ → Bool
is_cycle rule cycle = nat_eq cycle 0 || (nat_le rule.min cycle && nat_le cycle rule.max)

-- the ticks until a counter with this value next becomes n: a whole round where it is n already
abbrev pub ticks_until : CounterRule → ℕ → ℕ → ℕ
ticks_until rule value n = if nat_lt value n then n - value else n + (rule.max + 1) - value

-- an idle alarm is armed, where its numbers are within bounds
abbrev pub arm : Clock → ℕ → Bool → Armed → Answered Clock
arm clock alarm within armed =
    if is_some (alarm_at clock alarm) then refused clock e_os_state
    else (if not within then refused clock e_os_value
    else done (set_alarm clock alarm (Some armed)))

abbrev pub set_rel_alarm : ClockRules → Clock → ℕ → ℕ → ℕ → Answered Clock
set_rel_alarm rules clock alarm n cycle =
    let rule = rule_of_counter rules (counter_of rules alarm) in
    arm clock alarm (nat_le 1 n && nat_le n rule.max && is_cycle rule cycle) (record { ticks = n; cycle = cycle })

abbrev pub set_abs_alarm : ClockRules → Clock → ℕ → ℕ → ℕ → Answered Clock
set_abs_alarm rules clock alarm n cycle =
    let counter = counter_of rules alarm in
    let rule = rule_of_counter rules counter in
    arm clock alarm (nat_le n rule.max && is_cycle rule cycle)
    (record { ticks = ticks_until rule (slice_index clock.counters counter) n; cycle = cycle })

abbrev pub cancel_alarm : Clock → ℕ → Answered Clock
cancel_alarm clock alarm =
    if is_some (alarm_at clock alarm) then done (set_alarm clock alarm None)
    else refused clock e_os_nofunc

-- the ticks until the alarm is due, or why there are none
abbrev pub get_alarm : Clock → ℕ → Result ℕ ℕ
get_alarm clock alarm = from (alarm_at clock alarm)
  where
    from : Option Armed → Result ℕ ℕ
    from None = Err e_os_nofunc
    from (Some armed) = Ok armed.ticks
