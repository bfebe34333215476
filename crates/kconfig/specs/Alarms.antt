-- The lines of alarms. Each takes the words behind the first.
use Rattle.std.specs.Prelude.{ℕ, ◌^◌, ◌-◌, ◌==◌, nat_lt, Bool, false, ◌&&◌, ◌||◌, not, is_none, List, [], ◌∷◌, length, codes, Option, Some, None, Result, Ok, bytes_eq, slice_get}
use Rattle.std.specs.List.{list_any}
use Rattle.osek_core.specs.declared.tables.Action.TheVariants.{Activate, Set}
use Rattle.kes_text.specs.declared.refusal.Stop.{Stop}
use Rattle.kes_text.specs.declared.refusal.Kind.TheVariants as kind
use Rattle.kconfig.specs.declared.config.AlarmLine.{AlarmLine}
use Rattle.kconfig.specs.declared.config.StartLine.{StartLine}
use Rattle.kconfig.specs.declared.config.CounterLine.{CounterLine}
use Rattle.kconfig.specs.declared.config.Config.{Config}
use Rattle.text_words.specs.Said.{◌>>=◌, refused, check, known}
use Rattle.text_words.specs.declared.number.Number.{Number}
use Rattle.text_words.specs.Numbers.{number_of, are_both_numbers, within, value}
use Rattle.kconfig.specs.Words.{is_name}
use Rattle.kconfig.specs.Config.{Before}
use Rattle.kconfig.specs.Names.{named, counter_named, task_named, alarm_named}

-- a line of the text has the words `wait T E`
abbrev pub is_waited : List (List ℕ × List ℕ) → List ℕ → List ℕ → Bool
is_waited waits task event = list_any (λ x. bytes_eq x.0 task && bytes_eq x.1 event) waits

-- a fresh name, and the place of the counter
unfoldable pub alarm_head : Before → ℕ → List ℕ → List ℕ → Result ℕ Stop
alarm_head before n name counter = do
  _ ← check (is_name name) kind.Syntax n
  _ ← check (nat_lt (length before.config.alarms) 64) kind.Room n
  _ ← check (is_none (alarm_named before.config name)) kind.Twice n
  known (counter_named before.config counter) kind.Unknown n

unfoldable pub alarm_activates : Before → ℕ → List ℕ → List ℕ → List ℕ → Result AlarmLine Stop
alarm_activates before n name counter task = do
  c ← alarm_head before n name counter
  t ← known (task_named before.config task) kind.Unknown n
  Ok (record { line = n; name = name; counter = c; action = Activate t })

-- the text says that the task waits for the event
unfoldable pub alarm_sets : Before → ℕ → List ℕ → List ℕ → List ℕ → List ℕ → Result AlarmLine Stop
alarm_sets before n name counter task event = do
  c ← alarm_head before n name counter
  t ← known (task_named before.config task) kind.Unknown n
  e ← known (named before.config.events event) kind.Unknown n
  _ ← check (is_waited before.waits task event) kind.Unknown n
  Ok (record { line = n; name = name; counter = c; action = Set t e })

-- the word behind the name, and that behind the counter
abbrev pub are_alarm_words : List ℕ → List ℕ → List ℕ → Bool
are_alarm_words counter_word action expected = bytes_eq counter_word (codes "counter") && bytes_eq action expected

-- alarm A counter C activate T, or alarm A counter C set T E
abbrev pub alarm_line : Before → ℕ → List (List ℕ) → Result AlarmLine Stop
alarm_line before n (name ∷ counter_word ∷ counter ∷ action ∷ task ∷ []) = do
  _ ← check (are_alarm_words counter_word action (codes "activate")) kind.Syntax n
  alarm_activates before n name counter task
alarm_line before n (name ∷ counter_word ∷ counter ∷ action ∷ task ∷ event ∷ []) = do
  _ ← check (are_alarm_words counter_word action (codes "set")) kind.Syntax n
  alarm_sets before n name counter task event
alarm_line before n _ = refused kind.Syntax n

-- the counter of an alarm
abbrev pub counter_at : Config → Option AlarmLine → Option CounterLine
counter_at c None = None
counter_at c (Some alarm) = slice_get c.counters alarm.counter

-- the first time is from 1 to the counter's max, and the cycle is 0 or from its min to its max
abbrev pub start_fits : Option CounterLine → Number → Number → Bool
start_fits None first cycle = false
start_fits (Some counter) first cycle = within 1 counter.max first && (value cycle == 0 || within counter.min counter.max cycle)

-- a line starts the alarm
abbrev pub has_start : List StartLine → ℕ → Bool
has_start lines alarm = list_any (λ x. x.alarm == alarm) lines

-- both are below 2^64
abbrev pub are_sized : Number → Number → Bool
are_sized first cycle = within 0 (2 ^ 64 - 1) first && within 0 (2 ^ 64 - 1) cycle

unfoldable pub start_said : Before → ℕ → List ℕ → Number → Number → Result StartLine Stop
start_said before n alarm first cycle = do
  _ ← check (are_both_numbers first cycle) kind.Syntax n
  _ ← check (are_sized first cycle) kind.Range n
  a ← known (alarm_named before.config alarm) kind.Unknown n
  _ ← check (start_fits (counter_at before.config (slice_get before.config.alarms a)) first cycle) kind.Range n
  _ ← check (not (has_start before.config.starts a)) kind.Twice n
  Ok (record { line = n; alarm = a; first = value first; cycle = value cycle })

abbrev pub are_start_words : List ℕ → List ℕ → Bool
are_start_words at_word cycle_word = bytes_eq at_word (codes "at") && bytes_eq cycle_word (codes "cycle")

-- start A at N cycle N: of an alarm that isn't declared, Range stands only where a number is 2^64 or above
abbrev pub start_line : Before → ℕ → List (List ℕ) → Result StartLine Stop
start_line before n (alarm ∷ at_word ∷ first ∷ cycle_word ∷ cycle ∷ []) = do
  _ ← check (are_start_words at_word cycle_word) kind.Syntax n
  start_said before n alarm (number_of first) (number_of cycle)
start_line before n _ = refused kind.Syntax n
