-- The alarms (OIL 2.5, section 3.2.4).
use Rattle.std.specs.Prelude.{ℕ, ◌==◌, nat_le, ◌&&◌, ◌||◌, List, [], Option, Some, None, Bool, false, Ok, codes, position, slice_get, if◌then◌else◌}
use Rattle.std.specs.List.{list_any}
use Rattle.std.specs.Option.{option_map_or}
use Rattle.kes_text.specs.declared.refusal.Kind.TheVariants as kind
use Rattle.osek_core.specs.declared.tables.Name.{Name}
use Rattle.osek_core.specs.declared.tables.CounterRow.{CounterRow}
use Rattle.osek_core.specs.declared.tables.CounterRule.{CounterRule}
use Rattle.osek_core.specs.declared.tables.TaskRow.{TaskRow}
use Rattle.osek_core.specs.declared.tables.AlarmRow.{AlarmRow}
use Rattle.osek_core.specs.declared.tables.Action.{Action}
use Rattle.osek_core.specs.declared.tables.Action.TheVariants.{Activate, Set}
use Rattle.osek_core.specs.declared.tables.Start.{Start}
use Rattle.oil_in.specs.declared.pieces.Number.{Number}
use Rattle.oil_in.specs.declared.pieces.Number.TheVariants.{Large, Value}
use Rattle.oil_in.specs.Forms.{header, reference, activate_line, set_line, started_line, unstarted_line}
use Rattle.oil_in.specs.Scan.{Scan, Read, ◌>>=◌, refused, next, line, many}
use Rattle.oil_in.specs.Objects.{object_end, fresh, is_named}

-- the value that a line's name stands for
abbrev pub known : {X : Type 0} → Option X → Scan → Scan → Read X
known None s behind = refused kind.Unknown s
known (Some x) s behind = Ok (x, behind)

unfoldable pub counter_place_at : List CounterRow → Scan → Read ℕ
counter_place_at counters s = do
  name ← line (reference (codes "    COUNTER = c_") s.text) s
  known (position (λ row. is_named name.0 row.name) counters) s name.1

-- the rule of the counter at a place
abbrev pub rule_at : List CounterRow → ℕ → CounterRule
rule_at counters k = option_map_or (λ row. row.rule) (slice_get counters k) (record { max = 0; base = 0; min = 0 })

abbrev pub task_named : List TaskRow → List ℕ → Option ℕ
task_named tasks text = position (λ row. is_named text row.name) tasks

-- whether the task at a place waits for the event
abbrev pub waits : List TaskRow → ℕ → ℕ → Bool
waits tasks task event = option_map_or (λ row. list_any (λ k. k == event) row.events) (slice_get tasks task) false

-- the event of the task at two places, which the task must wait for
abbrev pub set_of : List TaskRow → Option ℕ → Option ℕ → Option Action
set_of tasks (Some task) (Some event) = if waits tasks task event then Some (Set task event) else None
set_of tasks (Some task) None = None
set_of tasks None event = None

abbrev pub activation_of : Option ℕ → Option Action
activation_of (Some task) = Some (Activate task)
activation_of None = None

abbrev pub action_of : List Name → List TaskRow → Option (List ℕ × List ℕ) → Option (List ℕ × List ℕ × List ℕ) → Scan → Read Action
action_of events tasks (Some h) other s = known (activation_of (task_named tasks h.0)) s (next s h.1)
action_of events tasks None (Some h) s = known (set_of tasks (task_named tasks h.0) (position (is_named h.1) events)) s (next s h.2)
action_of events tasks None None s = refused kind.Syntax s

unfoldable pub action_at : List Name → List TaskRow → Scan → Read Action
action_at events tasks s = action_of events tasks (activate_line s.text) (set_line s.text) s

-- the numbers of a start are within those of the counter; a cycle of 0 is none
abbrev pub is_start : CounterRule → ℕ → ℕ → Bool
is_start rule first cycle = (nat_le 1 first && nat_le first rule.max) && ((cycle == 0) || (nat_le rule.min cycle && nat_le cycle rule.max))

abbrev pub start_of : CounterRule → Number → Number → Option Start
start_of rule (Value first) (Value cycle) = if is_start rule first cycle then Some (record { first = first; cycle = cycle }) else None
start_of rule (Value first) Large = None
start_of rule Large cycle = None

abbrev pub started : Option Start → Scan → Scan → Read (Option Start)
started None s behind = refused kind.Range s
started (Some start) s behind = Ok (Some start, behind)

abbrev pub start_read : CounterRule → Option (List ℕ) → Option (Number × Number × List ℕ) → Scan → Read (Option Start)
start_read rule (Some rest) other s = Ok (None, next s rest)
start_read rule None (Some h) s = started (start_of rule h.0 h.1) s (next s h.2)
start_read rule None None s = refused kind.Syntax s

unfoldable pub start_at : CounterRule → Scan → Read (Option Start)
start_at rule s = start_read rule (unstarted_line s.text) (started_line s.text) s

-- what is behind an alarm's first line, for its name
unfoldable pub alarm_body_at : List Name → List CounterRow → List TaskRow → List ℕ → Scan → Read AlarmRow
alarm_body_at events counters tasks text s = do
  counter ← counter_place_at counters s
  action ← action_at events tasks counter.1
  start ← start_at (rule_at counters counter.0) action.1
  ended ← object_end start.1
  Ok (record { name = record { text = text }; counter = counter.0; action = action.0; start = start.0 }, ended)

unfoldable pub alarm_at : List Name → List CounterRow → List TaskRow → List AlarmRow → List ℕ × List ℕ → Scan → Read AlarmRow
alarm_at events counters tasks alarms h s = do
  named ← fresh (list_any (λ row. is_named h.0 row.name) alarms) h.1 s
  alarm_body_at events counters tasks h.0 named

abbrev pub alarms_at : List Name → List CounterRow → List TaskRow → Scan → Read (List AlarmRow)
alarms_at events counters tasks s = many (header (codes "  ALARM a_")) (alarm_at events counters tasks) 64 [] s
