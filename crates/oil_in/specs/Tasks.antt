-- The tasks (OIL 2.5, section 3.2.2).
use Rattle.std.specs.Prelude.{ℕ, ◌+◌, ◌-◌, ◌==◌, nat_lt, slice_get, List, [], ◌∷◌, length, Option, Some, None, Bool, true, false, Ok, codes, position, if◌then◌else◌}
use Rattle.std.specs.List.{list_any}
use Rattle.std.specs.Option.{option_map_or}
use Rattle.kes_text.specs.declared.refusal.Kind.TheVariants as kind
use Rattle.osek_core.specs.declared.tables.Name.{Name}
use Rattle.osek_core.specs.declared.tables.TaskRow.{TaskRow}
use Rattle.oil_in.specs.Forms.{header, reference, schedule_line, autostart_line}
use Rattle.oil_in.specs.Scan.{Scan, Read, ◌>>=◌, refused, next, line, number_between, many}
use Rattle.oil_in.specs.Objects.{object_end, fresh, is_named}

-- the least place that rises above the last of those so far
abbrev pub least : List ℕ → ℕ
least places = option_map_or (λ k. k + 1) (slice_get places (length places - 1)) 0

-- The place that a line names, which must rise, in a task that may have such lines, in the order Syntax, Range, Unknown.
abbrev pub placed : Bool → ℕ → Option ℕ → Scan → Scan → Read ℕ
placed may low None s behind = if may then refused kind.Unknown s else refused kind.Range s
placed may low (Some k) s behind = if nat_lt k low then refused kind.Syntax s else if may then Ok (k, behind) else refused kind.Range s

unfoldable pub place_at : Bool → List Name → List ℕ → List ℕ × List ℕ → Scan → Read ℕ
place_at may names places h s = placed may (least places) (position (is_named h.0) names) s (next s h.1)

-- The places that lines of one form name. They rise, so there are at most as many as there are names: one line more has a
-- fault of its own.
unfoldable pub places_at : List ℕ → Bool → List Name → Scan → Read (List ℕ)
places_at front may names s = many (reference front) (place_at may names) (length names + 1) [] s

-- the resources that a task uses
unfoldable pub used_at : List Name → Scan → Read (List ℕ)
used_at resources s = places_at (codes "    RESOURCE = r_") true resources s

-- the events that it waits for, which only a task with one activation may
unfoldable pub waited_at : Bool → List Name → Scan → Read (List ℕ)
waited_at may events s = places_at (codes "    EVENT = e_") may events s

abbrev pub has_any : List ℕ → Bool
has_any [] = false
has_any (k ∷ places) = true

unfoldable pub priority_at : Scan → Read ℕ
priority_at s = number_between (codes "    PRIORITY = ") 0 63 s

-- whether the task gives way to others at any time
unfoldable pub schedule_at : Scan → Read Bool
schedule_at s = line (schedule_line s.text) s

unfoldable pub activations_at : Scan → Read ℕ
activations_at s = number_between (codes "    ACTIVATION = ") 1 15 s

unfoldable pub auto_at : Scan → Read Bool
auto_at s = line (autostart_line s.text) s

-- what is behind a task's first line, for its name; a task with an event is extended, and has one activation
unfoldable pub task_body_at : List Name → List Name → List ℕ → Scan → Read TaskRow
task_body_at resources events text s = do
  priority ← priority_at s
  schedule ← schedule_at priority.1
  activations ← activations_at schedule.1
  auto ← auto_at activations.1
  used ← used_at resources auto.1
  waited ← waited_at (activations.0 == 1) events used.1
  ended ← object_end waited.1
  Ok (record { name = record { text = text }; rule = record { priority = priority.0; activations = activations.0; preemptable = schedule.0; extended = has_any waited.0 }; auto = auto.0; resources = used.0; events = waited.0 }, ended)

unfoldable pub task_at : List Name → List Name → List TaskRow → List ℕ × List ℕ → Scan → Read TaskRow
task_at resources events tasks h s = do
  named ← fresh (list_any (λ row. is_named h.0 row.name) tasks) h.1 s
  task_body_at resources events h.0 named

abbrev pub tasks_at : List Name → List Name → Scan → Read (List TaskRow)
tasks_at resources events s = many (header (codes "  TASK t_")) (task_at resources events) 64 [] s
