-- What is read where the lines of alarms stand.
use Rattle.std.proofs.Common.{◌≡◌, ℕ, ◌<◌, ◌≤◌, ◌^◌, inl, inr, ◌++◌, [], List, Bool, true, false, codes, decimal, length, All, Contains, IfSome, Option, Some, None, Ok, refl, ap, sym, subst, ◌∙◌, arith, le-leb, eq-eqb, get_or}
use Rattle.std.specs.Prelude.{slice_get, ◌==◌, ◌||◌}
use Rattle.std.specs.List.{list_any}
use Rattle.std.specs.Option.{option_map_or}
use Rattle.std.proofs.lemmas.List.Folds.{list_any_at}
use Rattle.osek_core.specs.declared.tables.Name.{Name}
use Rattle.osek_core.specs.declared.tables.CounterRow.{CounterRow}
use Rattle.osek_core.specs.declared.tables.CounterRule.{CounterRule}
use Rattle.osek_core.specs.declared.tables.TaskRow.{TaskRow}
use Rattle.osek_core.specs.declared.tables.AlarmRow.{AlarmRow}
use Rattle.osek_core.specs.declared.tables.Action.{Action}
use Rattle.osek_core.specs.declared.tables.Action.TheVariants.{Activate, Set}
use Rattle.osek_core.specs.declared.tables.Start.{Start}
use Rattle.osek_core.specs.declared.tables.Tables.{Tables}
use Rattle.osek_core.specs.Tables.Limits.{IsStart}
use Rattle.osek_core.specs.Tables.WellConfigured.{IsActionOf, IsAlarmOf}
use Rattle.oil_out.specs.OilText.{attribute, counter_name, task_name, name_at, action_text, start_text, alarm_text}
use Rattle.oil_in.specs.declared.pieces.Number.TheVariants.{Value}
use Rattle.oil_in.specs.Pieces.{behind}
use Rattle.oil_in.specs.Forms.{header, reference, name_in, activate_line, set_line, started_line, unstarted_line}
use Rattle.oil_in.specs.Scan.{Scan, next}
use Rattle.oil_in.specs.Alarms.{counter_place_at, rule_at, waits, action_at, is_start, start_at, alarm_body_at, alarm_at}
use Rattle.oil_in.specs.Says.{IsName}
use Rattle.oil_in.proofs.PieceLemmas.{behind-front}
use Rattle.oil_in.proofs.InTurn.{at_place, holds_at}
use Rattle.oil_in.proofs.Distinct.{Distinct, IsNew, position-found}
use Rattle.oil_in.proofs.TextOfForms.{reference-whole, word-whole, words-whole, three}
use Rattle.oil_in.proofs.TextOfAlarms.{alarm_attributes}
use Rattle.oil_in.proofs.ReadOfForms.{name_in-front, number_in-front, name_in-none, object-front}
use Rattle.oil_in.proofs.ReadOfObjects.{Gives, Reads, end-read}
use Rattle.oil_in.proofs.ReadOfRows.{NamesFit}

-- what the lines of alarms name is there, and is found by its name
pub record OthersFit (tables : Tables) : Type 0 where
  pub events : NamesFit tables.events
  pub counters_differ : Distinct (λ (row : CounterRow). row.name) tables.counters
  pub counter_names : All (λ row. IsName row.name) tables.counters
  pub tasks_differ : Distinct (λ (row : TaskRow). row.name) tables.tasks
  pub task_names : All (λ row. IsName row.name) tables.tasks

counter-read : (tables : Tables) (k : ℕ) (counter : CounterRow) (s : Scan) (rest : List ℕ) → OthersFit tables → slice_get tables.counters k ≡ Some counter
    → s.text ≡ attribute (codes "COUNTER") (codes "c_" ++ counter_name tables k) ++ rest → Gives (counter_place_at tables.counters s) k rest
unfolding counter_place_at
counter-read tables k counter s rest fit at e =
    let word : counter_name tables k ≡ counter.name.text = ap (λ (o : Option CounterRow). option_map_or (λ row. row.name.text) o []) at in
    let whole : s.text ≡ codes "    COUNTER = c_" ++ (counter.name.text ++ (codes ";\n" ++ rest)) = e ∙ ap (λ (w : List ℕ). attribute (codes "COUNTER") (codes "c_" ++ w) ++ rest) word ∙ sym (reference-whole (codes "COUNTER") (codes "c_") counter.name.text rest) in
    let is = holds_at (λ (row : CounterRow). IsName row.name) tables.counters k counter fit.counter_names at in
    let first : reference (codes "    COUNTER = c_") s.text ≡ Some (counter.name.text, rest) = ap (name_in (codes "    COUNTER = c_") (codes ";\n")) whole ∙ name_in-front (codes "    COUNTER = c_") (codes ";\n") counter.name rest is refl in
    let found = position-found (λ (row : CounterRow). row.name) tables.counters k counter fit.counters_differ at in
    record { after = next s rest; read = rw (first, found) refl; left = refl }

-- ---- actions

task_word : (tables : Tables) (k : ℕ) (task : TaskRow) → slice_get tables.tasks k ≡ Some task → task_name tables k ≡ task.name.text
task_word tables k task at = ap (λ (o : Option TaskRow). option_map_or (λ row. row.name.text) o []) at

activation-read : (tables : Tables) (k : ℕ) (s : Scan) (rest : List ℕ) → OthersFit tables → k < length tables.tasks
    → s.text ≡ attribute (codes "ACTION") (action_text tables (Activate k)) ++ rest → Gives (action_at tables.events tables.tasks s) (Activate k) rest
unfolding action_at
activation-read tables k s rest fit within e =
    let there = at_place tables.tasks k within in
    let name = there.0.name in
    let front = codes "    ACTION = ACTIVATETASK { TASK = t_" in
    let whole : s.text ≡ front ++ (name.text ++ (codes "; };\n" ++ rest)) = e ∙ ap (λ (w : List ℕ). attribute (codes "ACTION") (codes "ACTIVATETASK { TASK = t_" ++ w ++ codes "; }") ++ rest) (task_word tables k there.0 there.1) ∙ sym (word-whole (codes "ACTION") (codes "ACTIVATETASK { TASK = t_") name.text (codes "; }") rest) in
    let is = holds_at (λ (row : TaskRow). IsName row.name) tables.tasks k there.0 fit.task_names there.1 in
    let first : activate_line s.text ≡ Some (name.text, rest) = ap (name_in front (codes "; };\n")) whole ∙ name_in-front front (codes "; };\n") name rest is refl in
    let found = position-found (λ (row : TaskRow). row.name) tables.tasks k there.0 fit.tasks_differ there.1 in
    record { after = next s rest; read = rw (first, found) refl; left = refl }

no_activation : (rest : List ℕ) → behind (codes "    ACTION = ACTIVATETASK { TASK = t_") (codes "    ACTION = SETEVENT { TASK = t_" ++ rest) ≡ None
unfolding behind
no_activation rest = refl

set_line-front : (task event : Name) (rest : List ℕ) → IsName task → IsName event
    → set_line (codes "    ACTION = SETEVENT { TASK = t_" ++ (task.text ++ (codes "; EVENT = e_" ++ (event.text ++ (codes "; };\n" ++ rest))))) ≡ Some (task.text, event.text, rest)
unfolding set_line
set_line-front task event rest is_task is_event =
    rw (name_in-front (codes "    ACTION = SETEVENT { TASK = t_") (codes "; EVENT = e_") task (event.text ++ (codes "; };\n" ++ rest)) is_task refl, name_in-front [] (codes "; };\n") event rest is_event refl) refl

waits_is : (tasks : List TaskRow) (task event : ℕ) (row : TaskRow) → slice_get tasks task ≡ Some row → Contains row.events event → waits tasks task event ≡ true
waits_is tasks task event row at has =
    ap (λ (o : Option TaskRow). option_map_or (λ r. list_any (λ k. k == event) r.events) o false) at
    ∙ list_any_at (λ k. k == event) row.events has.0 event has.1 (eq-eqb (get_or row.events has.0 event) event has.2)

set-read : (tables : Tables) (k j : ℕ) (task : TaskRow) (s : Scan) (rest : List ℕ) → OthersFit tables → slice_get tables.tasks k ≡ Some task → Contains task.events j → j < length tables.events
    → s.text ≡ attribute (codes "ACTION") (action_text tables (Set k j)) ++ rest → Gives (action_at tables.events tables.tasks s) (Set k j) rest
unfolding action_at
set-read tables k j task s rest fit at has within e =
    let there = at_place tables.events j within in
    let word : name_at tables.events j ≡ there.0.text = ap (λ (o : Option Name). option_map_or (λ n. n.text) o []) there.1 in
    let front = codes "    ACTION = SETEVENT { TASK = t_" in
    let behind_it = task.name.text ++ (codes "; EVENT = e_" ++ (there.0.text ++ (codes "; };\n" ++ rest))) in
    let whole : s.text ≡ front ++ behind_it = e
    ∙ ap (λ (w : List ℕ). attribute (codes "ACTION") (codes "SETEVENT { TASK = t_" ++ w ++ codes "; EVENT = e_" ++ name_at tables.events j ++ codes "; }") ++ rest) (task_word tables k task at)
    ∙ ap (λ (w : List ℕ). attribute (codes "ACTION") (codes "SETEVENT { TASK = t_" ++ task.name.text ++ codes "; EVENT = e_" ++ w ++ codes "; }") ++ rest) word
    ∙ sym (words-whole (codes "ACTION") (codes "SETEVENT { TASK = t_") task.name.text (codes "; EVENT = e_") there.0.text (codes "; }") rest) in
    let is_task = holds_at (λ (row : TaskRow). IsName row.name) tables.tasks k task fit.task_names at in
    let is_event = holds_at IsName tables.events j there.0 fit.events.1 there.1 in
    let none : activate_line s.text ≡ None = ap activate_line whole ∙ name_in-none (codes "    ACTION = ACTIVATETASK { TASK = t_") (codes "; };\n") (front ++ behind_it) (no_activation behind_it) in
    let first : set_line s.text ≡ Some (task.name.text, there.0.text, rest) = ap set_line whole ∙ set_line-front task.name there.0 rest is_task is_event in
    let task_found = position-found (λ (row : TaskRow). row.name) tables.tasks k task fit.tasks_differ at in
    let event_found = position-found (λ (n : Name). n) tables.events j there.0 fit.events.0 there.1 in
    record { after = next s rest; read = rw (none, first, task_found, event_found, waits_is tables.tasks k j task at has) refl; left = refl }

-- each event that a task waits for is there
abbrev pub EventsStand : Tables → Type 0
EventsStand tables = All (λ (row : TaskRow). All (λ k. k < length tables.events) row.events) tables.tasks

action-read : (tables : Tables) (action : Action) (s : Scan) (rest : List ℕ) → OthersFit tables → EventsStand tables → IsActionOf tables action
    → s.text ≡ attribute (codes "ACTION") (action_text tables action) ++ rest → Gives (action_at tables.events tables.tasks s) action rest
action-read tables (Activate k) s rest fit stand is e = activation-read tables k s rest fit is e
action-read tables (Set k j) s rest fit stand is e =
    let has = is.1.1 in
    let each = holds_at (λ (row : TaskRow). All (λ i. i < length tables.events) row.events) tables.tasks k is.0 stand is.1.0 in
    let within : j < length tables.events = subst (λ (i : ℕ). i < length tables.events) has.2 (each has.0 j has.1) in
    set-read tables k j is.0 s rest fit is.1.0 has within e

-- ---- starts

or_true : (b : Bool) → b || true ≡ true
or_true true = refl
or_true false = refl

is_start_is : (rule : CounterRule) (start : Start) → IsStart rule start → is_start rule start.first start.cycle ≡ true
is_start_is rule start is =
    elim is.cycle [
      | inl none ↦ rw (le-leb 1 start.first is.at_least, le-leb start.first rule.max is.at_most, eq-eqb start.cycle 0 none) refl
      | inr some ↦ rw (le-leb 1 start.first is.at_least, le-leb start.first rule.max is.at_most, le-leb rule.min start.cycle some.0, le-leb start.cycle rule.max some.1) (or_true (start.cycle == 0))
    ]

started_line-front : (first cycle : ℕ) (rest : List ℕ) → first < 2 ^ 64 → cycle < 2 ^ 64
    → started_line (codes "    AUTOSTART = TRUE { ALARMTIME = " ++ (decimal first ++ (codes "; CYCLETIME = " ++ (decimal cycle ++ (codes "; APPMODE = mode; };\n" ++ rest))))) ≡ Some (Value first, Value cycle, rest)
unfolding started_line
started_line-front first cycle rest small_first small_cycle =
    rw (number_in-front (codes "    AUTOSTART = TRUE { ALARMTIME = ") (codes "; CYCLETIME = ") first (decimal cycle ++ (codes "; APPMODE = mode; };\n" ++ rest)) small_first refl, number_in-front [] (codes "; APPMODE = mode; };\n") cycle rest small_cycle refl) refl

is_started : (rest : List ℕ) → unstarted_line (codes "    AUTOSTART = TRUE { ALARMTIME = " ++ rest) ≡ None
unfolding behind
is_started rest = refl

cycle_fits : (rule : CounterRule) (start : Start) → IsStart rule start → start.cycle ≤ rule.max
cycle_fits rule start is = elim is.cycle [ inl none ↦ omega (arith, none) | inr some ↦ some.1 ]

start-read : (rule : CounterRule) (start : Option Start) (s : Scan) (rest : List ℕ) → rule.max ≤ 2147483647 → IfSome start (IsStart rule) → s.text ≡ attribute (codes "AUTOSTART") (start_text start) ++ rest
    → Gives (start_at rule s) start rest
unfolding start_at attribute
start-read rule None s rest small is e =
    let first : unstarted_line s.text ≡ Some rest = ap unstarted_line e ∙ behind-front (codes "    AUTOSTART = FALSE;\n") rest in
    record { after = next s rest; read = rw first refl; left = refl }
start-read rule (Some start) s rest small is e =
    let behind_it = decimal start.first ++ (codes "; CYCLETIME = " ++ (decimal start.cycle ++ (codes "; APPMODE = mode; };\n" ++ rest))) in
    let whole : s.text ≡ codes "    AUTOSTART = TRUE { ALARMTIME = " ++ behind_it = e ∙ sym (words-whole (codes "AUTOSTART") (codes "TRUE { ALARMTIME = ") (decimal start.first) (codes "; CYCLETIME = ") (decimal start.cycle) (codes "; APPMODE = mode; }") rest) in
    let none : unstarted_line s.text ≡ None = ap unstarted_line whole ∙ is_started behind_it in
    let first : started_line s.text ≡ Some (Value start.first, Value start.cycle, rest) = ap started_line whole ∙ started_line-front start.first start.cycle rest (omega (arith, is.at_most)) (omega (arith, cycle_fits rule start is)) in
    record { after = next s rest; read = rw (none, first, is_start_is rule start is) refl; left = refl }

-- ---- alarms

abbrev pub CountersFit : Tables → Type 0
CountersFit tables = All (λ (row : CounterRow). row.rule.max ≤ 2147483647) tables.counters

body-read : (tables : Tables) (row : AlarmRow) (s : Scan) (rest : List ℕ) → OthersFit tables → EventsStand tables → CountersFit tables → IsAlarmOf tables row → s.text ≡ alarm_attributes tables row ++ (codes "  };\n" ++ rest)
    → Gives (alarm_body_at tables.events tables.counters tables.tasks row.name.text s) row rest
unfolding alarm_body_at
body-read tables row s rest fit stand small is e =
    let a = attribute (codes "COUNTER") (codes "c_" ++ counter_name tables row.counter) in
    let b = attribute (codes "ACTION") (action_text tables row.action) in
    let c = attribute (codes "AUTOSTART") (start_text row.start) in
    let end = codes "  };\n" ++ rest in
    let counter = counter-read tables row.counter is.counter.0 s (b ++ (c ++ end)) fit is.counter.1.0 (e ∙ three a b c end) in
    let action = action-read tables row.action counter.after (c ++ end) fit stand is.action counter.left in
    let rule : rule_at tables.counters row.counter ≡ is.counter.0.rule = ap (λ (o : Option CounterRow). option_map_or (λ r. r.rule) o (record { max = 0; base = 0; min = 0 })) is.counter.1.0 in
    let within = holds_at (λ (r : CounterRow). r.rule.max ≤ 2147483647) tables.counters row.counter is.counter.0 small is.counter.1.0 in
    let start = start-read is.counter.0.rule row.start action.after end within is.counter.1.1 action.left in
    let ended = end-read start.after rest start.left in
    record { after = ended.after; read = rw (counter.read, action.read, rule, start.read, ended.read) (refl {a = Ok (row, ended.after)}); left = ended.left }

pub alarm-read : (tables : Tables) → OthersFit tables → EventsStand tables → CountersFit tables
    → Reads (header (codes "  ALARM a_")) (alarm_at tables.events tables.counters tables.tasks) (λ _ row. alarm_text tables row) (λ alarms row. IsNew (λ (other : AlarmRow). other.name) alarms row × IsAlarmOf tables row)
unfolding alarm_at alarm_text
alarm-read tables fit stand small alarms row s rest fits e =
    let attributes = alarm_attributes tables row in
    let body = attributes ++ (codes "  };\n" ++ rest) in
    let first = object-front (codes "ALARM") (codes "a_") row.name attributes s.text rest fits.0.1 e in
    let read = body-read tables row (next s body) rest fit stand small fits.1 refl in
    ((row.name.text, body), first, record { after = read.after; read = rw (fits.0.0, read.read) refl; left = read.left })
