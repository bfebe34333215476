-- A text of tables is read as these tables.
use Rattle.std.proofs.Common.{◌≡◌, ℕ, ◌<◌, ◌≤◌, ◌++◌, ◌∷◌, [], List, codes, length, flat_map, None, Ok, refl, sym, ap, ◌∙◌, arith, append_assoc, length-append}
use Rattle.kes_text.specs.Numbered.{numbered}
use Rattle.osek_core.specs.declared.tables.Name.{Name}
use Rattle.osek_core.specs.declared.tables.CounterRow.{CounterRow}
use Rattle.osek_core.specs.declared.tables.TaskRow.{TaskRow}
use Rattle.osek_core.specs.declared.tables.AlarmRow.{AlarmRow}
use Rattle.osek_core.specs.declared.tables.Tables.{Tables}
use Rattle.osek_core.specs.Tables.Limits.{IsCounterRule}
use Rattle.osek_core.specs.Tables.WellConfigured.{IsTaskOf, IsAlarmOf, IsWellConfigured}
use Rattle.oil_out.specs.OilText.{opening_text, event_text, resource_text, counter_text, task_text, alarm_text, oil_text}
use Rattle.oil_in.specs.Pieces.{behind}
use Rattle.oil_in.specs.Forms.{header}
use Rattle.oil_in.specs.Scan.{Scan, many}
use Rattle.oil_in.specs.Objects.{event_at, events_at, resource_at, resources_at, counter_at, counters_at}
use Rattle.oil_in.specs.Tasks.{task_at, tasks_at}
use Rattle.oil_in.specs.Alarms.{alarm_at, alarms_at}
use Rattle.oil_in.specs.Reading.{fixed_lines, opening_lines, ended, closed_at, objects_at, oil_read}
use Rattle.oil_in.specs.Says.{HasNames, ComesBack}
use Rattle.oil_in.proofs.ManyLemmas.{Form, ObjectOf}
use Rattle.oil_in.proofs.InTurn.{InTurn}
use Rattle.oil_in.proofs.Distinct.{IsNew, distinct_of, new_in_turn, both_in_turn}
use Rattle.oil_in.proofs.TextOfRows.{plain}
use Rattle.oil_in.proofs.ReadOfForms.{name_in-none}
use Rattle.oil_in.proofs.ReadOfObjects.{Gives, Passes, Reads, fixed-read, many-read, event-read}
use Rattle.oil_in.proofs.ReadOfRows.{resource-read, counter-read}
use Rattle.oil_in.proofs.ReadOfTasks.{task-read}
use Rattle.oil_in.proofs.ReadOfAlarms.{OthersFit, EventsStand, CountersFit, alarm-read}
use Rattle.oil_in.proofs.OtherKinds.{alarms_on, tasks_on, counters_on, resources_on, no_event, no_resource, no_counter, no_task, no_alarm}

lines-read : (texts : List (List ℕ)) (s : Scan) (rest : List ℕ) → s.text ≡ flat_map (λ text. text) texts ++ rest → Passes (fixed_lines texts s) rest
unfolding fixed_lines
lines-read [] s rest e = record { after = s; read = refl; left = e }
lines-read (text ∷ texts) s rest e =
    let one = fixed-read text s (flat_map (λ text. text) texts ++ rest) (e ∙ append_assoc text (flat_map (λ text. text) texts) rest) in
    let more = lines-read texts one.after rest one.left in
    record { after = more.after; read = rw one.read more.read; left = more.left }

closed-read : (s : Scan) → s.text ≡ codes "};\n" → (after : Scan) × (closed_at s ≡ Ok after)
unfolding closed_at
closed-read s e =
    let one = fixed-read (codes "};\n") s [] e in
    (one.after, rw one.read (ap (ended one.after) one.left))

-- all objects of one kind
all-read : {X : Type 0} (form : Form) (object : ObjectOf X) (text : X → List ℕ) (Fits : List X → X → Type 0) → Reads form object (λ _ x. text x) Fits
    → (all : List X) → InTurn Fits all → (rest : List ℕ) → form rest ≡ None → (room : ℕ) (s : Scan) → length all ≤ room → s.text ≡ flat_map text all ++ rest → Gives (many form object room [] s) all rest
all-read form object text Fits reads all turn rest none room s fit e =
    many-read form object (λ _ x. text x) Fits reads all turn rest none room [] all s fit refl (e ∙ ap (λ (w : List ℕ). w ++ rest) (sym (plain text 0 all)))

none_of : (front rest : List ℕ) → behind front rest ≡ None → header front rest ≡ None
none_of front rest e = name_in-none front (codes " {\n") rest e

events-read : (tables : Tables) → IsWellConfigured tables → HasNames tables → (s : Scan) → s.text ≡ numbered event_text 0 tables.events ++ resources_on tables → Gives (events_at s) tables.events (resources_on tables)
events-read tables is names s e =
    let new = new_in_turn (λ (n : Name). n) tables.events is.events names.events in
    let turn : InTurn (λ events name. IsNew (λ (n : Name). n) events name × (length events < 31)) tables.events = λ before x after split.
    (new before x after split, omega (arith, is.small.events, ap (λ (xs : List Name). length xs) split, length-append before (x ∷ after))) in
    many-read (header (codes "  EVENT e_")) event_at event_text (λ events name. IsNew (λ (n : Name). n) events name × (length events < 31)) event-read tables.events turn (resources_on tables)
    (none_of (codes "  EVENT e_") (resources_on tables) (no_event tables)) 31 [] tables.events s is.small.events refl e

resources-read : (tables : Tables) → IsWellConfigured tables → HasNames tables → (s : Scan) → s.text ≡ resources_on tables → Gives (resources_at s) tables.resources (counters_on tables)
resources-read tables is names s e =
    all-read (header (codes "  RESOURCE r_")) resource_at resource_text (IsNew (λ (n : Name). n)) resource-read tables.resources (new_in_turn (λ (n : Name). n) tables.resources is.resources names.resources) (counters_on tables)
    (none_of (codes "  RESOURCE r_") (counters_on tables) (no_resource tables)) 32 s is.small.resources e

counters-read : (tables : Tables) → IsWellConfigured tables → HasNames tables → (s : Scan) → s.text ≡ counters_on tables → Gives (counters_at s) tables.counters (tasks_on tables)
counters-read tables is names s e =
    let name : CounterRow → Name = λ row. row.name in
    all-read (header (codes "  COUNTER c_")) counter_at counter_text (λ counters row. IsNew name counters row × IsCounterRule row.rule) counter-read tables.counters
    (both_in_turn name (λ row. IsCounterRule row.rule) tables.counters (distinct_of name tables.counters is.counters) names.counters is.each_counter) (tasks_on tables)
    (none_of (codes "  COUNTER c_") (tasks_on tables) (no_counter tables)) 8 s is.small.counters e

tasks-read : (tables : Tables) → IsWellConfigured tables → HasNames tables → (s : Scan) → s.text ≡ tasks_on tables → Gives (tasks_at tables.resources tables.events s) tables.tasks (alarms_on tables)
tasks-read tables is names s e =
    let name : TaskRow → Name = λ row. row.name in
    all-read (header (codes "  TASK t_")) (task_at tables.resources tables.events) (task_text tables) (λ tasks row. IsNew name tasks row × IsTaskOf tables row) (task-read tables (is.resources, names.resources) (is.events, names.events)) tables.tasks
    (both_in_turn name (IsTaskOf tables) tables.tasks (distinct_of name tables.tasks is.tasks) names.tasks is.each_task) (alarms_on tables)
    (none_of (codes "  TASK t_") (alarms_on tables) (no_task tables)) 64 s is.small.tasks e

alarms-read : (tables : Tables) → IsWellConfigured tables → HasNames tables → (s : Scan) → s.text ≡ alarms_on tables → Gives (alarms_at tables.events tables.counters tables.tasks s) tables.alarms (codes "};\n")
alarms-read tables is names s e =
    let name : AlarmRow → Name = λ row. row.name in
    let fit : OthersFit tables = record {
      events = (is.events, names.events);
      counters_differ = distinct_of (λ (row : CounterRow). row.name) tables.counters is.counters;
      counter_names = names.counters;
      tasks_differ = distinct_of (λ (row : TaskRow). row.name) tables.tasks is.tasks;
      task_names = names.tasks;
    } in
    let stand : EventsStand tables = λ k d lt. (is.each_task k d lt).events in
    let small : CountersFit tables = λ k d lt. (is.each_counter k d lt).max_at_most in
    all-read (header (codes "  ALARM a_")) (alarm_at tables.events tables.counters tables.tasks) (alarm_text tables) (λ alarms row. IsNew name alarms row × IsAlarmOf tables row) (alarm-read tables fit stand small) tables.alarms
    (both_in_turn name (IsAlarmOf tables) tables.alarms (distinct_of name tables.alarms is.alarms) names.alarms is.each_alarm) (codes "};\n")
    (none_of (codes "  ALARM a_") (codes "};\n") no_alarm) 64 s is.small.alarms e

objects-read : (tables : Tables) → IsWellConfigured tables → HasNames tables → (s : Scan) → s.text ≡ numbered event_text 0 tables.events ++ resources_on tables → Gives (objects_at s) tables (codes "};\n")
unfolding objects_at
objects-read tables is names s e =
    let events = events-read tables is names s e in
    let resources = resources-read tables is names events.after events.left in
    let counters = counters-read tables is names resources.after resources.left in
    let tasks = tasks-read tables is names counters.after counters.left in
    let alarms = alarms-read tables is names tasks.after tasks.left in
    record { after = alarms.after; read = rw (events.read, resources.read, counters.read, tasks.read, alarms.read) refl; left = alarms.left }

seven : (a b c d e f g : List ℕ) → a ++ b ++ c ++ d ++ e ++ f ++ g ≡ a ++ (b ++ (c ++ (d ++ (e ++ (f ++ g)))))
seven a b c d e f g = simp append_assoc

pub comes-back : ComesBack
unfolding oil_read
comes-back tables is names =
    let text = oil_text tables in
    let parts : text ≡ opening_text ++ (numbered event_text 0 tables.events ++ resources_on tables) =
    seven opening_text (numbered event_text 0 tables.events) (flat_map resource_text tables.resources) (flat_map counter_text tables.counters) (flat_map (task_text tables) tables.tasks) (flat_map (alarm_text tables) tables.alarms) (codes "};\n") in
    let opened = lines-read opening_lines (record { text = text; line = 1 }) (numbered event_text 0 tables.events ++ resources_on tables) parts in
    let objects = objects-read tables is names opened.after opened.left in
    let closed = closed-read objects.after objects.left in
    rw (opened.read, objects.read, closed.1) refl
