-- What is read is well configured, and its names have the form of one; so a text is read as what it says.
use Rattle.std.proofs.Common.{◌≡◌, ℕ, List, codes, Ok, ap, subst, ◌∙◌}
use Rattle.osek_core.specs.declared.tables.Name.{Name}
use Rattle.osek_core.specs.declared.tables.CounterRow.{CounterRow}
use Rattle.osek_core.specs.declared.tables.TaskRow.{TaskRow}
use Rattle.osek_core.specs.declared.tables.AlarmRow.{AlarmRow}
use Rattle.osek_core.specs.declared.tables.Tables.{Tables}
use Rattle.osek_core.specs.Tables.Limits.{IsCounterRule}
use Rattle.osek_core.specs.Tables.WellConfigured.{IsTaskOf, IsAlarmOf, IsWellConfigured}
use Rattle.oil_in.specs.Forms.{header}
use Rattle.oil_in.specs.Scan.{Scan}
use Rattle.oil_in.specs.Objects.{event_at, events_at, resource_at, resources_at, counter_at, counters_at}
use Rattle.oil_in.specs.Tasks.{task_at, tasks_at}
use Rattle.oil_in.specs.Alarms.{alarm_at, alarms_at}
use Rattle.oil_in.specs.Reading.{fixed_lines, opening_lines, closed_at, objects_at, oil_read}
use Rattle.oil_in.specs.Says.{HasNames, Says, ReadsWhatIsSaid}
use Rattle.oil_in.proofs.Inversion.{same_Ok, bind_ok}
use Rattle.oil_in.proofs.TextOfAll.{read-is-printed}
use Rattle.oil_in.proofs.ReadOfAll.{comes-back}
use Rattle.oil_in.proofs.Distinct.{differ_of}
use Rattle.oil_in.proofs.RulesOfObjects.{all-obey, event-obeys, resource-obeys, counter-obeys}
use Rattle.oil_in.proofs.RulesOfTasks.{task-obeys}
use Rattle.oil_in.proofs.RulesOfAlarms.{alarm-obeys}

objects_obey : (s : Scan) (x : Tables × Scan) → objects_at s ≡ Ok x → IsWellConfigured x.0 × HasNames x.0
unfolding objects_at
objects_obey s x h =
    let a = bind_ok (events_at s) _ x h in
    let b = bind_ok (resources_at a.0.1) _ x a.2 in
    let c = bind_ok (counters_at b.0.1) _ x b.2 in
    let d = bind_ok (tasks_at b.0.0 a.0.0 c.0.1) _ x c.2 in
    let e = bind_ok (alarms_at a.0.0 c.0.0 d.0.0 d.0.1) _ x d.2 in
    let tables : Tables = record { events = a.0.0; resources = b.0.0; counters = c.0.0; tasks = d.0.0; alarms = e.0.0 } in
    let made : (tables, e.0.1) ≡ x = same_Ok (tables, e.0.1) x e.2 in
    let events = all-obey (header (codes "  EVENT e_")) event_at (λ (n : Name). n) (λ _. Unit {0}) event-obeys 31 s a.0 a.1 in
    let resources = all-obey (header (codes "  RESOURCE r_")) resource_at (λ (n : Name). n) (λ _. Unit {0}) resource-obeys 32 a.0.1 b.0 b.1 in
    let counters = all-obey (header (codes "  COUNTER c_")) counter_at (λ (row : CounterRow). row.name) (λ row. IsCounterRule row.rule) counter-obeys 8 b.0.1 c.0 c.1 in
    let tasks = all-obey (header (codes "  TASK t_")) (task_at b.0.0 a.0.0) (λ (row : TaskRow). row.name) (IsTaskOf tables) (task-obeys tables) 64 c.0.1 d.0 d.1 in
    let alarms = all-obey (header (codes "  ALARM a_")) (alarm_at a.0.0 c.0.0 d.0.0) (λ (row : AlarmRow). row.name) (IsAlarmOf tables) (alarm-obeys tables) 64 d.0.1 e.0 e.1 in
    let configured : IsWellConfigured tables = record {
      small = record { events = events.small; resources = resources.small; counters = counters.small; tasks = tasks.small; alarms = alarms.small };
      events = events.distinct;
      resources = resources.distinct;
      counters = differ_of (λ (row : CounterRow). row.name) c.0.0 counters.distinct;
      tasks = differ_of (λ (row : TaskRow). row.name) d.0.0 tasks.distinct;
      alarms = differ_of (λ (row : AlarmRow). row.name) e.0.0 alarms.distinct;
      each_counter = counters.rules;
      each_task = tasks.rules;
      each_alarm = alarms.rules;
    } in
    let names : HasNames tables = record { events = events.names; resources = resources.names; counters = counters.names; tasks = tasks.names; alarms = alarms.names } in
    let P : Tables × Scan → Type 0 = λ y. IsWellConfigured y.0 × HasNames y.0 in
    subst P made (configured, names)

pub read-is-said : (text : List ℕ) (tables : Tables) → oil_read text ≡ Ok tables → Says text tables
unfolding oil_read
read-is-said text tables h =
    let opened = bind_ok (fixed_lines opening_lines (record { text = text; line = 1 })) _ tables h in
    let objects = bind_ok (objects_at opened.0) _ tables opened.2 in
    let closed = bind_ok (closed_at objects.0.1) _ tables objects.2 in
    let made : objects.0.0 ≡ tables = same_Ok objects.0.0 tables closed.2 in
    let is = objects_obey opened.0 objects.0 objects.1 in
    let P : Tables → Type 0 = λ t. IsWellConfigured t × HasNames t in
    let sound = subst P made is in
    record { configured = sound.0; names = sound.1; printed = read-is-printed text tables h }

pub what-is-said : ReadsWhatIsSaid
what-is-said text tables = (read-is-said text tables, λ says. ap oil_read says.printed ∙ comes-back tables says.configured says.names)
