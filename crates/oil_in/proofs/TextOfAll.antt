-- A text that is read is the text of the tables that it is read as.
use Rattle.std.proofs.Common.{◌≡◌, ℕ, ◌++◌, ◌∷◌, [], List, codes, flat_map, Ok, refl, ap, subst, ◌∙◌}
use Rattle.kes_text.specs.Numbered.{numbered}
use Rattle.osek_core.specs.declared.tables.Tables.{Tables}
use Rattle.oil_out.specs.OilText.{opening_text, event_text, resource_text, counter_text, task_text, alarm_text, oil_text}
use Rattle.oil_in.specs.Pieces.{behind}
use Rattle.oil_in.specs.Forms.{header}
use Rattle.oil_in.specs.Scan.{Scan, fixed}
use Rattle.oil_in.specs.Objects.{event_at, events_at, resource_at, resources_at, counter_at, counters_at}
use Rattle.oil_in.specs.Tasks.{task_at, tasks_at}
use Rattle.oil_in.specs.Alarms.{alarm_at, alarms_at}
use Rattle.oil_in.specs.Reading.{fixed_lines, opening_lines, ended, closed_at, objects_at, oil_read}
use Rattle.oil_in.proofs.Inversion.{err-ok, same_Ok, bind_ok}
use Rattle.oil_in.proofs.TextOfForms.{then}
use Rattle.oil_in.proofs.TextOfObjects.{fixed-is, event-is, all-is}
use Rattle.oil_in.proofs.TextOfRows.{all_plain, resource-is, counter-is}
use Rattle.oil_in.proofs.TextOfTasks.{task-is}
use Rattle.oil_in.proofs.TextOfAlarms.{alarm-is}

lines_are : (texts : List (List ℕ)) (s after : Scan) → fixed_lines texts s ≡ Ok after → s.text ≡ flat_map (λ text. text) texts ++ after.text
unfolding fixed_lines
lines_are [] s after h = ap (λ (r : Scan). r.text) (same_Ok s after h)
lines_are (text ∷ texts) s after h =
    let one = bind_ok (fixed (behind text s.text) s) (fixed_lines texts) after h in
    then s.text text one.0.text (flat_map (λ text. text) texts) after.text (fixed-is text s one.0 one.1) (lines_are texts one.0 after one.2)

ended_is : (s : Scan) (rest : List ℕ) (after : Scan) → ended s rest ≡ Ok after → rest ≡ []
ended_is s [] after h = refl
ended_is s (byte ∷ rest) after h = absurd (err-ok _ after h)

closed_is : (s after : Scan) → closed_at s ≡ Ok after → s.text ≡ codes "};\n"
unfolding closed_at
closed_is s after h =
    let one = bind_ok (fixed (behind (codes "};\n") s.text) s) _ after h in
    fixed-is (codes "};\n") s one.0 one.1 ∙ ap (λ (w : List ℕ). codes "};\n" ++ w) (ended_is one.0 one.0.text after one.2)

objects_are : (before : List ℕ) (text : List ℕ) (s : Scan) (x : Tables × Scan) → text ≡ before ++ s.text → objects_at s ≡ Ok x
    → text ≡ (before ++ numbered event_text 0 x.0.events ++ flat_map resource_text x.0.resources ++ flat_map counter_text x.0.counters ++ flat_map (task_text x.0) x.0.tasks ++ flat_map (alarm_text x.0) x.0.alarms) ++ x.1.text
unfolding objects_at
objects_are before text s x front h =
    let a = bind_ok (events_at s) _ x h in
    let b = bind_ok (resources_at a.0.1) _ x a.2 in
    let c = bind_ok (counters_at b.0.1) _ x b.2 in
    let d = bind_ok (tasks_at b.0.0 a.0.0 c.0.1) _ x c.2 in
    let e = bind_ok (alarms_at a.0.0 c.0.0 d.0.0 d.0.1) _ x d.2 in
    let tables : Tables = record { events = a.0.0; resources = b.0.0; counters = c.0.0; tasks = d.0.0; alarms = e.0.0 } in
    let made : (tables, e.0.1) ≡ x = same_Ok (tables, e.0.1) x e.2 in
    let ta = numbered event_text 0 a.0.0 in
    let tb = flat_map resource_text b.0.0 in
    let tc = flat_map counter_text c.0.0 in
    let td = flat_map (task_text tables) d.0.0 in
    let te = flat_map (alarm_text tables) e.0.0 in
    let one = then text before s.text ta a.0.1.text front (all-is (header (codes "  EVENT e_")) event_at event_text event-is 31 s a.0 a.1) in
    let two = then text (before ++ ta) a.0.1.text tb b.0.1.text one (all_plain (header (codes "  RESOURCE r_")) resource_at resource_text resource-is 32 a.0.1 b.0 b.1) in
    let three = then text (before ++ ta ++ tb) b.0.1.text tc c.0.1.text two (all_plain (header (codes "  COUNTER c_")) counter_at counter_text counter-is 8 b.0.1 c.0 c.1) in
    let four = then text (before ++ ta ++ tb ++ tc) c.0.1.text td d.0.1.text three (all_plain (header (codes "  TASK t_")) (task_at b.0.0 a.0.0) (task_text tables) (task-is tables) 64 c.0.1 d.0 d.1) in
    let five = then text (before ++ ta ++ tb ++ tc ++ td) d.0.1.text te e.0.1.text four (all_plain (header (codes "  ALARM a_")) (alarm_at a.0.0 c.0.0 d.0.0) (alarm_text tables) (alarm-is tables) 64 d.0.1 e.0 e.1) in
    let P : Tables × Scan → Type 0 = λ y. text ≡ (before ++ numbered event_text 0 y.0.events ++ flat_map resource_text y.0.resources ++ flat_map counter_text y.0.counters ++ flat_map (task_text y.0) y.0.tasks ++ flat_map (alarm_text y.0) y.0.alarms) ++ y.1.text in
    subst P made five

pub read-is-printed : (text : List ℕ) (tables : Tables) → oil_read text ≡ Ok tables → text ≡ oil_text tables
unfolding oil_read
read-is-printed text tables h =
    let opened = bind_ok (fixed_lines opening_lines (record { text = text; line = 1 })) _ tables h in
    let objects = bind_ok (objects_at opened.0) _ tables opened.2 in
    let closed = bind_ok (closed_at objects.0.1) _ tables objects.2 in
    let made : objects.0.0 ≡ tables = same_Ok objects.0.0 tables closed.2 in
    let front : text ≡ opening_text ++ opened.0.text = lines_are opening_lines (record { text = text; line = 1 }) opened.0 opened.1 in
    let all = objects_are opening_text text opened.0 objects.0 front objects.1 in
    let P : Tables → Type 0 = λ t. text ≡ oil_text t in
    subst P made (all ∙ ap (λ (w : List ℕ). (opening_text ++ numbered event_text 0 objects.0.0.events ++ flat_map resource_text objects.0.0.resources ++ flat_map counter_text objects.0.0.counters ++ flat_map (task_text objects.0.0) objects.0.0.tasks ++ flat_map (alarm_text objects.0.0) objects.0.0.alarms) ++ w) (closed_is objects.0.1 closed.0 closed.1))
