-- What stands at the front of the text where tasks are read.
use Rattle.std.proofs.Common.{◌≡◌, ℕ, ◌++◌, List, codes, decimal, flat_map, Ok, ap, subst, ◌∙◌}
use Rattle.std.specs.Prelude.{◌==◌}
use Rattle.std.specs.List.{list_any}
use Rattle.osek_core.specs.declared.tables.Name.{Name}
use Rattle.osek_core.specs.declared.tables.TaskRow.{TaskRow}
use Rattle.osek_core.specs.declared.tables.Tables.{Tables}
use Rattle.oil_out.specs.OilText.{attribute, name_at, schedule_text, activation_text, task_text}
use Rattle.oil_in.specs.Forms.{header}
use Rattle.oil_in.specs.Scan.{Scan}
use Rattle.oil_in.specs.Objects.{object_end, fresh, is_named}
use Rattle.oil_in.specs.Tasks.{has_any, priority_at, schedule_at, activations_at, auto_at, used_at, waited_at, task_body_at, task_at}
use Rattle.oil_in.proofs.Inversion.{same_Ok, bind_ok}
use Rattle.oil_in.proofs.TextOfForms.{name_in-is, object-whole, then}
use Rattle.oil_in.proofs.TextOfObjects.{Spells, end-is, fresh_is}
use Rattle.oil_in.proofs.TextOfRows.{priority_is, schedule_is, activations_is, auto_is, used_is, waited_is}

abbrev pub task_attributes : List Name → List Name → TaskRow → List ℕ
task_attributes resources events row =
    attribute (codes "PRIORITY") (decimal row.rule.priority)
    ++ attribute (codes "SCHEDULE") (schedule_text row.rule.preemptable)
    ++ attribute (codes "ACTIVATION") (decimal row.rule.activations)
    ++ attribute (codes "AUTOSTART") (activation_text row.auto)
    ++ flat_map (λ k. attribute (codes "RESOURCE") (codes "r_" ++ name_at resources k)) row.resources
    ++ flat_map (λ k. attribute (codes "EVENT") (codes "e_" ++ name_at events k)) row.events

body_is : (resources events : List Name) (text : List ℕ) (s : Scan) (x : TaskRow × Scan) → task_body_at resources events text s ≡ Ok x
    → (text ≡ x.0.name.text) × (s.text ≡ task_attributes resources events x.0 ++ (codes "  };\n" ++ x.1.text))
unfolding task_body_at
body_is resources events text s x h =
    let a = bind_ok (priority_at s) _ x h in
    let b = bind_ok (schedule_at a.0.1) _ x a.2 in
    let c = bind_ok (activations_at b.0.1) _ x b.2 in
    let d = bind_ok (auto_at c.0.1) _ x c.2 in
    let e = bind_ok (used_at resources d.0.1) _ x d.2 in
    let f = bind_ok (waited_at (c.0.0 == 1) events e.0.1) _ x e.2 in
    let g = bind_ok (object_end f.0.1) _ x f.2 in
    let row : TaskRow = record { name = record { text = text }; rule = record { priority = a.0.0; activations = c.0.0; preemptable = b.0.0; extended = has_any f.0.0 }; auto = d.0.0; resources = e.0.0; events = f.0.0 } in
    let made : (row, g.0) ≡ x = same_Ok (row, g.0) x g.2 in
    let ta = attribute (codes "PRIORITY") (decimal a.0.0) in
    let tb = attribute (codes "SCHEDULE") (schedule_text b.0.0) in
    let tc = attribute (codes "ACTIVATION") (decimal c.0.0) in
    let td = attribute (codes "AUTOSTART") (activation_text d.0.0) in
    let te = flat_map (λ k. attribute (codes "RESOURCE") (codes "r_" ++ name_at resources k)) e.0.0 in
    let tf = flat_map (λ k. attribute (codes "EVENT") (codes "e_" ++ name_at events k)) f.0.0 in
    let two = then s.text ta a.0.1.text tb b.0.1.text (priority_is s a.0 a.1) (schedule_is a.0.1 b.0 b.1) in
    let three = then s.text (ta ++ tb) b.0.1.text tc c.0.1.text two (activations_is b.0.1 c.0 c.1) in
    let four = then s.text (ta ++ tb ++ tc) c.0.1.text td d.0.1.text three (auto_is c.0.1 d.0 d.1) in
    let five = then s.text (ta ++ tb ++ tc ++ td) d.0.1.text te e.0.1.text four (used_is resources d.0.1 e.0 e.1) in
    let six = then s.text (ta ++ tb ++ tc ++ td ++ te) e.0.1.text tf f.0.1.text five (waited_is (c.0.0 == 1) events e.0.1 f.0 f.1) in
    let seven : s.text ≡ task_attributes resources events row ++ (codes "  };\n" ++ g.0.text) = six ∙ ap (λ (w : List ℕ). (ta ++ tb ++ tc ++ td ++ te ++ tf) ++ w) (end-is f.0.1 g.0 g.1) in
    let P : TaskRow × Scan → Type 0 = λ y. s.text ≡ task_attributes resources events y.0 ++ (codes "  };\n" ++ y.1.text) in
    (ap (λ (y : TaskRow × Scan). y.0.name.text) made, subst P made seven)

pub task-is : (tables : Tables) → Spells (header (codes "  TASK t_")) (task_at tables.resources tables.events) (λ _ row. task_text tables row)
unfolding task_at task_text
task-is tables tasks s h row after e o =
    let fresh_one = bind_ok (fresh (list_any (λ row. is_named h.0 row.name) tasks) h.1 s) _ (row, after) o in
    let body = body_is tables.resources tables.events h.0 fresh_one.0 (row, after) fresh_one.2 in
    let P : List ℕ → Type 0 = λ name. s.text ≡ codes "  TASK t_" ++ (name ++ (codes " {\n" ++ h.1)) in
    let first = subst P body.0 (name_in-is (codes "  TASK t_") (codes " {\n") s.text h e) in
    object-whole (codes "TASK") (codes "t_") row.name.text (task_attributes tables.resources tables.events row) s.text h.1 after.text first (fresh_is _ h.1 s fresh_one.0 fresh_one.1 ∙ body.1)
