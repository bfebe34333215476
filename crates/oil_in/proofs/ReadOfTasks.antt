-- What is read where the lines of tasks stand.
use Rattle.std.proofs.Common.{◌≡◌, ◌≢◌, ℕ, ◌++◌, ◌∷◌, [], List, Bool, true, false, codes, decimal, flat_map, None, Ok, refl, ap, sym, ◌∙◌, append_assoc, eq-eqb, ◌↔◌, length, arith, true≢false}
use Rattle.std.specs.Prelude.{◌==◌}
use Rattle.osek_core.specs.declared.tables.Name.{Name}
use Rattle.osek_core.specs.declared.tables.TaskRow.{TaskRow}
use Rattle.osek_core.specs.declared.tables.Tables.{Tables}
use Rattle.osek_core.specs.Tables.WellConfigured.{IsTaskOf}
use Rattle.oil_out.specs.OilText.{attribute, name_at, schedule_text, activation_text, task_text}
use Rattle.oil_in.specs.Pieces.{behind}
use Rattle.oil_in.specs.Forms.{header}
use Rattle.oil_in.specs.Scan.{Scan, next}
use Rattle.oil_in.specs.Tasks.{has_any, task_body_at, task_at}
use Rattle.oil_in.proofs.PieceLemmas.{none-front}
use Rattle.oil_in.proofs.Distinct.{IsNew}
use Rattle.oil_in.proofs.TextOfTasks.{task_attributes}
use Rattle.oil_in.proofs.ReadOfForms.{object-front}
use Rattle.oil_in.proofs.ReadOfObjects.{Gives, Reads, end-read}
use Rattle.oil_in.proofs.ReadOfRows.{NamesFit, schedule-read, auto-read, priority-read, activations-read, used-read, waited-read}

no_resource : (events : List Name) (ks rest : List ℕ) → behind (codes "    RESOURCE = r_") (flat_map (λ k. attribute (codes "EVENT") (codes "e_" ++ name_at events k)) ks ++ (codes "  };\n" ++ rest)) ≡ None
unfolding behind attribute
no_resource events ks rest = none-front (codes "    RESOURCE = r_") (λ k. attribute (codes "EVENT") (codes "e_" ++ name_at events k)) ks (codes "  };\n" ++ rest) (λ k more. refl) refl

no_event : (rest : List ℕ) → behind (codes "    EVENT = e_") (codes "  };\n" ++ rest) ≡ None
unfolding behind
no_event rest = refl

extended_is : (events : List ℕ) (extended : Bool) → (extended ≡ true) ↔ (events ≢ []) → has_any events ≡ extended
extended_is [] true h = absurd (h.0 refl refl)
extended_is [] false h = refl
extended_is (k ∷ ks) true h = refl
extended_is (k ∷ ks) false h = absurd (true≢false (sym (h.1 (λ e. let n : length (k ∷ ks) ≡ 0 = ap (λ (js : List ℕ). length js) e in omega (arith, n)))))

six : (a b c d e f rest : List ℕ) → (a ++ b ++ c ++ d ++ e ++ f) ++ rest ≡ a ++ (b ++ (c ++ (d ++ (e ++ (f ++ rest)))))
six a b c d e f rest = simp append_assoc

body-read : (tables : Tables) (row : TaskRow) (s : Scan) (rest : List ℕ) → NamesFit tables.resources → NamesFit tables.events → IsTaskOf tables row → s.text ≡ task_attributes tables.resources tables.events row ++ (codes "  };\n" ++ rest)
    → Gives (task_body_at tables.resources tables.events row.name.text s) row rest
unfolding task_body_at
body-read tables row s rest resources events is e =
    let a = attribute (codes "PRIORITY") (decimal row.rule.priority) in
    let b = attribute (codes "SCHEDULE") (schedule_text row.rule.preemptable) in
    let c = attribute (codes "ACTIVATION") (decimal row.rule.activations) in
    let d = attribute (codes "AUTOSTART") (activation_text row.auto) in
    let f = flat_map (λ k. attribute (codes "RESOURCE") (codes "r_" ++ name_at tables.resources k)) row.resources in
    let g = flat_map (λ k. attribute (codes "EVENT") (codes "e_" ++ name_at tables.events k)) row.events in
    let end = codes "  };\n" ++ rest in
    let may = row.rule.activations == 1 in
    let waits : row.events ≢ [] → may ≡ true = λ some. eq-eqb row.rule.activations 1 (is.rule.extended (is.extended.1 some)) in
    let priority = priority-read s row.rule.priority (b ++ (c ++ (d ++ (f ++ (g ++ end))))) is.rule.priority (e ∙ six a b c d f g end) in
    let schedule = schedule-read priority.after row.rule.preemptable (c ++ (d ++ (f ++ (g ++ end)))) priority.left in
    let activations = activations-read schedule.after row.rule.activations (d ++ (f ++ (g ++ end))) is.rule.at_least_one is.rule.at_most schedule.left in
    let auto = auto-read activations.after row.auto (f ++ (g ++ end)) activations.left in
    let used = used-read tables.resources auto.after row.resources (g ++ end) resources is.resources is.resources_rise (no_resource tables.events row.events rest) auto.left in
    let waited = waited-read may tables.events used.after row.events end events waits is.events is.events_rise (no_event rest) used.left in
    let ended = end-read waited.after rest waited.left in
    let extended : has_any row.events ≡ row.rule.extended = extended_is row.events row.rule.extended is.extended in
    record { after = ended.after; read = rw (priority.read, schedule.read, activations.read, auto.read, used.read, waited.read, ended.read, extended) (refl {a = Ok (row, ended.after)}); left = ended.left }

pub task-read : (tables : Tables) → NamesFit tables.resources → NamesFit tables.events
    → Reads (header (codes "  TASK t_")) (task_at tables.resources tables.events) (λ _ row. task_text tables row) (λ tasks row. IsNew (λ (other : TaskRow). other.name) tasks row × IsTaskOf tables row)
unfolding task_at task_text
task-read tables resources events tasks row s rest fits e =
    let attributes = task_attributes tables.resources tables.events row in
    let body = attributes ++ (codes "  };\n" ++ rest) in
    let first = object-front (codes "TASK") (codes "t_") row.name attributes s.text rest fits.0.1 e in
    let read = body-read tables row (next s body) rest resources events fits.1 refl in
    ((row.name.text, body), first, record { after = read.after; read = rw (fits.0.0, read.read) refl; left = read.left })
