-- What stands at the front of the text where alarms are read.
use Rattle.std.proofs.Common.{◌≡◌, ℕ, ◌++◌, [], List, codes, decimal, Option, Some, None, Ok, ap, subst, sym, refl, ◌∙◌}
use Rattle.std.specs.Prelude.{position}
use Rattle.std.specs.List.{list_any}
use Rattle.std.proofs.lemmas.Option.{none-some, same_Some}
use Rattle.osek_core.specs.declared.tables.Name.{Name}
use Rattle.osek_core.specs.declared.tables.CounterRow.{CounterRow}
use Rattle.osek_core.specs.declared.tables.CounterRule.{CounterRule}
use Rattle.osek_core.specs.declared.tables.TaskRow.{TaskRow}
use Rattle.osek_core.specs.declared.tables.AlarmRow.{AlarmRow}
use Rattle.osek_core.specs.declared.tables.Action.{Action}
use Rattle.osek_core.specs.declared.tables.Action.TheVariants.{Activate, Set}
use Rattle.osek_core.specs.declared.tables.Start.{Start}
use Rattle.osek_core.specs.declared.tables.Tables.{Tables}
use Rattle.oil_out.specs.OilText.{attribute, counter_name, task_name, name_at, action_text, start_text, alarm_text}
use Rattle.oil_in.specs.declared.pieces.Number.{Number}
use Rattle.oil_in.specs.declared.pieces.Number.TheVariants.{Large, Value}
use Rattle.oil_in.specs.Pieces.{behind}
use Rattle.oil_in.specs.Forms.{header, reference, name_in, number_in, activate_line, set_line, started_line, unstarted_line}
use Rattle.oil_in.specs.Scan.{Scan, next, line}
use Rattle.oil_in.specs.Objects.{object_end, fresh, is_named}
use Rattle.oil_in.specs.Alarms.{known, counter_place_at, rule_at, task_named, waits, set_of, activation_of, action_of, action_at, is_start, start_of, started, start_read, start_at, alarm_body_at, alarm_at}
use Rattle.oil_in.proofs.PieceLemmas.{if_some, behind-is}
use Rattle.oil_in.proofs.Inversion.{bind_some, err-ok, same_Ok, bind_ok, line_ok}
use Rattle.oil_in.proofs.TextOfForms.{name_in-is, number_in-is, object-whole, reference-whole, word-whole, words-whole, then}
use Rattle.oil_in.proofs.TextOfObjects.{Spells, end-is, fresh_is}
use Rattle.oil_in.proofs.TextOfRows.{position-named}

pub known_ok : {X : Type 0} (o : Option X) (s behind : Scan) (y : X × Scan) → known o s behind ≡ Ok y → (o ≡ Some y.0) × (behind ≡ y.1)
known_ok {X} (Some x) s behind y h =
    let e : (x, behind) ≡ y = same_Ok (x, behind) y h in
    (ap (λ (z : X × Scan). Some z.0) e, ap (λ (z : X × Scan). z.1) e)
known_ok None s behind y h = absurd (err-ok _ y h)

counter_is : (tables : Tables) (s : Scan) (y : ℕ × Scan) → counter_place_at tables.counters s ≡ Ok y → s.text ≡ attribute (codes "COUNTER") (codes "c_" ++ counter_name tables y.0) ++ y.1.text
unfolding counter_place_at
counter_is tables s y h =
    let p = bind_ok (line (reference (codes "    COUNTER = c_") s.text) s) _ y h in
    let l = line_ok (reference (codes "    COUNTER = c_") s.text) s p.0 p.1 in
    let k = known_ok (position (λ row. is_named p.0.0 row.name) tables.counters) s p.0.1 y p.2 in
    let word : l.0.0 ≡ counter_name tables y.0 = ap (λ (z : List ℕ × Scan). z.0) l.2 ∙ sym (position-named (λ (row : CounterRow). row.name) tables.counters p.0.0 y.0 k.0) in
    let rest : l.0.1 ≡ y.1.text = ap (λ (z : List ℕ × Scan). z.1.text) l.2 ∙ ap (λ (r : Scan). r.text) k.1 in
    name_in-is (codes "    COUNTER = c_") (codes ";\n") s.text l.0 l.1
    ∙ reference-whole (codes "COUNTER") (codes "c_") l.0.0 l.0.1
    ∙ ap (λ (w : List ℕ). attribute (codes "COUNTER") (codes "c_" ++ w) ++ l.0.1) word
    ∙ ap (λ (w : List ℕ). attribute (codes "COUNTER") (codes "c_" ++ counter_name tables y.0) ++ w) rest

pub activation_some : (o : Option ℕ) (act : Action) → activation_of o ≡ Some act → (k : ℕ) × (o ≡ Some k) × (Activate k ≡ act)
activation_some (Some k) act h = (k, refl, same_Some (Activate k) act h)
activation_some None act h = absurd (none-some act h)

set_some : (tasks : List TaskRow) (o p : Option ℕ) (act : Action) → set_of tasks o p ≡ Some act → (k : ℕ) × (j : ℕ) × (o ≡ Some k) × (p ≡ Some j) × (Set k j ≡ act)
set_some tasks (Some k) (Some j) act h =
    let q = if_some (waits tasks k j) (Some (Set k j)) act h in
    (k, j, refl, refl, same_Some (Set k j) act q.1)
set_some tasks (Some k) None act h = absurd (none-some act h)
set_some tasks None p act h = absurd (none-some act h)

set_line_is : (bytes : List ℕ) (x : List ℕ × List ℕ × List ℕ) → set_line bytes ≡ Some x
    → bytes ≡ codes "    ACTION = SETEVENT { TASK = t_" ++ (x.0 ++ (codes "; EVENT = e_" ++ (x.1 ++ (codes "; };\n" ++ x.2))))
unfolding set_line
set_line_is bytes x h =
    let front = codes "    ACTION = SETEVENT { TASK = t_" in
    let task = bind_some (name_in front (codes "; EVENT = e_") bytes) _ x h in
    let event = bind_some (name_in [] (codes "; };\n") task.0.1) _ x task.2 in
    let made : (task.0.0, event.0.0, event.0.1) ≡ x = same_Some (task.0.0, event.0.0, event.0.1) x event.2 in
    let P : List ℕ × List ℕ × List ℕ → Type 0 = λ y. bytes ≡ codes "    ACTION = SETEVENT { TASK = t_" ++ (y.0 ++ (codes "; EVENT = e_" ++ (y.1 ++ (codes "; };\n" ++ y.2)))) in
    subst P made (name_in-is front (codes "; EVENT = e_") bytes task.0 task.1
    ∙ ap (λ (w : List ℕ). front ++ (task.0.0 ++ (codes "; EVENT = e_" ++ w))) (name_in-is [] (codes "; };\n") task.0.1 event.0 event.1))

named_task : (tables : Tables) (t : List ℕ) (k : ℕ) → task_named tables.tasks t ≡ Some k → t ≡ task_name tables k
named_task tables t k h = sym (position-named (λ (row : TaskRow). row.name) tables.tasks t k h)

abbrev pub ActionStands : Tables → Scan → Action × Scan → Type 0
ActionStands tables s y = s.text ≡ attribute (codes "ACTION") (action_text tables y.0) ++ y.1.text

activation_is : (tables : Tables) (s : Scan) (h : List ℕ × List ℕ) (y : Action × Scan) → activate_line s.text ≡ Some h
    → known (activation_of (task_named tables.tasks h.0)) s (next s h.1) ≡ Ok y → ActionStands tables s y
activation_is tables s h y e o =
    let k = known_ok (activation_of (task_named tables.tasks h.0)) s (next s h.1) y o in
    let a = activation_some (task_named tables.tasks h.0) y.0 k.0 in
    let word : h.0 ≡ task_name tables a.0 = named_task tables h.0 a.0 a.1 in
    name_in-is (codes "    ACTION = ACTIVATETASK { TASK = t_") (codes "; };\n") s.text h e
    ∙ word-whole (codes "ACTION") (codes "ACTIVATETASK { TASK = t_") h.0 (codes "; }") h.1
    ∙ ap (λ (w : List ℕ). attribute (codes "ACTION") (codes "ACTIVATETASK { TASK = t_" ++ w ++ codes "; }") ++ h.1) word
    ∙ ap (λ (act : Action). attribute (codes "ACTION") (action_text tables act) ++ h.1) a.2
    ∙ ap (λ (r : Scan). attribute (codes "ACTION") (action_text tables y.0) ++ r.text) k.1

set_is : (tables : Tables) (s : Scan) (h : List ℕ × List ℕ × List ℕ) (y : Action × Scan) → set_line s.text ≡ Some h
    → known (set_of tables.tasks (task_named tables.tasks h.0) (position (is_named h.1) tables.events)) s (next s h.2) ≡ Ok y → ActionStands tables s y
set_is tables s h y e o =
    let k = known_ok (set_of tables.tasks (task_named tables.tasks h.0) (position (is_named h.1) tables.events)) s (next s h.2) y o in
    let a = set_some tables.tasks (task_named tables.tasks h.0) (position (is_named h.1) tables.events) y.0 k.0 in
    let task : h.0 ≡ task_name tables a.0 = named_task tables h.0 a.0 a.2 in
    let event : h.1 ≡ name_at tables.events a.1 = sym (position-named (λ (name : Name). name) tables.events h.1 a.1 a.3) in
    set_line_is s.text h e
    ∙ words-whole (codes "ACTION") (codes "SETEVENT { TASK = t_") h.0 (codes "; EVENT = e_") h.1 (codes "; }") h.2
    ∙ ap (λ (w : List ℕ). attribute (codes "ACTION") (codes "SETEVENT { TASK = t_" ++ w ++ codes "; EVENT = e_" ++ h.1 ++ codes "; }") ++ h.2) task
    ∙ ap (λ (w : List ℕ). attribute (codes "ACTION") (codes "SETEVENT { TASK = t_" ++ task_name tables a.0 ++ codes "; EVENT = e_" ++ w ++ codes "; }") ++ h.2) event
    ∙ ap (λ (act : Action). attribute (codes "ACTION") (action_text tables act) ++ h.2) a.4
    ∙ ap (λ (r : Scan). attribute (codes "ACTION") (action_text tables y.0) ++ r.text) k.1

action_is : (tables : Tables) (s : Scan) (y : Action × Scan) → action_at tables.events tables.tasks s ≡ Ok y → ActionStands tables s y
unfolding action_at
action_is tables s y h =
    elim (activate_line s.text) as (λ o. activate_line s.text ≡ o → action_of tables.events tables.tasks o (set_line s.text) s ≡ Ok y → ActionStands tables s y) [
      | Some g ↦ λ e o. activation_is tables s g y e o
      | None ↦ λ e o. elim (set_line s.text) as (λ p. set_line s.text ≡ p → action_of tables.events tables.tasks None p s ≡ Ok y → ActionStands tables s y) [
        | Some g ↦ λ f q. set_is tables s g y f q
        | None ↦ λ f q. absurd (err-ok _ y q)
      ] refl o
    ] refl h

start_some : (rule : CounterRule) (first cycle : Number) (start : Start) → start_of rule first cycle ≡ Some start → (first ≡ Value start.first) × (cycle ≡ Value start.cycle)
start_some rule (Value first) (Value cycle) start h =
    let q = if_some (is_start rule first cycle) (Some (record { first = first; cycle = cycle })) start h in
    let e : record { first = first; cycle = cycle } ≡ start = same_Some (record { first = first; cycle = cycle }) start q.1 in
    (ap (λ (z : Start). Value z.first) e, ap (λ (z : Start). Value z.cycle) e)
start_some rule (Value first) Large start h = absurd (none-some start h)
start_some rule Large cycle start h = absurd (none-some start h)

started_line_is : (bytes : List ℕ) (first cycle : ℕ) (rest : List ℕ) → started_line bytes ≡ Some (Value first, Value cycle, rest)
    → bytes ≡ codes "    AUTOSTART = TRUE { ALARMTIME = " ++ (decimal first ++ (codes "; CYCLETIME = " ++ (decimal cycle ++ (codes "; APPMODE = mode; };\n" ++ rest))))
unfolding started_line
started_line_is bytes first cycle rest h =
    let front = codes "    AUTOSTART = TRUE { ALARMTIME = " in
    let a = bind_some (number_in front (codes "; CYCLETIME = ") bytes) _ (Value first, Value cycle, rest) h in
    let b = bind_some (number_in [] (codes "; APPMODE = mode; };\n") a.0.1) _ (Value first, Value cycle, rest) a.2 in
    let made : (a.0.0, b.0.0, b.0.1) ≡ (Value first, Value cycle, rest) = same_Some (a.0.0, b.0.0, b.0.1) (Value first, Value cycle, rest) b.2 in
    let read_first : number_in front (codes "; CYCLETIME = ") bytes ≡ Some (Value first, a.0.1) = a.1 ∙ ap (λ (z : Number × Number × List ℕ). Some (z.0, a.0.1)) made in
    let read_cycle : number_in [] (codes "; APPMODE = mode; };\n") a.0.1 ≡ Some (Value cycle, rest) = b.1 ∙ ap (λ (z : Number × Number × List ℕ). Some (z.1, z.2)) made in
    number_in-is front (codes "; CYCLETIME = ") bytes first a.0.1 read_first
    ∙ ap (λ (w : List ℕ). front ++ (decimal first ++ (codes "; CYCLETIME = " ++ w))) (number_in-is [] (codes "; APPMODE = mode; };\n") a.0.1 cycle rest read_cycle)

abbrev pub StartStands : Scan → Option Start × Scan → Type 0
StartStands s y = s.text ≡ attribute (codes "AUTOSTART") (start_text y.0) ++ y.1.text

pub started_ok : (o : Option Start) (s behind : Scan) (y : Option Start × Scan) → started o s behind ≡ Ok y → (start : Start) × (o ≡ Some start) × ((Some start, behind) ≡ y)
started_ok (Some start) s behind y h = (start, refl, same_Ok (Some start, behind) y h)
started_ok None s behind y h = absurd (err-ok _ y h)

started_is : (rule : CounterRule) (s : Scan) (h : Number × Number × List ℕ) (y : Option Start × Scan) → started_line s.text ≡ Some h
    → started (start_of rule h.0 h.1) s (next s h.2) ≡ Ok y → StartStands s y
started_is rule s h y e o =
    let k = started_ok (start_of rule h.0 h.1) s (next s h.2) y o in
    let v = start_some rule h.0 h.1 k.0 k.1 in
    let read : started_line s.text ≡ Some (Value k.0.first, Value k.0.cycle, h.2) = e ∙ ap (λ (n : Number). Some (n, h.1, h.2)) v.0 ∙ ap (λ (n : Number). Some (Value k.0.first, n, h.2)) v.1 in
    let P : Option Start × Scan → Type 0 = λ z. StartStands s z in
    subst P k.2 (started_line_is s.text k.0.first k.0.cycle h.2 read
    ∙ words-whole (codes "AUTOSTART") (codes "TRUE { ALARMTIME = ") (decimal k.0.first) (codes "; CYCLETIME = ") (decimal k.0.cycle) (codes "; APPMODE = mode; }") h.2)

unstarted_is : (s : Scan) (rest : List ℕ) → unstarted_line s.text ≡ Some rest → StartStands s (None, next s rest)
unfolding attribute
unstarted_is s rest h = behind-is (codes "    AUTOSTART = FALSE;\n") s.text rest h

start_is : (rule : CounterRule) (s : Scan) (y : Option Start × Scan) → start_at rule s ≡ Ok y → StartStands s y
unfolding start_at
start_is rule s y h =
    elim (unstarted_line s.text) as (λ o. unstarted_line s.text ≡ o → start_read rule o (started_line s.text) s ≡ Ok y → StartStands s y) [
      | Some rest ↦ λ e o.
          let P : Option Start × Scan → Type 0 = λ z. StartStands s z in
          let made : (None, next s rest) ≡ y = same_Ok (None, next s rest) y o in
          subst P made (unstarted_is s rest e)
      | None ↦ λ e o. elim (started_line s.text) as (λ p. started_line s.text ≡ p → start_read rule None p s ≡ Ok y → StartStands s y) [
        | Some g ↦ λ f q. started_is rule s g y f q
        | None ↦ λ f q. absurd (err-ok _ y q)
      ] refl o
    ] refl h

abbrev pub alarm_attributes : Tables → AlarmRow → List ℕ
alarm_attributes tables row =
    attribute (codes "COUNTER") (codes "c_" ++ counter_name tables row.counter)
    ++ attribute (codes "ACTION") (action_text tables row.action)
    ++ attribute (codes "AUTOSTART") (start_text row.start)

body_is : (tables : Tables) (text : List ℕ) (s : Scan) (x : AlarmRow × Scan) → alarm_body_at tables.events tables.counters tables.tasks text s ≡ Ok x
    → (text ≡ x.0.name.text) × (s.text ≡ alarm_attributes tables x.0 ++ (codes "  };\n" ++ x.1.text))
unfolding alarm_body_at
body_is tables text s x h =
    let a = bind_ok (counter_place_at tables.counters s) _ x h in
    let b = bind_ok (action_at tables.events tables.tasks a.0.1) _ x a.2 in
    let c = bind_ok (start_at (rule_at tables.counters a.0.0) b.0.1) _ x b.2 in
    let d = bind_ok (object_end c.0.1) _ x c.2 in
    let row : AlarmRow = record { name = record { text = text }; counter = a.0.0; action = b.0.0; start = c.0.0 } in
    let made : (row, d.0) ≡ x = same_Ok (row, d.0) x d.2 in
    let ta = attribute (codes "COUNTER") (codes "c_" ++ counter_name tables a.0.0) in
    let tb = attribute (codes "ACTION") (action_text tables b.0.0) in
    let tc = attribute (codes "AUTOSTART") (start_text c.0.0) in
    let two = then s.text ta a.0.1.text tb b.0.1.text (counter_is tables s a.0 a.1) (action_is tables a.0.1 b.0 b.1) in
    let three = then s.text (ta ++ tb) b.0.1.text tc c.0.1.text two (start_is (rule_at tables.counters a.0.0) b.0.1 c.0 c.1) in
    let four : s.text ≡ alarm_attributes tables row ++ (codes "  };\n" ++ d.0.text) = three ∙ ap (λ (w : List ℕ). (ta ++ tb ++ tc) ++ w) (end-is c.0.1 d.0 d.1) in
    let P : AlarmRow × Scan → Type 0 = λ y. s.text ≡ alarm_attributes tables y.0 ++ (codes "  };\n" ++ y.1.text) in
    (ap (λ (y : AlarmRow × Scan). y.0.name.text) made, subst P made four)

pub alarm-is : (tables : Tables) → Spells (header (codes "  ALARM a_")) (alarm_at tables.events tables.counters tables.tasks) (λ _ row. alarm_text tables row)
unfolding alarm_at alarm_text
alarm-is tables alarms s h row after e o =
    let fresh_one = bind_ok (fresh (list_any (λ row. is_named h.0 row.name) alarms) h.1 s) _ (row, after) o in
    let body = body_is tables h.0 fresh_one.0 (row, after) fresh_one.2 in
    let P : List ℕ → Type 0 = λ name. s.text ≡ codes "  ALARM a_" ++ (name ++ (codes " {\n" ++ h.1)) in
    let first = subst P body.0 (name_in-is (codes "  ALARM a_") (codes " {\n") s.text h e) in
    object-whole (codes "ALARM") (codes "a_") row.name.text (alarm_attributes tables row) s.text h.1 after.text first (fresh_is _ h.1 s fresh_one.0 fresh_one.1 ∙ body.1)
