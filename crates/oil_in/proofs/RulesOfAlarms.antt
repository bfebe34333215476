-- What holds of the alarms that are read.
use Rattle.std.proofs.Common.{◌≡◌, ℕ, ◌≤◌, ◌⊎◌, inl, inr, List, Bool, true, false, codes, get_or, Contains, IfSome, Option, Some, None, Ok, refl, ap, sym, subst, ◌∙◌, eqb-true, leb-true}
use Rattle.std.specs.Prelude.{position, slice_get, ◌==◌, ◌&&◌, ◌||◌, nat_le}
use Rattle.std.specs.List.{list_any}
use Rattle.std.specs.Option.{option_map_or}
use Rattle.std.proofs.lemmas.List.Folds.{Any-from_list_any}
use Rattle.std.proofs.lemmas.Option.{none-some, same_Some, slice_get_within}
use Rattle.osek_core.specs.declared.tables.CounterRow.{CounterRow}
use Rattle.osek_core.specs.declared.tables.CounterRule.{CounterRule}
use Rattle.osek_core.specs.declared.tables.TaskRow.{TaskRow}
use Rattle.osek_core.specs.declared.tables.AlarmRow.{AlarmRow}
use Rattle.osek_core.specs.declared.tables.Action.{Action}
use Rattle.osek_core.specs.declared.tables.Action.TheVariants.{Set}
use Rattle.osek_core.specs.declared.tables.Start.{Start}
use Rattle.osek_core.specs.declared.tables.Tables.{Tables}
use Rattle.osek_core.specs.Tables.Limits.{IsStart}
use Rattle.osek_core.specs.Tables.WellConfigured.{IsActionOf, IsAlarmOf}
use Rattle.oil_in.specs.declared.pieces.Number.{Number}
use Rattle.oil_in.specs.declared.pieces.Number.TheVariants.{Large, Value}
use Rattle.oil_in.specs.Forms.{header, reference, activate_line, set_line, started_line, unstarted_line}
use Rattle.oil_in.specs.Scan.{Scan, next, line}
use Rattle.oil_in.specs.Objects.{object_end, fresh, is_named}
use Rattle.oil_in.specs.Alarms.{counter_place_at, rule_at, task_named, waits, set_of, activation_of, action_of, action_at, is_start, start_of, start_read, start_at, alarm_body_at, alarm_at}
use Rattle.oil_in.specs.Says.{IsName}
use Rattle.oil_in.proofs.PieceLemmas.{if_some}
use Rattle.oil_in.proofs.Inversion.{err-ok, same_Ok, bind_ok, both_true}
use Rattle.oil_in.proofs.TextOfAlarms.{known_ok, activation_some, started_ok}
use Rattle.oil_in.proofs.Distinct.{stands_there}
use Rattle.oil_in.proofs.RulesOfForms.{named_in}
use Rattle.oil_in.proofs.RulesOfObjects.{Obeys, fresh_new}

counter_obeys : (tables : Tables) (s : Scan) (y : ℕ × Scan) → counter_place_at tables.counters s ≡ Ok y → (counter : CounterRow) × (slice_get tables.counters y.0 ≡ Some counter)
unfolding counter_place_at
counter_obeys tables s y h =
    let p = bind_ok (line (reference (codes "    COUNTER = c_") s.text) s) _ y h in
    let k = known_ok (position (λ row. is_named p.0.0 row.name) tables.counters) s p.0.1 y p.2 in
    stands_there (λ row. is_named p.0.0 row.name) tables.counters y.0 k.0

activation_obeys : (tables : Tables) (text : List ℕ) (action : Action) → activation_of (task_named tables.tasks text) ≡ Some action → IsActionOf tables action
activation_obeys tables text action h =
    let a = activation_some (task_named tables.tasks text) action h in
    let P : Action → Type 0 = λ act. IsActionOf tables act in
    subst P a.2 (slice_get_within tables.tasks a.0 (stands_there (λ row. is_named text row.name) tables.tasks a.0 a.1).0 (stands_there (λ row. is_named text row.name) tables.tasks a.0 a.1).1)

contains_from : (ks : List ℕ) (j : ℕ) → list_any (λ k. k == j) ks ≡ true → Contains ks j
contains_from ks j h =
    let any = Any-from_list_any (λ k. k == j) ks h in
    let same : any.1 ≡ j = eqb-true any.1 j any.4 in
    let P : ℕ → Type 0 = λ z. get_or ks any.0 z ≡ z in
    (any.0, any.2, subst P same any.3)

waits_obeys : (tasks : List TaskRow) (k j : ℕ) (row : TaskRow) → slice_get tasks k ≡ Some row → waits tasks k j ≡ true → Contains row.events j
waits_obeys tasks k j row at h = contains_from row.events j (ap (λ (o : Option TaskRow). option_map_or (λ r. list_any (λ i. i == j) r.events) o false) (sym at) ∙ h)

set_obeys : (tables : Tables) (text : List ℕ) (event : Option ℕ) (action : Action) → set_of tables.tasks (task_named tables.tasks text) event ≡ Some action → IsActionOf tables action
set_obeys tables text event action h =
    elim (task_named tables.tasks text) as (λ o. task_named tables.tasks text ≡ o → set_of tables.tasks o event ≡ Some action → IsActionOf tables action) [
      | Some k ↦ λ f e. elim event as (λ p. set_of tables.tasks (Some k) p ≡ Some action → IsActionOf tables action) [
        | Some j ↦ λ g.
            let q = if_some (waits tables.tasks k j) (Some (Set k j)) action g in
            let there = stands_there (λ row. is_named text row.name) tables.tasks k f in
            let P : Action → Type 0 = λ act. IsActionOf tables act in
            subst P (same_Some (Set k j) action q.1) (there.0, (there.1, waits_obeys tables.tasks k j there.0 there.1 q.0))
        | None ↦ λ g. absurd (none-some action g)
      ] e
      | None ↦ λ f e. absurd (none-some action e)
    ] refl h

action_obeys : (tables : Tables) (s : Scan) (y : Action × Scan) → action_at tables.events tables.tasks s ≡ Ok y → IsActionOf tables y.0
unfolding action_at
action_obeys tables s y h =
    elim (activate_line s.text) as (λ o. action_of tables.events tables.tasks o (set_line s.text) s ≡ Ok y → IsActionOf tables y.0) [
      | Some g ↦ λ o. activation_obeys tables g.0 y.0 (known_ok (activation_of (task_named tables.tasks g.0)) s (next s g.1) y o).0
      | None ↦ λ o. elim (set_line s.text) as (λ p. action_of tables.events tables.tasks None p s ≡ Ok y → IsActionOf tables y.0) [
        | Some g ↦ λ q. set_obeys tables g.0 (position (is_named g.1) tables.events) y.0 (known_ok (set_of tables.tasks (task_named tables.tasks g.0) (position (is_named g.1) tables.events)) s (next s g.2) y q).0
        | None ↦ λ q. absurd (err-ok _ y q)
      ] o
    ] h

either_true : (a b : Bool) → a || b ≡ true → (a ≡ true) ⊎ (b ≡ true)
either_true true b e = inl refl
either_true false b e = inr e

is_start_means : (rule : CounterRule) (start : Start) → is_start rule start.first start.cycle ≡ true → IsStart rule start
is_start_means rule start h =
    let parts = both_true (nat_le 1 start.first && nat_le start.first rule.max) ((start.cycle == 0) || (nat_le rule.min start.cycle && nat_le start.cycle rule.max)) h in
    let first = both_true (nat_le 1 start.first) (nat_le start.first rule.max) parts.0 in
    let cycle : (start.cycle ≡ 0) ⊎ ((rule.min ≤ start.cycle) × (start.cycle ≤ rule.max)) =
    elim (either_true (start.cycle == 0) (nat_le rule.min start.cycle && nat_le start.cycle rule.max) parts.1) [
      | inl none ↦ inl (eqb-true start.cycle 0 none)
      | inr some ↦ let bounds = both_true (nat_le rule.min start.cycle) (nat_le start.cycle rule.max) some in inr (leb-true rule.min start.cycle bounds.0, leb-true start.cycle rule.max bounds.1)
    ] in
    record { at_least = leb-true 1 start.first first.0; at_most = leb-true start.first rule.max first.1; cycle = cycle }

start_of_means : (rule : CounterRule) (first cycle : Number) (start : Start) → start_of rule first cycle ≡ Some start → IsStart rule start
start_of_means rule (Value first) (Value cycle) start h =
    let q = if_some (is_start rule first cycle) (Some (record { first = first; cycle = cycle })) start h in
    let P : Start → Type 0 = λ z. IsStart rule z in
    subst P (same_Some (record { first = first; cycle = cycle }) start q.1) (is_start_means rule (record { first = first; cycle = cycle }) q.0)
start_of_means rule (Value first) Large start h = absurd (none-some start h)
start_of_means rule Large cycle start h = absurd (none-some start h)

start_obeys : (rule : CounterRule) (s : Scan) (y : Option Start × Scan) → start_at rule s ≡ Ok y → IfSome y.0 (IsStart rule)
unfolding start_at
start_obeys rule s y h =
    let P : Option Start × Scan → Type 0 = λ z. IfSome z.0 (IsStart rule) in
    elim (unstarted_line s.text) as (λ o. start_read rule o (started_line s.text) s ≡ Ok y → IfSome y.0 (IsStart rule)) [
      | Some rest ↦ λ o. subst P (same_Ok (None, next s rest) y o) tt
      | None ↦ λ o. elim (started_line s.text) as (λ p. start_read rule None p s ≡ Ok y → IfSome y.0 (IsStart rule)) [
        | Some g ↦ λ q.
            let k = started_ok (start_of rule g.0 g.1) s (next s g.2) y q in
            subst P k.2 (start_of_means rule g.0 g.1 k.0 k.1)
        | None ↦ λ q. absurd (err-ok _ y q)
      ] o
    ] h

body_obeys : (tables : Tables) (text : List ℕ) (s : Scan) (x : AlarmRow × Scan) → alarm_body_at tables.events tables.counters tables.tasks text s ≡ Ok x → (text ≡ x.0.name.text) × IsAlarmOf tables x.0
unfolding alarm_body_at
body_obeys tables text s x h =
    let a = bind_ok (counter_place_at tables.counters s) _ x h in
    let b = bind_ok (action_at tables.events tables.tasks a.0.1) _ x a.2 in
    let c = bind_ok (start_at (rule_at tables.counters a.0.0) b.0.1) _ x b.2 in
    let d = bind_ok (object_end c.0.1) _ x c.2 in
    let row : AlarmRow = record { name = record { text = text }; counter = a.0.0; action = b.0.0; start = c.0.0 } in
    let made : (row, d.0) ≡ x = same_Ok (row, d.0) x d.2 in
    let counter = counter_obeys tables s a.0 a.1 in
    let rule : rule_at tables.counters a.0.0 ≡ counter.0.rule = ap (λ (o : Option CounterRow). option_map_or (λ r. r.rule) o (record { max = 0; base = 0; min = 0 })) counter.1 in
    let Start_of : CounterRule → Type 0 = λ r. IfSome c.0.0 (IsStart r) in
    let is : IsAlarmOf tables row = record {
      action = action_obeys tables a.0.1 b.0 b.1;
      counter = (counter.0, (counter.1, subst Start_of rule (start_obeys (rule_at tables.counters a.0.0) b.0.1 c.0 c.1)));
    } in
    let P : AlarmRow × Scan → Type 0 = λ y. (text ≡ y.0.name.text) × IsAlarmOf tables y.0 in
    subst P made (refl, is)

pub alarm-obeys : (tables : Tables) → Obeys (header (codes "  ALARM a_")) (alarm_at tables.events tables.counters tables.tasks) (λ (row : AlarmRow). row.name) (IsAlarmOf tables)
unfolding alarm_at
alarm-obeys tables alarms s h row after e o =
    let fresh_one = bind_ok (fresh (list_any (λ other. is_named h.0 other.name) alarms) h.1 s) _ (row, after) o in
    let body = body_obeys tables h.0 fresh_one.0 (row, after) fresh_one.2 in
    let Q : List ℕ → Type 0 = λ text. (list_any (λ (other : AlarmRow). is_named text other.name) alarms ≡ false) × IsName (record { text = text }) in
    (subst Q body.0 (fresh_new _ h.1 s fresh_one.0 fresh_one.1, named_in (codes "  ALARM a_") (codes " {\n") s.text h e), body.1)
