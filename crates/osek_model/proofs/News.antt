-- The plan of well-configured tables.
use Rattle.std.proofs.Common.{◌≡◌, ℕ, zero, suc, ◌<◌, ◌≤◌, max, Bool, true, false, nat_eq, List, [], ◌∷◌, map, filter, fold, length, get_or, Option, Some, None, option_map, IfSome, All, inl, inr, refl, sym, ap, ◌∙◌, subst, arith, slice_get}
use Rattle.std.specs.List.{range_with_len, list_any}
use Rattle.std.proofs.lemmas.Bool.{cases_lt}
use Rattle.std.proofs.lemmas.List.{length-map, length-replicate, get_or_past}
use Rattle.std.proofs.lemmas.List.Elements.{All-contains}
use Rattle.std.proofs.lemmas.Option.{slice_get-map, slice_get_within, get_or_from_slice_get}
use Rattle.osek_core.specs.declared.tables.Tables.{Tables}
use Rattle.osek_core.specs.declared.tables.TaskRow.{TaskRow}
use Rattle.osek_core.specs.declared.tables.CounterRow.{CounterRow}
use Rattle.osek_core.specs.declared.tables.CounterRule.{CounterRule}
use Rattle.osek_core.specs.declared.tables.AlarmRow.{AlarmRow}
use Rattle.osek_core.specs.declared.tables.Action.{Action}
use Rattle.osek_core.specs.declared.tables.Action.TheVariants.{Activate, Set}
use Rattle.osek_core.specs.declared.tables.Start.{Start}
use Rattle.osek_core.specs.Tables.Limits.{IsTaskRule, IsCounterRule, IsStart}
use Rattle.osek_core.specs.Tables.WellConfigured.{IsWellConfigured, IsTaskOf, IsAlarmOf, IsActionOf}
use Rattle.osek_core.specs.Kernel.Rules.{Rules, rules_of, ceiling}
use Rattle.osek_core.specs.Kernel.Clock.{Clock, ClockRules, clock_rules_of, no_counter, rule_of_counter, counter_of}
use Rattle.osek_core.specs.Kernel.State.{first_clock}
use Rattle.osek_model.specs.Plan.{plan_of, IsPlanned, IsActionIn}

-- what holds of what each item becomes holds of all
pub All-map : {X Y : Type 0} (f : X → Y) (P : Y → Type 0) (xs : List X) → All (λ x. P (f x)) xs → All P (map f xs)
All-map f P [] h k d l = absurd (omega arith)
All-map f P (x ∷ xs) h zero d l = h 0 x (omega arith)
All-map f P (x ∷ xs) h (suc k) d l = All-map f P xs (λ j e m. h (suc j) e (omega arith)) k d (omega arith)

pub each-rule : (tables : Tables) → IsWellConfigured tables → All IsTaskRule (map (λ row. row.rule) tables.tasks)
each-rule tables w = All-map (λ (row : TaskRow). row.rule) IsTaskRule tables.tasks (λ k d l. (w.each_task k d l).rule)

pub each-counter : (tables : Tables) → IsWellConfigured tables → All IsCounterRule (map (λ row. row.rule) tables.counters)
each-counter tables w = All-map (λ (row : CounterRow). row.rule) IsCounterRule tables.counters w.each_counter

pub each-counted : (tables : Tables) → IsWellConfigured tables → All (λ counter. counter < length tables.counters) (map (λ row. row.counter) tables.alarms)
each-counted tables w = All-map (λ (row : AlarmRow). row.counter) (λ counter. counter < length tables.counters) tables.alarms
    (λ k d l. let c = (w.each_alarm k d l).counter in slice_get_within tables.counters (get_or tables.alarms k d).counter c.0 c.1.0)

-- no ceiling passes the greatest priority
max-within : (a : ℕ) (p : TaskRow → Bool) (rows : List TaskRow) → a ≤ 63 → All (λ row. row.rule.priority ≤ 63) rows → fold max a (map (λ row. row.rule.priority) (filter p rows)) ≤ 63
max-within a p [] le h = le
max-within a p (row ∷ rows) le h = by (p row) refl (λ b m. max-within b p rows m (λ k d l. h (suc k) d (omega arith)))
  where
    by : (t : Bool) → p row ≡ t → ((b : ℕ) → b ≤ 63 → fold max b (map (λ r. r.rule.priority) (filter p rows)) ≤ 63) → fold max a (map (λ r. r.rule.priority) (filter p (row ∷ rows))) ≤ 63
    by true e more = rw e (more (max a row.rule.priority) (let m = h 0 row (omega arith) in omega (arith, m, le)))
    by false e more = rw e (more a le)

pub each-ceiling : (tables : Tables) (n : ℕ) → IsWellConfigured tables → All (λ c. c ≤ 63) (map (ceiling tables.tasks) (range_with_len 0 n))
each-ceiling tables n w = All-map (ceiling tables.tasks) (λ c. c ≤ 63) (range_with_len 0 n)
    (λ k d l. max-within 0 (λ (row : TaskRow). list_any (nat_eq (get_or (range_with_len 0 n) k d)) row.resources) tables.tasks (omega arith) (λ j e m. (w.each_task j e m).rule.priority))

-- an action names what is there
action-in : (tables : Tables) (action : Action) → IsWellConfigured tables → IsActionOf tables action → IsActionIn (length (map (λ row. row.rule) tables.tasks)) action
action-in tables (Activate task) w h = let l = length-map tables.tasks (λ (row : TaskRow). row.rule) in omega (arith, l, h)
action-in tables (Set task event) w h =
    let there = slice_get_within tables.tasks task h.0 h.1.0 in
    let l = length-map tables.tasks (λ (row : TaskRow). row.rule) in
    let same = get_or_from_slice_get tables.tasks task h.0 h.0 h.1.0 in
    let row = subst (IsTaskOf tables) same (w.each_task task h.0 there) in
    let below = All-contains (λ e. e < length tables.events) h.0.events event row.events h.1.1 in
    let small = w.small.events in
    (omega (arith, l, there), omega (arith, below, small))

-- an alarm that starts has numbers of its counter
start-within : (tables : Tables) → IsWellConfigured tables → (alarm : ℕ) →
    IfSome (get_or (map (λ row. row.start) tables.alarms) alarm None) (IsStart (rule_of_counter (plan_of tables).clock (counter_of (plan_of tables).clock alarm)))
start-within tables w alarm = by (slice_get tables.alarms alarm) refl
  where
    starts : List (Option Start)
    starts = map (λ (row : AlarmRow). row.start) tables.alarms

    by : (o : Option AlarmRow) → slice_get tables.alarms alarm ≡ o → IfSome (get_or starts alarm None) (IsStart (rule_of_counter (plan_of tables).clock (counter_of (plan_of tables).clock alarm)))
    by None e = elim (cases_lt alarm (length starts)) [
      | inl lt ↦ absurd (missing tables.alarms alarm (let l = length-map tables.alarms (λ (row : AlarmRow). row.start) in omega (arith, lt, l)) e)
      | inr ge ↦ rw (get_or_past starts alarm None ge) tt
    ]
      where
        missing : (rows : List AlarmRow) (i : ℕ) → i < length rows → slice_get rows i ≡ None → ⊥
        missing [] i lt k = omega arith
        missing (row ∷ rows) zero lt k = cc
        missing (row ∷ rows) (suc i) lt k = missing rows i (omega arith) k
    by (Some row) e =
        let lt = slice_get_within tables.alarms alarm row e in
        let of : IsAlarmOf tables row = subst (IsAlarmOf tables) (get_or_from_slice_get tables.alarms alarm row row e) (w.each_alarm alarm row lt) in
        let start : get_or starts alarm None ≡ row.start = get_or_from_slice_get starts alarm row.start None (slice_get-map (λ (r : AlarmRow). r.start) tables.alarms alarm ∙ ap (option_map (λ (r : AlarmRow). r.start)) e) in
        let counter : counter_of (plan_of tables).clock alarm ≡ row.counter =
        get_or_from_slice_get (map (λ (r : AlarmRow). r.counter) tables.alarms) alarm row.counter 0 (slice_get-map (λ (r : AlarmRow). r.counter) tables.alarms alarm ∙ ap (option_map (λ (r : AlarmRow). r.counter)) e) in
        let rule : rule_of_counter (plan_of tables).clock row.counter ≡ of.counter.0.rule =
        get_or_from_slice_get (map (λ (r : CounterRow). r.rule) tables.counters) row.counter of.counter.0.rule no_counter
        (slice_get-map (λ (r : CounterRow). r.rule) tables.counters row.counter ∙ ap (option_map (λ (r : CounterRow). r.rule)) of.counter.1.0) in
        subst (λ (o : Option Start). IfSome o (IsStart (rule_of_counter (plan_of tables).clock (counter_of (plan_of tables).clock alarm)))) (sym start)
        (subst (λ (r : CounterRule). IfSome row.start (IsStart r)) (sym (ap (rule_of_counter (plan_of tables).clock) counter ∙ rule)) of.counter.1.1)

pub planned-new : (tables : Tables) → IsWellConfigured tables → IsPlanned (plan_of tables) (first_clock tables)
planned-new tables w =
    let tasks = length-map tables.tasks (λ (row : TaskRow). row.rule) in
    let counters = length-map tables.alarms (λ (row : AlarmRow). row.counter) in
    let small = w.small in
    record {
      lawful = each-rule tables w;
      autos = length-map tables.tasks (λ (row : TaskRow). row.auto) ∙ sym tasks;
      actions = length-map tables.alarms (λ (row : AlarmRow). row.action) ∙ sym counters;
      starts = length-map tables.alarms (λ (row : AlarmRow). row.start) ∙ sym counters;
      few = let s = small.alarms in omega (arith, counters, s);
      small = let s = small.tasks in omega (arith, tasks, s);
      acts = All-map (λ (row : AlarmRow). row.action) (IsActionIn (length (map (λ (row : TaskRow). row.rule) tables.tasks))) tables.alarms
          (λ k d l. action-in tables (get_or tables.alarms k d).action w (w.each_alarm k d l).action);
      started = start-within tables w;
      alarms = length-replicate (length tables.alarms) None ∙ sym counters;
    }

-- the same of what equals it
pub planned-from : (tables : Tables) (rules : Rules) (clocks : ClockRules) (autos : List Bool) (actions : List Action) (starts : List (Option Start)) (clock : Clock) → IsWellConfigured tables →
    rules ≡ rules_of tables → clocks ≡ clock_rules_of tables → autos ≡ map (λ row. row.auto) tables.tasks → actions ≡ map (λ row. row.action) tables.alarms → starts ≡ map (λ row. row.start) tables.alarms →
    clock ≡ first_clock tables → IsPlanned (record { rules = rules; clock = clocks; autos = autos; actions = actions; starts = starts }) clock
planned-from tables rules clocks autos actions starts clock w r k a b s c = rw (r, k, a, b, s, c) (planned-new tables w)
