-- The start, as the plan tells it, is the start of the tables.
use Rattle.std.proofs.Common.{◌≡◌, ℕ, zero, suc, ◌+◌, ◌≤◌, Bool, true, false, ◌&&◌, nat_le, if◌then◌else◌, List, [], ◌∷◌, ◌++◌, map, fold, length, get_or, take, set, Option, Some, None, IfSome, All, replicate, inl, inr, refl, sym, ap, ◌∙◌, subst, arith, slice_get, is_some, length-set, get_or-set_other}
use Rattle.std.specs.List.{range_with_len}
use Rattle.std.proofs.lemmas.Bool.Decides.{eqb_tells, leb_tells}
use Rattle.std.proofs.lemmas.List.{length-map, length-replicate, set-get_or, take_more_set, take_all, ext_get_or}
use Rattle.std.proofs.lemmas.List.FromFn.{get_or-map-range_with_len, length-map-range_with_len, map-range_with_len_more}
use Rattle.osek_core.specs.declared.control.TaskControl.{TaskControl}
use Rattle.osek_core.specs.declared.tables.Tables.{Tables}
use Rattle.osek_core.specs.declared.tables.TaskRow.{TaskRow}
use Rattle.osek_core.specs.declared.tables.AlarmRow.{AlarmRow}
use Rattle.osek_core.specs.declared.tables.CounterRule.{CounterRule}
use Rattle.osek_core.specs.declared.tables.Start.{Start}
use Rattle.osek_core.specs.Tables.Limits.{IsTaskRule, IsStart}
use Rattle.osek_core.specs.Kernel.Rules.{Rules, rules_of, rule_of, no_task}
use Rattle.osek_core.specs.Kernel.Scheduler.{Scheduler, idle, task_at}
use Rattle.osek_core.specs.Kernel.Clock.{Clock, ClockRules, Armed, alarm_at, set_alarm, counter_of, rule_of_counter, places}
use Rattle.osek_core.specs.Kernel.AlarmServices.{arm, is_cycle}
use Rattle.osek_core.specs.Kernel.Dispatch.{dispatch}
use Rattle.osek_core.specs.Kernel.State.{Kernel, first_scheduler, first_clock}
use Rattle.osek_core.specs.Kernel.Start.{autostarted, starts_itself, armed_at_start, new_kernel, start_kernel}
use Rattle.osek_core.specs.Kernel.TaskServices.{activate, activated, activate_task}
use Rattle.osek_model.specs.Plan.{Plan, plan_of}
use Rattle.osek_model.specs.Acting.{activate_marked, activate_all, arm_started, arm_all}
use Rattle.osek_model.proofs.Steps.{fold-more}

-- an activation of a task that has none outstanding is done
fresh-activates : (rules : Rules) (s : Scheduler) (task : ℕ) → (task_at s task).activations ≡ 0 → 1 ≤ (rule_of rules task).activations → (activate_task rules s task).state ≡ activate rules s task
fresh-activates rules s task none least =
    elim (leb_tells (rule_of rules task).activations (task_at s task).activations) [
      | inl h ↦ absurd (omega (arith, h.1, none, least))
      | inr h ↦ rw h.0 refl
    ]

marked-same : (rows : List TaskRow) (task : ℕ) → get_or (map (λ row. row.auto) rows) task false ≡ starts_itself (slice_get rows task)
marked-same [] task = refl
marked-same (row ∷ rows) zero = refl
marked-same (row ∷ rows) (suc task) = marked-same rows task

-- how each task is activated, and whether the tasks so far were, where those behind have no activation
abbrev marks : Tables → Scheduler → ℕ → Scheduler
marks tables = activate_marked (rules_of tables) (map (λ row. row.auto) tables.tasks)

abbrev autos_of : Tables → Scheduler → ℕ → Scheduler
autos_of tables s task = if starts_itself (slice_get tables.tasks task) then activate (rules_of tables) s task else s

pub record IsActivated (tables : Tables) (s : Scheduler) (n : ℕ) : Type 0 where
  pub same : fold (marks tables) s (range_with_len 0 n) ≡ fold (autos_of tables) s (range_with_len 0 n)
  pub left : (k : ℕ) → n ≤ k → (task_at (fold (autos_of tables) s (range_with_len 0 n)) k).activations ≡ 0

activated-more : (tables : Tables) (s : Scheduler) → All IsTaskRule (rules_of tables).tasks → (n : ℕ) → suc n ≤ length tables.tasks → IsActivated tables s n → IsActivated tables s (suc n)
activated-more tables s lawful n le before = record { same = same; left = left }
  where
    rules : Rules
    rules = rules_of tables

    f : Scheduler → ℕ → Scheduler
    f = marks tables

    g : Scheduler → ℕ → Scheduler
    g = autos_of tables

    so_far : Scheduler
    so_far = fold g s (range_with_len 0 n)

    next : suc n ≡ n + 1
    next = omega arith

    least : 1 ≤ (rule_of rules n).activations
    least = (lawful n no_task (let l = length-map tables.tasks (λ (row : TaskRow). row.rule) in omega (arith, l, le))).at_least_one

    step : f so_far n ≡ g so_far n
    step = ap (λ b. if b then (activate_task rules so_far n).state else so_far) (marked-same tables.tasks n)
        ∙ ap (λ (t : Scheduler). if starts_itself (slice_get tables.tasks n) then t else so_far) (fresh-activates rules so_far n (before.left n (omega arith)) least)

    more : fold g s (range_with_len 0 (suc n)) ≡ g so_far n
    more = ap (λ m. fold g s (range_with_len 0 m)) next ∙ fold-more g s n

    same : fold f s (range_with_len 0 (suc n)) ≡ fold g s (range_with_len 0 (suc n))
    same = ap (λ m. fold f s (range_with_len 0 m)) next ∙ fold-more f s n ∙ ap (λ (t : Scheduler). f t n) before.same ∙ step ∙ sym more

    kept : (b : Bool) (k : ℕ) → suc n ≤ k → (task_at (if b then activate rules so_far n else so_far) k).activations ≡ 0
    kept true k l = ap (λ (c : TaskControl). c.activations) (get_or-set_other so_far.tasks n k (activated (task_at so_far n)) idle (λ e. absurd (omega (arith, e, l)))) ∙ before.left k (omega (arith, l))
    kept false k l = before.left k (omega (arith, l))

    left : (k : ℕ) → suc n ≤ k → (task_at (fold g s (range_with_len 0 (suc n))) k).activations ≡ 0
    left k l = ap (λ (t : Scheduler). (task_at t k).activations) more ∙ kept (starts_itself (slice_get tables.tasks n)) k l

activated-so-far : (tables : Tables) (s : Scheduler) → All IsTaskRule (rules_of tables).tasks → ((k : ℕ) → (task_at s k).activations ≡ 0) → (n : ℕ) → n ≤ length tables.tasks → IsActivated tables s n
activated-so-far tables s lawful none zero le = record { same = refl; left = λ k l. none k }
activated-so-far tables s lawful none (suc n) le = activated-more tables s lawful n le (activated-so-far tables s lawful none n (omega (arith, le)))

first-none : (rules : Rules) (k : ℕ) → (task_at (first_scheduler rules) k).activations ≡ 0
first-none rules k = none (length rules.tasks) k
  where
    none : (n i : ℕ) → (get_or (replicate n idle) i idle).activations ≡ 0
    none zero i = refl
    none (suc n) zero = refl
    none (suc n) (suc i) = none n i

pub all-activated : (tables : Tables) → All IsTaskRule (rules_of tables).tasks →
    activate_all (rules_of tables) (map (λ row. row.auto) tables.tasks) (first_scheduler (rules_of tables)) ≡ autostarted tables (first_scheduler (rules_of tables))
all-activated tables lawful =
    let s = first_scheduler (rules_of tables) in
    let n = length-map tables.tasks (λ (row : TaskRow). row.auto) in
    ap (λ m. fold (activate_marked (rules_of tables) (map (λ (row : TaskRow). row.auto) tables.tasks)) s (range_with_len 0 m)) n
    ∙ (activated-so-far tables s lawful (first-none (rules_of tables)) (length tables.tasks) (omega arith)).same

-- an idle alarm is set where it starts with the kernel
cycle-within : (rule : CounterRule) (start : Start) → IsStart rule start → (nat_le 1 start.first && nat_le start.first rule.max && is_cycle rule start.cycle) ≡ true
cycle-within rule start h =
    elim (leb_tells 1 start.first) [
      | inl a ↦ elim (leb_tells start.first rule.max) [
        | inl b ↦ rw (a.0, b.0) (elim h.cycle [
          | inl z ↦ elim (eqb_tells start.cycle 0) [ inl t ↦ rw t.0 refl | inr t ↦ absurd (t.1 z) ]
          | inr m ↦ elim (eqb_tells start.cycle 0) [
            | inl t ↦ rw t.0 refl
            | inr t ↦ elim (leb_tells rule.min start.cycle) [
              | inl d ↦ elim (leb_tells start.cycle rule.max) [ inl e ↦ rw (t.0, d.0, e.0) refl | inr e ↦ absurd (omega (arith, e.1, m.1)) ]
              | inr d ↦ absurd (omega (arith, d.1, m.0))
            ]
          ]
        ])
        | inr b ↦ absurd (let k = h.at_most in omega (arith, b.1, k))
      ]
      | inr a ↦ absurd (let k = h.at_least in omega (arith, a.1, k))
    ]

arms : (clock : Clock) (alarm : ℕ) (within : Bool) (armed : Armed) → alarm_at clock alarm ≡ None → within ≡ true → (arm clock alarm within armed).state ≡ set_alarm clock alarm (Some armed)
arms clock alarm within armed e f = rw (e, f) refl

started-sets : (rules : ClockRules) (clock : Clock) (alarm : ℕ) (start : Option Start) → alarm_at clock alarm ≡ None → IfSome start (IsStart (rule_of_counter rules (counter_of rules alarm))) →
    arm_started rules clock alarm start ≡ set_alarm clock alarm (armed_at_start start)
started-sets rules clock alarm None e h =
    ap (λ (l : List (Option Armed)). record clock { alarms = l }) (sym (ap (set clock.alarms alarm) (sym e) ∙ set-get_or clock.alarms alarm None))
started-sets rules clock alarm (Some start) e h =
    arms clock alarm (nat_le 1 start.first && nat_le start.first (rule_of_counter rules (counter_of rules alarm)).max && is_cycle (rule_of_counter rules (counter_of rules alarm)) start.cycle)
    (record { ticks = start.first; cycle = start.cycle }) e (cycle-within (rule_of_counter rules (counter_of rules alarm)) start h)

pub record IsArmed (clock : Clock) (starts : List (Option Start)) (k : Clock) (n : ℕ) : Type 0 where
  pub counters : k.counters ≡ clock.counters
  pub long : length k.alarms ≡ length clock.alarms
  pub done : take n k.alarms ≡ map (λ i. armed_at_start (get_or starts i None)) (range_with_len 0 n)
  pub left : (i : ℕ) → n ≤ i → get_or k.alarms i None ≡ None

armed-more : (rules : ClockRules) (starts : List (Option Start)) (clock : Clock) →
    ((alarm : ℕ) → IfSome (get_or starts alarm None) (IsStart (rule_of_counter rules (counter_of rules alarm)))) → (n : ℕ) → suc n ≤ length clock.alarms →
    IsArmed clock starts (fold (λ c alarm. arm_started rules c alarm (get_or starts alarm None)) clock (range_with_len 0 n)) n →
    IsArmed clock starts (fold (λ c alarm. arm_started rules c alarm (get_or starts alarm None)) clock (range_with_len 0 (suc n))) (suc n)
armed-more rules starts clock lawful n le before = subst (λ (k : Clock). IsArmed clock starts k (suc n)) (sym more) (record {
  counters = before.counters;
  long = length-set so_far.alarms n now ∙ before.long;
  done = ap (λ m. take m (set so_far.alarms n now)) next ∙ take_more_set so_far.alarms n now (let l = before.long in omega (arith, l, le))
      ∙ ap (λ (l : List (Option Armed)). l ++ now ∷ []) before.done ∙ sym (ap (λ m. map (λ i. armed_at_start (get_or starts i None)) (range_with_len 0 m)) next ∙ map-range_with_len_more (λ i. armed_at_start (get_or starts i None)) 0 n n (omega arith));
  left = λ i l. get_or-set_other so_far.alarms n i now None (λ e. absurd (omega (arith, e, l))) ∙ before.left i (omega (arith, l));
})
  where
    f : Clock → ℕ → Clock
    f c alarm = arm_started rules c alarm (get_or starts alarm None)

    so_far : Clock
    so_far = fold f clock (range_with_len 0 n)

    now : Option Armed
    now = armed_at_start (get_or starts n None)

    next : suc n ≡ n + 1
    next = omega arith

    more : fold f clock (range_with_len 0 (suc n)) ≡ set_alarm so_far n now
    more = ap (λ m. fold f clock (range_with_len 0 m)) next ∙ fold-more f clock n ∙ started-sets rules so_far n (get_or starts n None) (before.left n (omega arith)) (lawful n)

armed-so-far : (rules : ClockRules) (starts : List (Option Start)) (clock : Clock) → ((i : ℕ) → get_or clock.alarms i None ≡ None) →
    ((alarm : ℕ) → IfSome (get_or starts alarm None) (IsStart (rule_of_counter rules (counter_of rules alarm)))) → (n : ℕ) → n ≤ length clock.alarms →
    IsArmed clock starts (fold (λ c alarm. arm_started rules c alarm (get_or starts alarm None)) clock (range_with_len 0 n)) n
armed-so-far rules starts clock none lawful zero le = record { counters = refl; long = refl; done = refl; left = λ i l. none i }
armed-so-far rules starts clock none lawful (suc n) le = armed-more rules starts clock lawful n le (armed-so-far rules starts clock none lawful n (omega (arith, le)))

rows-armed : (rows : List AlarmRow) (i : ℕ) → armed_at_start (get_or (map (λ row. row.start) rows) i None) ≡ get_or (map (λ row. armed_at_start row.start) rows) i None
rows-armed [] i = refl
rows-armed (row ∷ rows) zero = refl
rows-armed (row ∷ rows) (suc i) = rows-armed rows i

all-rows : (rows : List AlarmRow) → map (λ i. armed_at_start (get_or (map (λ row. row.start) rows) i None)) (range_with_len 0 (length rows)) ≡ map (λ row. armed_at_start row.start) rows
all-rows rows =
    let h : ℕ → Option Armed = λ i. armed_at_start (get_or (map (λ (row : AlarmRow). row.start) rows) i None) in
    let long = length-map-range_with_len h 0 (length rows) in
    ext_get_or None (map h (range_with_len 0 (length rows))) (map (λ (row : AlarmRow). armed_at_start row.start) rows)
    (long ∙ sym (length-map rows (λ (row : AlarmRow). armed_at_start row.start)))
    (λ i lt. get_or-map-range_with_len h 0 (length rows) i i None (omega (arith, lt, long)) (omega arith) ∙ rows-armed rows i)

none-replicated : (n i : ℕ) → get_or {A = Option Armed} (replicate n None) i None ≡ None
none-replicated zero i = refl
none-replicated (suc n) zero = refl
none-replicated (suc n) (suc i) = none-replicated n i

pub all-armed : (tables : Tables) (rules : ClockRules) → ((alarm : ℕ) → IfSome (get_or (map (λ row. row.start) tables.alarms) alarm None) (IsStart (rule_of_counter rules (counter_of rules alarm)))) →
    arm_all rules (map (λ row. row.start) tables.alarms) (first_clock tables) ≡ record (first_clock tables) { alarms = map (λ row. armed_at_start row.start) tables.alarms }
all-armed tables rules lawful =
    let starts = map (λ (row : AlarmRow). row.start) tables.alarms in
    let n = length tables.alarms in
    let clock = first_clock tables in
    let long : length clock.alarms ≡ n = length-replicate n None in
    let h = armed-so-far rules starts clock (none-replicated n) lawful n (omega (arith, long)) in
    let k = fold (λ (c : Clock) (alarm : ℕ). arm_started rules c alarm (get_or starts alarm None)) clock (range_with_len 0 n) in
    ap (λ m. fold (λ (c : Clock) (alarm : ℕ). arm_started rules c alarm (get_or starts alarm None)) clock (range_with_len 0 m)) (length-map tables.alarms (λ (row : AlarmRow). row.start))
    ∙ ap (λ (l : List ℕ). let c : Clock = record { counters = l; alarms = k.alarms } in c) h.counters
    ∙ ap (λ (l : List (Option Armed)). record clock { alarms = l }) (sym (take_all n k.alarms (let l = h.long in omega (arith, l, long))) ∙ h.done ∙ all-rows tables.alarms)

-- the start of the tables
pub start-state : (tables : Tables) (p : Plan) (k : Kernel) → plan_of tables ≡ p → k ≡ new_kernel tables → All IsTaskRule p.rules.tasks →
    ((alarm : ℕ) → IfSome (get_or p.starts alarm None) (IsStart (rule_of_counter p.clock (counter_of p.clock alarm)))) →
    record k { scheduler = dispatch p.rules (activate_all p.rules p.autos k.scheduler); clock = arm_all p.clock p.starts k.clock } ≡ start_kernel tables k
start-state tables p k e f lawful started = by (subst (λ (q : Plan). All IsTaskRule q.rules.tasks) (sym e) lawful) (subst (λ (q : Plan). (alarm : ℕ) → IfSome (get_or q.starts alarm None) (IsStart (rule_of_counter q.clock (counter_of q.clock alarm)))) (sym e) started)
  where
    P : Plan
    P = plan_of tables

    new : Kernel
    new = new_kernel tables

    by : All IsTaskRule P.rules.tasks → ((alarm : ℕ) → IfSome (get_or P.starts alarm None) (IsStart (rule_of_counter P.clock (counter_of P.clock alarm)))) →
        record k { scheduler = dispatch p.rules (activate_all p.rules p.autos k.scheduler); clock = arm_all p.clock p.starts k.clock } ≡ start_kernel tables k
    by l st =
        ap (λ (q : Plan). record k { scheduler = dispatch q.rules (activate_all q.rules q.autos k.scheduler); clock = arm_all q.clock q.starts k.clock }) (sym e)
        ∙ ap (λ (m : Kernel). record m { scheduler = dispatch P.rules (activate_all P.rules P.autos m.scheduler); clock = arm_all P.clock P.starts m.clock }) f
        ∙ ap (λ (s : Scheduler). record new { scheduler = dispatch P.rules s; clock = arm_all P.clock P.starts new.clock }) (all-activated tables l)
        ∙ ap (λ (c : Clock). record new { scheduler = dispatch P.rules (autostarted tables new.scheduler); clock = c }) (all-armed tables P.clock st)
        ∙ ap (start_kernel tables) (sym f)

-- arming leaves the number of alarms
arm-length : (clock : Clock) (alarm : ℕ) (within : Bool) (armed : Armed) → length (arm clock alarm within armed).state.alarms ≡ length clock.alarms
arm-length clock alarm within armed = by (is_some (alarm_at clock alarm)) within refl refl
  where
    by : (used fits : Bool) → is_some (alarm_at clock alarm) ≡ used → within ≡ fits → length (arm clock alarm within armed).state.alarms ≡ length clock.alarms
    by true fits e f = rw e refl
    by false true e f = rw (e, f) (length-set clock.alarms alarm (Some armed))
    by false false e f = rw (e, f) refl

started-length : (rules : ClockRules) (clock : Clock) (alarm : ℕ) (start : Option Start) → length (arm_started rules clock alarm start).alarms ≡ length clock.alarms
started-length rules clock alarm None = refl
started-length rules clock alarm (Some start) = arm-length clock alarm _ _

pub armed-length : (rules : ClockRules) (starts : List (Option Start)) (clock : Clock) → length (arm_all rules starts clock).alarms ≡ length clock.alarms
armed-length rules starts clock = from (places starts) clock
  where
    from : (alarms : List ℕ) (k : Clock) → length (fold (λ c alarm. arm_started rules c alarm (get_or starts alarm None)) k alarms).alarms ≡ length k.alarms
    from [] k = refl
    from (alarm ∷ alarms) k = from alarms (arm_started rules k alarm (get_or starts alarm None)) ∙ started-length rules k alarm (get_or starts alarm None)
