-- What holds after each dispatch holds of every kernel that services and ticks lead to.
use Rattle.std.proofs.Common.{◌≡◌, ℕ, ◌-◌, ◌<◌, Bool, true, false, ◌||◌, ◌&&◌, not, nat_eq, nat_lt, if◌then◌else◌, List, [], ◌∷◌, ◌++◌, map, fold, length, get_or, take, Option, Some, None, Result, Ok, Err, is_some, slice_get, unwrap_or, inl, inr, refl, sym, ap, ◌∙◌, subst, arith, bit_or, bit_and, bit_xor, ◌^◌, ◌⊎◌, get_or-set_same}
use Rattle.std.proofs.lemmas.Bool.{cases_lt}
use Rattle.std.proofs.lemmas.Bool.Decides.{leb_tells, eqb_tells}
use Rattle.std.proofs.lemmas.List.{get_or_past}
use Rattle.osek_core.specs.declared.control.TaskControl.{TaskControl}
use Rattle.osek_core.specs.declared.control.TaskState.{TaskState}
use Rattle.osek_core.specs.declared.control.TaskState.TheVariants.{Suspended, Ready, Running, Waiting}
use Rattle.osek_core.specs.declared.call.Call.{Call}
use Rattle.osek_core.specs.declared.call.Call.TheVariants.{ActivateTask, TerminateTask, ChainTask, Schedule, GetResource, ReleaseResource, SetEvent, ClearEvent, GetEvent, WaitEvent, SetRelAlarm, SetAbsAlarm, CancelAlarm, GetAlarm}
use Rattle.osek_core.specs.declared.tables.Tables.{Tables}
use Rattle.osek_core.specs.declared.tables.AlarmRow.{AlarmRow}
use Rattle.osek_core.specs.declared.tables.Action.{Action}
use Rattle.osek_core.specs.declared.tables.Action.TheVariants.{Activate, Set}
use Rattle.osek_core.specs.declared.tables.TaskRow.{TaskRow}
use Rattle.osek_core.specs.Tables.WellConfigured.{IsWellConfigured}
use Rattle.osek_core.specs.Kernel.Rules.{Rules, rules_of, rule_of, no_task}
use Rattle.osek_core.specs.Kernel.Status.{Answered}
use Rattle.osek_core.specs.Kernel.Scheduler.{Scheduler, idle, task_at, held_by, running, caller, set_state}
use Rattle.osek_core.specs.Kernel.Clock.{ClockRules, places, due, clock_rules_of}
use Rattle.osek_core.specs.Kernel.AlarmServices.{get_alarm}
use Rattle.osek_core.specs.Kernel.Dispatch.{dispatch}
use Rattle.osek_core.specs.Kernel.State.{Kernel, first_scheduler}
use Rattle.osek_core.specs.Kernel.Start.{new_kernel, start_kernel, autostarted}
use Rattle.osek_core.specs.Kernel.Service.{service, call_service, reads}
use Rattle.osek_core.specs.Kernel.Tick.{act, act_row, act_all}
use Rattle.osek_core.specs.Kernel.Invariant.{IsDispatched}
use Rattle.osek_core.specs.Kernel.TaskServices.{activate, activate_task, terminate_task, chain_task, schedule, end_job, is_at_limit, holds_resource}
use Rattle.osek_core.specs.Kernel.ResourceServices.{get_resource, release_resource, hold, is_held, is_ceiling_below}
use Rattle.osek_core.specs.Kernel.EventServices.{set_event, clear_event, get_event, wait_event, set_events, wake, are_apart}
use Rattle.osek_core.specs.Kernel.Coherent.{IsLawful, IsCoherent}
use Rattle.osek_core.proofs.Running.{running-at}
use Rattle.osek_core.proofs.Coherence.{activate-coherent, end_job-coherent, rest-coherent, hold-coherent, events-coherent, wake-coherent, wait-coherent, dispatch-coherent, dispatched, first-coherent}
use Rattle.osek_core.proofs.Holdings.{take-one, less-one}
use Rattle.osek_core.proofs.Scheduling.{ended-below, other-below}
use Rattle.osek_model.specs.Acting.{activate_marked}
use Rattle.osek_model.specs.Reached.{Happening, Serve, Count, happen, StaysDispatched}
use Rattle.osek_model.proofs.News.{each-rule, each-ceiling}
use Rattle.osek_model.proofs.Starts.{all-activated}

-- what holds of the state that each way of a test leads to
cond-state : (P : Scheduler → Type 0) (b : Bool) (x y : Answered Scheduler) → (b ≡ true → P x.state) → (b ≡ false → P y.state) → P (if b then x else y).state
cond-state P true x y f g = f refl
cond-state P false x y f g = g refl

either : (b : Bool) → (b ≡ true) ⊎ (b ≡ false)
either true = inl refl
either false = inr refl

or-false : (p q : Bool) → p || q ≡ false → p ≡ false
or-false true q e = e
or-false false q e = refl

nothing-held : (held : List ℕ) → nat_lt 0 (length held) ≡ false → held ≡ []
nothing-held [] e = refl
nothing-held (x ∷ held) e = elim (leb_tells 1 (length (x ∷ held))) [ inl h ↦ let m = h.0 in absurd cc | inr h ↦ absurd (omega (arith, h.1)) ]

task-known : (rules : Rules) (s : Scheduler) (task : ℕ) → (task_at s task).activations < (rule_of rules task).activations → task < length rules.tasks
task-known rules s task few =
    elim (cases_lt task (length rules.tasks)) [
      | inl lt ↦ lt
      | inr ge ↦ let e = ap (λ r. r.activations) (get_or_past rules.tasks task no_task ge) in absurd (omega (arith, e, few))
    ]

below-limit : (rules : Rules) (s : Scheduler) (task : ℕ) → is_at_limit rules s task ≡ false → (task_at s task).activations < (rule_of rules task).activations
below-limit rules s task e = elim (leb_tells (rule_of rules task).activations (task_at s task).activations) [ inl h ↦ absurd (let k = sym h.0 ∙ e in cc) | inr h ↦ h.1 ]

activates : (rules : Rules) (s : Scheduler) (task : ℕ) → IsLawful rules → IsCoherent rules s → IsCoherent rules (activate_task rules s task).state
activates rules s task l c =
    cond-state (IsCoherent rules) (is_at_limit rules s task) (record { state = s; status = 4 }) (record { state = activate rules s task; status = 0 })
    (λ e. c) (λ e. let few = below-limit rules s task e in activate-coherent rules s task l c (task-known rules s task few) few)

terminates : (rules : Rules) (s : Scheduler) (own : ℕ) → IsLawful rules → IsCoherent rules s → (task_at s own).state ≡ Running → IsCoherent rules (terminate_task rules s own).state
terminates rules s own l c run =
    cond-state (IsCoherent rules) (holds_resource s own) (record { state = s; status = 6 }) (record { state = end_job rules s own; status = 0 })
    (λ e. c) (λ e. end_job-coherent rules s own l c run (nothing-held (held_by s own) e))

chains : (rules : Rules) (s : Scheduler) (own task : ℕ) → IsLawful rules → IsCoherent rules s → (task_at s own).state ≡ Running → own < length s.tasks → IsCoherent rules (chain_task rules s own task).state
chains rules s own task l c run lt =
    elim (either (holds_resource s own)) [
      | inl h ↦ rw h c
      | inr h ↦ elim (either (not (nat_eq task own) && is_at_limit rules s task)) [
        | inl f ↦ rw (h, f) c
        | inr f ↦ rw (h, f) (let few = below f in
            activate-coherent rules (end_job rules s own) task l (end_job-coherent rules s own l c run (nothing-held (held_by s own) h)) (task-known rules (end_job rules s own) task few) few)
      ]
    ]
  where
    below : ((not (nat_eq task own) && is_at_limit rules s task) ≡ false) → (task_at (end_job rules s own) task).activations < (rule_of rules task).activations
    below f = elim (eqb_tells task own) [
      | inl h ↦ subst (λ t. (task_at (end_job rules s own) t).activations < (rule_of rules t).activations) (sym h.1) (ended-below rules s own c run lt)
      | inr h ↦ other-below rules s own task h.1 (rw h.0 at f)
    ]

gives-way : (rules : Rules) (s : Scheduler) (own : ℕ) → IsCoherent rules s → (task_at s own).state ≡ Running → IsCoherent rules (schedule s own).state
gives-way rules s own c run =
    cond-state (IsCoherent rules) (holds_resource s own) (record { state = s; status = 6 }) (record { state = set_state s own Ready; status = 0 }) (λ e. c) (λ e. rest-coherent rules s own c run)

takes : (rules : Rules) (s : Scheduler) (own resource : ℕ) → IsLawful rules → IsCoherent rules s → (task_at s own).state ≡ Running → own < length s.held → IsCoherent rules (get_resource rules s own resource).state
takes rules s own resource l c run lt =
    cond-state (IsCoherent rules) (is_held s resource || is_ceiling_below rules resource own) (record { state = s; status = 1 }) (record { state = hold rules s own (held_by s own ++ resource ∷ []); status = 0 })
    (λ e. c) (λ e. hold-coherent rules s own (held_by s own ++ resource ∷ []) l c run (λ q. take-one s.held own resource q lt (or-false _ _ e) (c.one_holder q)))

releases : (rules : Rules) (s : Scheduler) (own resource : ℕ) → IsLawful rules → IsCoherent rules s → (task_at s own).state ≡ Running → own < length s.held → IsCoherent rules (release_resource rules s own resource).state
releases rules s own resource l c run lt =
    cond-state (IsCoherent rules) (is_ceiling_below rules resource own) (record { state = s; status = 1 }) _ (λ e. c) (λ e.
    cond-state (IsCoherent rules) _ (record { state = s; status = 5 }) (record { state = hold rules s own (take (length (held_by s own) - 1) (held_by s own)); status = 0 }) (λ f. c)
    (λ f. hold-coherent rules s own (take (length (held_by s own) - 1) (held_by s own)) l c run (λ q. less-one s.held own (length (held_by s own) - 1) q lt (c.one_holder q))))

extended-known : (rules : Rules) (task : ℕ) → (rule_of rules task).extended ≡ true → task < length rules.tasks
extended-known rules task e =
    elim (cases_lt task (length rules.tasks)) [ inl lt ↦ lt | inr ge ↦ absurd (let k = sym (ap (λ r. r.extended) (get_or_past rules.tasks task no_task ge)) ∙ e in cc) ]

sets-events : (rules : Rules) (s : Scheduler) (task mask : ℕ) → IsLawful rules → IsCoherent rules s → task < length rules.tasks → (t : TaskState) → (task_at s task).state ≡ t → (rule_of rules task).extended ≡ true →
    IsCoherent rules (set_event rules s task mask).state
sets-events rules s task mask l c lt Suspended e x = rw (x, e) c
sets-events rules s task mask l c lt Ready e x = rw (x, e) (events-coherent rules s task (bit_or (task_at s task).events mask) c lt)
sets-events rules s task mask l c lt Running e x = rw (x, e) (events-coherent rules s task (bit_or (task_at s task).events mask) c lt)
sets-events rules s task mask l c lt (Waiting waited) e x = rw (x, e) (wakes (are_apart waited mask))
  where
    after : Scheduler
    after = set_events s task (bit_or (task_at s task).events mask)

    wakes : (b : Bool) → IsCoherent rules (if b then after else wake rules after task)
    wakes true = events-coherent rules s task (bit_or (task_at s task).events mask) c lt
    wakes false = wake-coherent rules after task waited l (events-coherent rules s task (bit_or (task_at s task).events mask) c lt)
        (ap (λ (k : TaskControl). k.state) (get_or-set_same s.tasks task (record (task_at s task) { events = bit_or (task_at s task).events mask }) idle (let t = c.tasks in omega (arith, lt, t))) ∙ e)

sets : (rules : Rules) (s : Scheduler) (task mask : ℕ) → IsLawful rules → IsCoherent rules s → IsCoherent rules (set_event rules s task mask).state
sets rules s task mask l c =
    elim (either (rule_of rules task).extended) [
      | inl x ↦ sets-events rules s task mask l c (extended-known rules task x) (task_at s task).state refl x
      | inr x ↦ rw x c
    ]

clears : (rules : Rules) (s : Scheduler) (own mask : ℕ) → IsCoherent rules s → IsCoherent rules (clear_event rules s own mask).state
clears rules s own mask c =
    elim (either (rule_of rules own).extended) [
      | inl x ↦ rw x (events-coherent rules s own (bit_xor (task_at s own).events (bit_and (task_at s own).events mask)) c (extended-known rules own x))
      | inr x ↦ rw x c
    ]

waits : (rules : Rules) (s : Scheduler) (own mask : ℕ) → IsLawful rules → IsCoherent rules s → (task_at s own).state ≡ Running → IsCoherent rules (wait_event rules s own mask).state
waits rules s own mask l c run =
    elim (either (rule_of rules own).extended) [
      | inl x ↦ elim (either (holds_resource s own)) [
        | inl h ↦ rw (x, h) c
        | inr h ↦ elim (either (are_apart (task_at s own).events mask)) [
          | inl a ↦ rw (x, h, a) (wait-coherent rules s own mask l c run (nothing-held (held_by s own) h) x)
          | inr a ↦ rw (x, h, a) c
        ]
      ]
      | inr x ↦ rw x c
    ]

-- a service of the running task
reads-keep : (rules : Rules) (k : Kernel) (r : Result ℕ ℕ) → IsCoherent rules k.scheduler → IsCoherent rules (reads k r).kernel.scheduler
reads-keep rules k (Ok value) c = c
reads-keep rules k (Err status) c = c

served : (rules : Rules) (clocks : ClockRules) (k : Kernel) (own : ℕ) (call : Call) → IsLawful rules → IsCoherent rules k.scheduler → (task_at k.scheduler own).state ≡ Running → own < length k.scheduler.tasks → own < length k.scheduler.held →
    IsCoherent rules (call_service rules clocks k own call).kernel.scheduler
served rules clocks k own (ActivateTask task) l c run lt hl = activates rules k.scheduler task l c
served rules clocks k own TerminateTask l c run lt hl = terminates rules k.scheduler own l c run
served rules clocks k own (ChainTask task) l c run lt hl = chains rules k.scheduler own task l c run lt
served rules clocks k own Schedule l c run lt hl = gives-way rules k.scheduler own c run
served rules clocks k own (GetResource resource) l c run lt hl = takes rules k.scheduler own resource l c run hl
served rules clocks k own (ReleaseResource resource) l c run lt hl = releases rules k.scheduler own resource l c run hl
served rules clocks k own (SetEvent task mask) l c run lt hl = sets rules k.scheduler task mask l c
served rules clocks k own (ClearEvent mask) l c run lt hl = clears rules k.scheduler own mask c
served rules clocks k own (GetEvent task) l c run lt hl = reads-keep rules k (get_event rules k.scheduler task) c
served rules clocks k own (WaitEvent mask) l c run lt hl = waits rules k.scheduler own mask l c run
served rules clocks k own (SetRelAlarm alarm n cycle) l c run lt hl = c
served rules clocks k own (SetAbsAlarm alarm n cycle) l c run lt hl = c
served rules clocks k own (CancelAlarm alarm) l c run lt hl = c
served rules clocks k own (GetAlarm alarm) l c run lt hl = reads-keep rules k (get_alarm k.clock alarm) c

-- alarms act
acts-keep : (tables : Tables) (s : Scheduler) (row : Option AlarmRow) → IsLawful (rules_of tables) → IsCoherent (rules_of tables) s → IsCoherent (rules_of tables) (act_row (rules_of tables) s row).state
acts-keep tables s None l c = c
acts-keep tables s (Some row) l c = by row.action
  where
    by : (action : Action) → IsCoherent (rules_of tables) (act (rules_of tables) s action).state
    by (Activate task) = activates (rules_of tables) s task l c
    by (Set task event) = sets (rules_of tables) s task (2 ^ event) l c

all-act : (tables : Tables) (s : Scheduler) (alarms : List ℕ) → IsLawful (rules_of tables) → IsCoherent (rules_of tables) s → IsCoherent (rules_of tables) (act_all tables s alarms).scheduler
all-act tables s [] l c = c
all-act tables s (alarm ∷ later) l c = all-act tables (act_row (rules_of tables) s (slice_get tables.alarms alarm)).state later l (acts-keep tables s (slice_get tables.alarms alarm) l c)

-- the start
starts-keep : (rules : Rules) (autos : List Bool) (s : Scheduler) (tasks : List ℕ) → IsLawful rules → IsCoherent rules s → IsCoherent rules (fold (activate_marked rules autos) s tasks)
starts-keep rules autos s [] l c = c
starts-keep rules autos s (task ∷ tasks) l c = starts-keep rules autos (activate_marked rules autos s task) tasks l (by (get_or autos task false))
  where
    by : (b : Bool) → IsCoherent rules (if b then (activate_task rules s task).state else s)
    by true = activates rules s task l c
    by false = c

lawful-rules : (tables : Tables) → IsWellConfigured tables → IsLawful (rules_of tables)
lawful-rules tables w = record { tasks = each-rule tables w; ceilings = each-ceiling tables (length tables.resources) w }

start-keeps : (tables : Tables) → IsWellConfigured tables → IsCoherent (rules_of tables) (autostarted tables (first_scheduler (rules_of tables)))
start-keeps tables w =
    let rules = rules_of tables in
    let autos : List Bool = map (λ (row : TaskRow). row.auto) tables.tasks in
    subst (IsCoherent rules) (all-activated tables (each-rule tables w)) (starts-keep rules autos (first_scheduler rules) (places autos) (lawful-rules tables w) (first-coherent rules))

-- whatever happens, a dispatch comes last
after-dispatch : (tables : Tables) (s : Scheduler) → IsCoherent (rules_of tables) s → IsCoherent (rules_of tables) (dispatch (rules_of tables) s) × IsDispatched (rules_of tables) (dispatch (rules_of tables) s)
after-dispatch tables s c = ((dispatch-coherent (rules_of tables) s c).0, dispatched (rules_of tables) s c)

happens : (tables : Tables) (k : Kernel) (h : Happening) → IsLawful (rules_of tables) → IsCoherent (rules_of tables) k.scheduler × IsDispatched (rules_of tables) k.scheduler →
    IsCoherent (rules_of tables) (happen tables k h).scheduler × IsDispatched (rules_of tables) (happen tables k h).scheduler
happens tables k (Serve call) l c = by (running k.scheduler) refl
  where
    by : (o : Option ℕ) → running k.scheduler ≡ o → IsCoherent (rules_of tables) (if is_some o then (service tables k call).kernel else k).scheduler × IsDispatched (rules_of tables) (if is_some o then (service tables k call).kernel else k).scheduler
    by None e = c
    by (Some own) e =
        let at = running-at k.scheduler.tasks own e in
        let same : own ≡ caller k.scheduler = ap (λ o. unwrap_or o 0) (sym e) in
        let tasks = c.0.tasks in
        let holders = c.0.holders in
        after-dispatch tables _ (served (rules_of tables) (clock_rules_of tables) k (caller k.scheduler) call l c.0
        (subst (λ t. (task_at k.scheduler t).state ≡ Running) same at.1) (subst (λ t. t < length k.scheduler.tasks) same at.0) (subst (λ t. t < length k.scheduler.held) same (omega (arith, at.0, tasks, holders))))
happens tables k (Count counter) l c = after-dispatch tables _ (all-act tables k.scheduler (due (clock_rules_of tables) k.clock counter) l c.0)

from-here : (tables : Tables) (k : Kernel) (hs : List Happening) → IsLawful (rules_of tables) → IsCoherent (rules_of tables) k.scheduler × IsDispatched (rules_of tables) k.scheduler →
    IsDispatched (rules_of tables) (fold (happen tables) k hs).scheduler
from-here tables k [] l c = c.1
from-here tables k (h ∷ hs) l c = from-here tables (happen tables k h) hs l (happens tables k h l c)

pub stays-dispatched : StaysDispatched
stays-dispatched tables w hs = from-here tables (start_kernel tables (new_kernel tables)) hs (lawful-rules tables w) (after-dispatch tables _ (start-keeps tables w))
