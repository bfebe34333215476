-- What the lists that a `Core` keeps stand for, and that they stay sound.
use Rattle.std.proofs.Common.{◌≡◌, ◌≢◌, ℕ, ◌-◌, ◌*◌, ◌<◌, ◌≤◌, Bool, true, false, nat_eq, nat_lt, List, [], ◌∷◌, ◌++◌, map, reverse, length, get_or, take, drop, set, Option, Some, None, inl, inr, refl, sym, ap, ◌∙◌, subst, arith, All, sum_by, length-set, get_or-set_same, get_or-set_other, position, replicate}
use Rattle.std.specs.List.{range_with_len, list_any, IsDistinct, ends_with}
use Rattle.std.proofs.lemmas.Bool.Decides.{eqb_tells, leb_tells}
use Rattle.std.proofs.lemmas.List.Elements.{All-append, All-set}
use Rattle.std.proofs.lemmas.List.{get_or_default, take-append-le, take_all, length-replicate, length-map, length-reverse}
use Rattle.std.proofs.lemmas.List.FromFn.{length-range_with_len}
use Rattle.std.proofs.lemmas.List.Sums.{sum_by-set, sum_by-le}
use Rattle.osek_core.specs.declared.scheduler.Job.{Job}
use Rattle.osek_core.specs.declared.scheduler.Holding.{Holding}
use Rattle.osek_core.specs.declared.tables.TaskRule.{TaskRule}
use Rattle.osek_core.specs.declared.control.TaskControl.{TaskControl}
use Rattle.osek_core.specs.declared.control.TaskState.{TaskState}
use Rattle.osek_core.specs.declared.control.TaskState.TheVariants.{Suspended, Ready, Running, Waiting}
use Rattle.osek_core.specs.Tables.Limits.{IsTaskRule}
use Rattle.osek_core.specs.Core.Queue.{queue, queues, top_job, without_first, with_top_running, with_first_moved}
use Rattle.osek_core.specs.Core.Held.{taken_by, resources_of, without_last_taken, highest_of}
use Rattle.osek_core.specs.Core.Waits.{IsWaiting}
use Rattle.osek_core.specs.Core.Kept.{IsSound, scheduled, scheduler_of, priority_of}
use Rattle.osek_core.specs.Kernel.Rules.{Rules, no_task, rule_of, ceiling_of}
use Rattle.osek_core.specs.Kernel.Scheduler.{Scheduler, idle, is_running, task_at, held_by, set_task, set_jobs, add_last, remove_first, move_first, current_priority}
use Rattle.osek_core.specs.Kernel.State.{priorities, first_scheduler}
use Rattle.osek_core.specs.Kernel.Dispatch.{run_first, dispatch}
use Rattle.osek_core.specs.Kernel.TaskServices.{end_job, terminated, holds_resource, is_at_limit}
use Rattle.osek_core.specs.Kernel.ResourceServices.{hold}
use Rattle.osek_core.specs.Kernel.Invariant.{count_of}
use Rattle.osek_core.specs.Kernel.Coherent.{IsLawful, IsCoherent, IsTaskCoherent, FitsState, LeadsAt, jobs_standing, raised}
use Rattle.osek_core.proofs.Running.{running-at}
use Rattle.osek_core.proofs.Coherence.{task-there, raised-below, own-below, hold-is, hold-coherent, dispatch-coherent, first-coherent, at-state}
use Rattle.osek_core.proofs.Queues.{queues-push, queues-first, queues-without, queues-total, jobs-at, job-counted, first_job-queues, without-All, All-cons}
use Rattle.osek_core.proofs.Holdings.{taken-none, taken-some, held-at, held-none, held-set, highest-reverse, last-some, last-none, ends-some}

abbrev pub rules_at : List TaskRule → List ℕ → Rules
rules_at rules ceilings = record { tasks = rules; ceilings = ceilings }

-- an item that is there, whatever stands for one that isn't
pub read_at : {X : Type 0} (xs : List X) (i : ℕ) (x d : X) → i < length xs → x ≡ get_or xs i x → x ≡ get_or xs i d
read_at xs i x d lt e = e ∙ get_or_default xs i x d lt

abbrev pub job_of : List TaskRule → ℕ → Job
job_of rules task = record { task = task; priority = priority_of rules task }

-- a block is set, and a job comes behind all others
pub push-view : (rules : List TaskRule) (controls : List TaskControl) (jobs : List Job) (holdings : List Holding) (task : ℕ) (control : TaskControl) → priority_of rules task < priorities →
    scheduler_of (set controls task control) (jobs ++ job_of rules task ∷ []) holdings
    ≡ add_last (set_task (scheduler_of controls jobs holdings) task control) (priority_of rules task) task
push-view rules controls jobs holdings task control lt =
    rw (queues-push jobs (job_of rules task), length-set, jobs-at jobs (priority_of rules task) lt) refl

-- a block is set, and the first job of a priority leaves
pub remove-view : (controls : List TaskControl) (jobs : List Job) (holdings : List Holding) (task : ℕ) (control : TaskControl) (p : ℕ) → p < priorities →
    scheduler_of (set controls task control) (without_first jobs p) holdings ≡ set_task (remove_first (scheduler_of controls jobs holdings) p) task control
remove-view controls jobs holdings task control p lt = rw (queues-without jobs p, length-set, jobs-at jobs p lt) refl

-- a block is set
pub set-view : (controls : List TaskControl) (jobs : List Job) (holdings : List Holding) (task : ℕ) (control : TaskControl) →
    scheduler_of (set controls task control) jobs holdings ≡ set_task (scheduler_of controls jobs holdings) task control
set-view controls jobs holdings task control = rw length-set refl

-- the first job of a priority moves
pub move-view : (controls : List TaskControl) (jobs : List Job) (holdings : List Holding) (task before after : ℕ) → before < priorities → after < priorities →
    scheduler_of controls (with_first_moved jobs before after task) holdings ≡ move_first (scheduler_of controls jobs holdings) before after task
move-view controls jobs holdings task before after lt low =
    elim (eqb_tells before after) [
      | inl h ↦ rw h.0 refl
      | inr h ↦ rw h.0 (by (queues-first (without_first jobs before) (record { task = task; priority = after }))
          (jobs-at (without_first jobs before) after low) (queues-without jobs before) (jobs-at jobs before lt))
    ]
  where
    by : queues (record { task = task; priority = after } ∷ without_first jobs before) ≡ set (queues (without_first jobs before)) after (task ∷ queue (without_first jobs before) after) →
        get_or (queues (without_first jobs before)) after [] ≡ queue (without_first jobs before) after →
        queues (without_first jobs before) ≡ set (queues jobs) before (drop 1 (queue jobs before)) →
        get_or (queues jobs) before [] ≡ queue jobs before →
        scheduler_of controls (record { task = task; priority = after } ∷ without_first jobs before) holdings
        ≡ set_jobs (remove_first (scheduler_of controls jobs holdings) before) after (task ∷ get_or (set (queues jobs) before (drop 1 (get_or (queues jobs) before []))) after [])
    by e f g h =
        let k : set (queues jobs) before (drop 1 (get_or (queues jobs) before [])) ≡ queues (without_first jobs before) = ap (λ l. set (queues jobs) before (drop 1 l)) h ∙ sym g in
        ap (λ (r : List (List ℕ)). let s : Scheduler = record { ready = r; tasks = controls; held = map (resources_of holdings) (range_with_len 0 (length controls)) } in s)
        (e ∙ ap (λ l. set (queues (without_first jobs before)) after (task ∷ l)) (sym f) ∙ ap (λ (l : List (List ℕ)). set l after (task ∷ get_or l after [])) (sym k))

-- all of a sound scheduler after some of its lists changed
pub sound-after : (rules : List TaskRule) (ceilings : List ℕ) (controls controls' : List TaskControl) (jobs jobs' : List Job) (holdings : List Holding) (room room' spare : ℕ) →
    IsSound rules ceilings controls jobs holdings room spare → length controls' ≡ length controls → room ≤ room' →
    All (λ job. job.priority < priorities) jobs' → IsCoherent (rules_at rules ceilings) (scheduler_of controls' jobs' holdings) →
    IsSound rules ceilings controls' jobs' holdings room' spare
sound-after rules ceilings controls controls' jobs jobs' holdings room room' spare s long more listed coherent =
    record {
      few = s.few;
      lawful = s.lawful;
      roomy = omega (arith, more, s.roomy);
      spacious = s.spacious;
      coherent = coherent;
      listed = listed;
      holders = λ k d l. let h = s.holders k d l in omega (arith, h, long);
      taken = s.taken;
      apart = s.apart;
    }

-- a new job behind all others
pub add-sound : (rules : List TaskRule) (ceilings : List ℕ) (controls : List TaskControl) (jobs : List Job) (holdings : List Holding) (room room' spare : ℕ) (task : ℕ) (control : TaskControl) →
    IsSound rules ceilings controls jobs holdings room spare → room ≤ room' →
    IsCoherent (rules_at rules ceilings) (add_last (set_task (scheduler_of controls jobs holdings) task control) (priority_of rules task) task) →
    IsSound rules ceilings (set controls task control) (jobs ++ job_of rules task ∷ []) holdings room' spare
add-sound rules ceilings controls jobs holdings room room' spare task control s more coherent =
    let lt = own-below (rules_at rules ceilings) task s.lawful in
    sound-after rules ceilings controls (set controls task control) jobs (jobs ++ job_of rules task ∷ []) holdings room room' spare s (length-set controls task control) more
    (All-append (λ job. job.priority < priorities) jobs (job_of rules task ∷ []) s.listed (All-cons (λ job. job.priority < priorities) (job_of rules task) [] lt (λ k d l. absurd (omega arith))))
    (subst (IsCoherent (rules_at rules ceilings)) (sym (push-view rules controls jobs holdings task control lt)) coherent)

-- the first job of a priority leaves
pub leave-sound : (rules : List TaskRule) (ceilings : List ℕ) (controls : List TaskControl) (jobs : List Job) (holdings : List Holding) (room spare : ℕ) (task : ℕ) (control : TaskControl) (p : ℕ) → p < priorities →
    IsSound rules ceilings controls jobs holdings room spare →
    IsCoherent (rules_at rules ceilings) (set_task (remove_first (scheduler_of controls jobs holdings) p) task control) →
    IsSound rules ceilings (set controls task control) (without_first jobs p) holdings room spare
leave-sound rules ceilings controls jobs holdings room spare task control p lt s coherent =
    sound-after rules ceilings controls (set controls task control) jobs (without_first jobs p) holdings room room spare s (length-set controls task control) (omega arith)
    (without-All (λ job. job.priority < priorities) (λ job. nat_eq job.priority p) jobs s.listed)
    (subst (IsCoherent (rules_at rules ceilings)) (sym (remove-view controls jobs holdings task control p lt)) coherent)

-- one block changes alone
pub set-sound : (rules : List TaskRule) (ceilings : List ℕ) (controls : List TaskControl) (jobs : List Job) (holdings : List Holding) (room spare : ℕ) (task : ℕ) (control : TaskControl) →
    IsSound rules ceilings controls jobs holdings room spare →
    IsCoherent (rules_at rules ceilings) (set_task (scheduler_of controls jobs holdings) task control) →
    IsSound rules ceilings (set controls task control) jobs holdings room spare
set-sound rules ceilings controls jobs holdings room spare task control s coherent =
    sound-after rules ceilings controls (set controls task control) jobs jobs holdings room room spare s (length-set controls task control) (omega arith) s.listed
    (subst (IsCoherent (rules_at rules ceilings)) (sym (set-view controls jobs holdings task control)) coherent)

-- each job's task is there
pub jobs-there : (rules : List TaskRule) (ceilings : List ℕ) (controls : List TaskControl) (jobs : List Job) (holdings : List Holding) (room spare : ℕ) →
    IsSound rules ceilings controls jobs holdings room spare → All (λ job. job.task < length controls) jobs
jobs-there rules ceilings controls jobs holdings room spare s k d l =
    let job = get_or jobs k d in
    let c = s.coherent in
    let low = s.listed k d l in
    let some = job-counted jobs k d l in
    let at = ap (count_of job.task) (jobs-at jobs job.priority low) in
    let there = task-there (rules_at rules ceilings) (scheduler_of controls jobs holdings) job.task c
    (λ e. at-state (λ control. IsTaskCoherent (rules_at rules ceilings) (queues jobs) job.task (held_by (scheduler_of controls jobs holdings) job.task) control → ⊥) (get_or controls job.task idle) Suspended e
    (λ h. let p = h.placed job.priority in omega (arith, some, at, p)) (c.each job.task)) in
    omega (arith, there, c.tasks)

-- there is room for one job more of a task that has fewer than 15
pub room-left : (rules : List TaskRule) (ceilings : List ℕ) (controls : List TaskControl) (jobs : List Job) (holdings : List Holding) (room spare : ℕ) (task : ℕ) →
    IsSound rules ceilings controls jobs holdings room spare → task < length controls → jobs_standing (get_or controls task idle) < 15 → length jobs < room
room-left rules ceilings controls jobs holdings room spare task s there few =
    let full : TaskControl = record { state = Ready; activations = 15; events = 0 } in
    let c = s.coherent in
    let each : All (λ control. jobs_standing control ≤ 15) controls = λ k d l. most k d l in
    let most = sum_by-le jobs_standing 15 (set controls task full) (All-set (λ control. jobs_standing control ≤ 15) controls task full (omega arith) each) in
    let long = length-set controls task full in
    let total = queues-total jobs s.listed in
    omega (arith, c.counted, s.roomy, c.tasks, most, long, total, sum_by-set jobs_standing controls task full idle there)
  where
    standing-most : (control : TaskControl) → jobs_standing control ≤ control.activations
    standing-most control = by control.state refl
      where
        by : (state : TaskState) → control.state ≡ state → jobs_standing control ≤ control.activations
        by Suspended e = rw e (omega arith)
        by Ready e = rw e (omega arith)
        by Running e = rw e (omega arith)
        by (Waiting events) e = rw e (omega arith)

    most : (k : ℕ) (d : TaskControl) → k < length controls → jobs_standing (get_or controls k d) ≤ 15
    most k d l =
        let c = s.coherent in
        let w = (c.each k).within in
        let r = (s.lawful.tasks k no_task (omega (arith, l, c.tasks))).at_most in
        let t = standing-most (get_or controls k d) in
        let e = ap (λ control. control.activations) (get_or_default controls k d idle l) in
        omega (arith, w, r, t, e)

-- what is known of the running task
pub record IsRun (rules : List TaskRule) (ceilings : List ℕ) (controls : List TaskControl) (jobs : List Job) (holdings : List Holding) (task : ℕ) : Type 0 where
  pub there : task < length controls
  pub ruled : task < length rules
  pub runs : (get_or controls task idle).state ≡ Running
  pub leads : LeadsAt (queues jobs) (raised (rules_at rules ceilings) task (resources_of holdings task)) task
  pub held : held_by (scheduler_of controls jobs holdings) task ≡ resources_of holdings task

pub run-at : (rules : List TaskRule) (ceilings : List ℕ) (controls : List TaskControl) (jobs : List Job) (holdings : List Holding) (room spare : ℕ) (task : ℕ) →
    IsSound rules ceilings controls jobs holdings room spare → position is_running controls ≡ Some task → IsRun rules ceilings controls jobs holdings task
run-at rules ceilings controls jobs holdings room spare task s e =
    let at = running-at controls task e in
    let c = s.coherent in
    let held = held-at holdings (length controls) task at.0 in
    let f = subst (FitsState (rules_at rules ceilings) (queues jobs) task (held_by (scheduler_of controls jobs holdings) task) (get_or controls task idle)) at.1 (c.each task).state in
    record {
      there = at.0;
      ruled = omega (arith, at.0, c.tasks);
      runs = at.1;
      leads = subst (λ h. LeadsAt (queues jobs) (raised (rules_at rules ceilings) task h) task) held f.1;
      held = held;
    }

-- a task without a resource
pub free-nothing : (controls : List TaskControl) (jobs : List Job) (holdings : List Holding) (task : ℕ) → holds_resource (scheduler_of controls jobs holdings) task ≡ false → held_by (scheduler_of controls jobs holdings) task ≡ []
free-nothing controls jobs holdings task e = by (held_by (scheduler_of controls jobs holdings) task) e
  where
    by : (held : List ℕ) → nat_lt 0 (length held) ≡ false → held ≡ []
    by [] k = refl
    by (x ∷ held) k = elim (leb_tells 1 (length (x ∷ held))) [ inl h ↦ let m = h.0 in absurd cc | inr h ↦ absurd (omega (arith, h.1)) ]

-- the value of equal lists
pub scheduled-at : (rules : List TaskRule) (ceilings : List ℕ) (controls controls' : List TaskControl) (jobs jobs' : List Job) (holdings holdings' : List Holding) (s : Scheduler) →
    controls' ≡ controls → jobs' ≡ jobs → holdings' ≡ holdings → scheduler_of controls jobs holdings ≡ s →
    scheduled rules ceilings controls' jobs' holdings' ≡ record { rules = rules_at rules ceilings; scheduler = s }
scheduled-at rules ceilings controls controls' jobs jobs' holdings holdings' s e f g h =
    rw (e, f, g) (ap (λ x. record { rules = rules_at rules ceilings; scheduler = x }) h)

pub sound-at : (rules : List TaskRule) (ceilings : List ℕ) (controls controls' : List TaskControl) (jobs jobs' : List Job) (holdings holdings' : List Holding) (room spare : ℕ) →
    controls' ≡ controls → jobs' ≡ jobs → holdings' ≡ holdings → IsSound rules ceilings controls jobs holdings room spare → IsSound rules ceilings controls' jobs' holdings' room spare
sound-at rules ceilings controls controls' jobs jobs' holdings holdings' room spare e f g h = rw (e, f, g) h

-- as many items written over a list's are those
pub written-over : {X : Type 0} (n : ℕ) (xs ws : List X) → length ws ≡ n → take n (ws ++ drop (length ws) xs) ≡ ws
written-over n xs ws e = rw (take-append-le n ws (drop (length ws) xs) (omega arith)) (take_all n ws (omega arith))

-- how many jobs of a task stand in lists
pub standing-most : (control : TaskControl) → jobs_standing control ≤ control.activations
standing-most control = by control.state refl
  where
    by : (state : TaskState) → control.state ≡ state → jobs_standing control ≤ control.activations
    by Suspended e = rw e (omega arith)
    by Ready e = rw e (omega arith)
    by Running e = rw e (omega arith)
    by (Waiting events) e = rw e (omega arith)

pub few-standing : (rules : List TaskRule) (ceilings : List ℕ) (control : TaskControl) (task : ℕ) → IsLawful (rules_at rules ceilings) → task < length rules →
    control.activations < (get_or rules task no_task).activations → jobs_standing control < 15
few-standing rules ceilings control task l lt few = let m = standing-most control in let r = (l.tasks task no_task lt).at_most in omega (arith, m, r, few)

pub is-waiting : (state : TaskState) → IsWaiting state → (mask : ℕ) × (state ≡ Waiting mask)
is-waiting Suspended h = absurd h
is-waiting Ready h = absurd h
is-waiting Running h = absurd h
is-waiting (Waiting mask) h = (mask, refl)

pub none-standing : (control : TaskControl) (mask : ℕ) → control.state ≡ Waiting mask → jobs_standing control < 15
none-standing control mask e = rw e (omega arith)

-- the priority of a task without a resource
pub own-priority : (rules : List TaskRule) (ceilings : List ℕ) (controls : List TaskControl) (jobs : List Job) (holdings : List Holding) (task : ℕ) →
    held_by (scheduler_of controls jobs holdings) task ≡ [] → priority_of rules task ≡ current_priority (rules_at rules ceilings) (scheduler_of controls jobs holdings) task
own-priority rules ceilings controls jobs holdings task none = ap (raised (rules_at rules ceilings) task) (sym none)

-- the current priority of a task, and the greatest of its own and of the ceilings
pub highest-raised : (rules : List TaskRule) (ceilings : List ℕ) (holdings : List Holding) (task : ℕ) →
    highest_of (priority_of rules task) ceilings holdings task ≡ raised (rules_at rules ceilings) task (resources_of holdings task)
highest-raised rules ceilings holdings task = sym (highest-reverse (priority_of rules task) (ceiling_of (rules_at rules ceilings)) (taken_by holdings task))

-- the running task's resources change
pub hold-view : (rules : List TaskRule) (ceilings : List ℕ) (controls : List TaskControl) (jobs : List Job) (holdings holdings' : List Holding) (task : ℕ) (held : List ℕ) →
    IsLawful (rules_at rules ceilings) → task < length controls → resources_of holdings' task ≡ held → ((q : ℕ) → q ≢ task → resources_of holdings' q ≡ resources_of holdings q) →
    scheduler_of controls (with_first_moved jobs (highest_of (priority_of rules task) ceilings holdings task) (highest_of (priority_of rules task) ceilings holdings' task) task) holdings'
    ≡ hold (rules_at rules ceilings) (scheduler_of controls jobs holdings) task held
hold-view rules ceilings controls jobs holdings holdings' task held l lt own others =
    ap (λ p. scheduler_of controls (with_first_moved jobs p after task) holdings') (before-is ∙ ap (raised R task) (sym held_is))
    ∙ ap (λ p. scheduler_of controls (with_first_moved jobs (raised R task (held_by S task)) p task) holdings') after-is
    ∙ move-view controls jobs holdings' task (raised R task (held_by S task)) (raised R task held) (raised-below R task (held_by S task) l) (raised-below R task held l)
    ∙ ap (λ (h : List (List ℕ)). let s : Scheduler = record { ready = queues jobs; tasks = controls; held = h } in move_first s (raised R task (held_by S task)) (raised R task held) task)
    (held-set (length controls) task holdings holdings' others ∙ ap (set (map (resources_of holdings) (range_with_len 0 (length controls))) task) own)
    ∙ sym (hold-is R S task held (rw (length-map (range_with_len 0 (length controls)) (resources_of holdings), length-range_with_len) lt))
  where
    R : Rules
    R = rules_at rules ceilings

    S : Scheduler
    S = scheduler_of controls jobs holdings

    after : ℕ
    after = highest_of (priority_of rules task) ceilings holdings' task

    held_is : held_by S task ≡ resources_of holdings task
    held_is = held-at holdings (length controls) task lt

    before-is : highest_of (priority_of rules task) ceilings holdings task ≡ raised R task (resources_of holdings task)
    before-is = highest-raised rules ceilings holdings task

    after-is : highest_of (priority_of rules task) ceilings holdings' task ≡ raised R task held
    after-is = highest-raised rules ceilings holdings' task ∙ ap (raised R task) own

moved-below : (jobs : List Job) (before after task : ℕ) → after < priorities → All (λ job. job.priority < priorities) jobs → All (λ job. job.priority < priorities) (with_first_moved jobs before after task)
moved-below jobs before after task lt each =
    elim (eqb_tells before after) [
      | inl h ↦ rw h.0 each
      | inr h ↦ rw h.0 (All-cons (λ job. job.priority < priorities) (record { task = task; priority = after }) (without_first jobs before) lt
          (without-All (λ job. job.priority < priorities) (λ job. nat_eq job.priority before) jobs each))
    ]

pub hold-sound : (rules : List TaskRule) (ceilings : List ℕ) (controls : List TaskControl) (jobs : List Job) (holdings holdings' : List Holding) (room spare : ℕ) (task : ℕ) (held : List ℕ) →
    IsSound rules ceilings controls jobs holdings room spare → position is_running controls ≡ Some task → resources_of holdings' task ≡ held → ((q : ℕ) → q ≢ task → resources_of holdings' q ≡ resources_of holdings q) →
    ((r : ℕ) → sum_by (count_of r) (set (map (resources_of holdings) (range_with_len 0 (length controls))) task held) ≤ 1) →
    All (λ holding. holding.task < length controls) holdings' → All (λ holding. holding.resource < length ceilings) holdings' → IsDistinct nat_eq (map (λ holding. holding.resource) holdings') →
    IsSound rules ceilings controls (with_first_moved jobs (highest_of (priority_of rules task) ceilings holdings task) (highest_of (priority_of rules task) ceilings holdings' task) task) holdings' room spare
hold-sound rules ceilings controls jobs holdings holdings' room spare task held s run own others one holders taken apart =
    let at = running-at controls task run in
    let R = rules_at rules ceilings in
    record {
      few = s.few;
      lawful = s.lawful;
      roomy = s.roomy;
      spacious = s.spacious;
      coherent = subst (IsCoherent R) (sym (hold-view rules ceilings controls jobs holdings holdings' task held s.lawful at.0 own others))
          (hold-coherent R (scheduler_of controls jobs holdings) task held s.lawful s.coherent at.1 one);
      listed = moved-below jobs (highest_of (priority_of rules task) ceilings holdings task) (highest_of (priority_of rules task) ceilings holdings' task) task
          (subst (λ p. p < priorities) (sym (highest-raised rules ceilings holdings' task)) (raised-below R task (resources_of holdings' task) s.lawful)) s.listed;
      holders = holders;
      taken = taken;
      apart = apart;
    }

-- a task whose first job has ended is below its limit
pub ended-below : (rules : Rules) (s : Scheduler) (own : ℕ) → IsCoherent rules s → (task_at s own).state ≡ Running → own < length s.tasks →
    (task_at (end_job rules s own) own).activations < (rule_of rules own).activations
ended-below rules s own c run lt =
    rw (get_or-set_same s.tasks own (terminated (task_at s own)) idle lt)
    (at-state (λ k. IsTaskCoherent rules s.ready own (held_by s own) k → k.activations - 1 < (rule_of rules own).activations) (task_at s own) Running run
    (λ i. let b = i.state.0 in let n = i.within in omega (arith, b, n)) (c.each own))

-- and another one that was below it
pub other-below : (rules : Rules) (s : Scheduler) (own task : ℕ) → task ≢ own → is_at_limit rules s task ≡ false → (task_at (end_job rules s own) task).activations < (rule_of rules task).activations
other-below rules s own task ne e =
    rw (get_or-set_other s.tasks own task (terminated (task_at s own)) idle ne) (elim (leb_tells (rule_of rules task).activations (task_at s task).activations) [
      | inl h ↦ absurd (let k = sym h.0 ∙ e in cc)
      | inr h ↦ h.1
    ])

-- more room harms nothing
pub sound-room : (rules : List TaskRule) (ceilings : List ℕ) (controls : List TaskControl) (jobs : List Job) (holdings : List Holding) (room room' spare spare' : ℕ) →
    room ≡ room' → spare ≤ spare' → IsSound rules ceilings controls jobs holdings room spare → IsSound rules ceilings controls jobs holdings room' spare'
sound-room rules ceilings controls jobs holdings room room' spare spare' e le s =
    record {
      few = s.few;
      lawful = s.lawful;
      roomy = omega (arith, e, s.roomy);
      spacious = omega (arith, le, s.spacious);
      coherent = s.coherent;
      listed = s.listed;
      holders = s.holders;
      taken = s.taken;
      apart = s.apart;
    }

-- what a task holds, as the list of all that are held tells it
pub any-holds : (controls : List TaskControl) (jobs : List Job) (holdings : List Holding) (task : ℕ) → task < length controls →
    list_any (λ holding. nat_eq holding.task task) holdings ≡ holds_resource (scheduler_of controls jobs holdings) task
any-holds controls jobs holdings task lt =
    by (list_any (λ holding. nat_eq holding.task task) holdings) refl ∙ ap (λ l. nat_lt 0 (length l)) (sym (held-at holdings (length controls) task lt))
  where
    by : (b : Bool) → list_any (λ holding. nat_eq holding.task task) holdings ≡ b → list_any (λ holding. nat_eq holding.task task) holdings ≡ nat_lt 0 (length (resources_of holdings task))
    by true e = e ∙ (elim (leb_tells 1 (length (resources_of holdings task))) [
      | inl h ↦ sym h.0
      | inr h ↦ let some = taken-some holdings task e in let l = length-reverse (taken_by holdings task) in absurd (omega (arith, h.1, some, l))
    ])
    by false e = e ∙ ap (λ l. nat_lt 0 (length (reverse l))) (sym (taken-none holdings task e))

pub took-none : (controls : List TaskControl) (jobs : List Job) (holdings : List Holding) (task resource : ℕ) → task < length controls → position (λ holding. nat_eq holding.task task) holdings ≡ None →
    false ≡ ends_with nat_eq (held_by (scheduler_of controls jobs holdings) task) (resource ∷ [])
took-none controls jobs holdings task resource lt e =
    ap (λ l. ends_with nat_eq (reverse l) (resource ∷ [])) (sym (last-none holdings task e)) ∙ ap (λ l. ends_with nat_eq l (resource ∷ [])) (sym (held-at holdings (length controls) task lt))

pub took-some : (controls : List TaskControl) (jobs : List Job) (holdings : List Holding) (task resource place : ℕ) (d : Holding) → task < length controls → position (λ holding. nat_eq holding.task task) holdings ≡ Some place →
    nat_eq (get_or holdings place d).resource resource ≡ ends_with nat_eq (held_by (scheduler_of controls jobs holdings) task) (resource ∷ [])
took-some controls jobs holdings task resource place d lt e =
    sym (ends-some (get_or holdings place d).resource resource (taken_by (without_last_taken holdings task) task))
    ∙ ap (λ l. ends_with nat_eq (reverse l) (resource ∷ [])) (sym (last-some holdings task place d e)) ∙ ap (λ l. ends_with nat_eq l (resource ∷ [])) (sym (held-at holdings (length controls) task lt))

-- nothing was activated
pub first-view : (rules : List TaskRule) (ceilings : List ℕ) (controls : List TaskControl) (jobs : List Job) (holdings : List Holding) →
    controls ≡ replicate (length rules) idle → jobs ≡ [] → holdings ≡ [] →
    scheduler_of controls jobs holdings ≡ first_scheduler (rules_at rules ceilings)
first-view rules ceilings controls jobs holdings e f h =
    let long : length (replicate (length rules) idle) ≡ length rules = length-replicate (length rules) idle in
    rw (e, f, h, long, held-none (length rules) 0) refl

pub first-sound : (rules : List TaskRule) (ceilings : List ℕ) (controls : List TaskControl) (jobs : List Job) (holdings : List Holding) (room spare : ℕ) →
    controls ≡ replicate (length rules) idle → jobs ≡ [] → holdings ≡ [] → length rules ≤ 64 → All IsTaskRule rules → All (λ ceiling. ceiling ≤ 63) ceilings →
    15 * length rules ≤ room → length ceilings ≤ spare → IsSound rules ceilings controls jobs holdings room spare
unfolding IsDistinct
first-sound rules ceilings controls jobs holdings room spare e f h few tasks low roomy spacious =
    record {
      few = few;
      lawful = record { tasks = tasks; ceilings = low };
      roomy = roomy;
      spacious = spacious;
      coherent = subst (IsCoherent (rules_at rules ceilings)) (sym (first-view rules ceilings controls jobs holdings e f h)) (first-coherent (rules_at rules ceilings));
      listed = rw f (λ k d l. absurd (omega arith));
      holders = rw h (λ k d l. absurd (omega arith));
      taken = rw h (λ k d l. absurd (omega arith));
      apart = rw h nothing-apart;
    }
  where
    nothing-apart : IsDistinct nat_eq (map (λ (holding : Holding). holding.resource) [])
    nothing-apart = tt

-- the first job of all runs
pub run_first-view : (controls : List TaskControl) (jobs : List Job) (holdings : List Holding) → All (λ job. job.priority < priorities) jobs →
    scheduler_of (with_top_running controls jobs) jobs holdings ≡ run_first (scheduler_of controls jobs holdings)
run_first-view controls jobs holdings below = by_top (top_job jobs) refl
  where
    by_top : (top : Option Job) → top_job jobs ≡ top → scheduler_of (with_top_running controls jobs) jobs holdings ≡ run_first (scheduler_of controls jobs holdings)
    by_top None e = rw (first_job-queues jobs below, e) refl
    by_top (Some top) e = rw (first_job-queues jobs below, e, length-set) refl

pub top_running-length : (controls : List TaskControl) (jobs : List Job) → length (with_top_running controls jobs) ≡ length controls
top_running-length controls jobs = by_top (top_job jobs) refl
  where
    by_top : (top : Option Job) → top_job jobs ≡ top → length (with_top_running controls jobs) ≡ length controls
    by_top None e = rw e refl
    by_top (Some top) e = rw e (length-set controls top.task _)

-- the dispatch where no task runs, and where the running one is preempted or goes on
pub dispatch-none : (rules : List TaskRule) (ceilings : List ℕ) (controls : List TaskControl) (jobs : List Job) (holdings : List Holding) →
    position is_running controls ≡ None → All (λ job. job.priority < priorities) jobs →
    scheduler_of (with_top_running controls jobs) jobs holdings ≡ dispatch (rules_at rules ceilings) (scheduler_of controls jobs holdings)
dispatch-none rules ceilings controls jobs holdings e below = rw e (run_first-view controls jobs holdings below)

pub dispatch-preempts : (rules : List TaskRule) (ceilings : List ℕ) (controls : List TaskControl) (jobs : List Job) (holdings : List Holding) (task : ℕ) →
    position is_running controls ≡ Some task → (get_or rules task no_task).preemptable ≡ true → All (λ job. job.priority < priorities) jobs →
    scheduler_of (with_top_running (set controls task (record (get_or controls task idle) { state = Ready })) jobs) jobs holdings ≡ dispatch (rules_at rules ceilings) (scheduler_of controls jobs holdings)
dispatch-preempts rules ceilings controls jobs holdings task e p below =
    let ready : TaskControl = record (get_or controls task idle) { state = Ready } in
    rw (e, p) (run_first-view (set controls task ready) jobs holdings below ∙ ap run_first (set-view controls jobs holdings task ready))

pub dispatch-keeps : (rules : List TaskRule) (ceilings : List ℕ) (controls : List TaskControl) (jobs : List Job) (holdings : List Holding) (task : ℕ) →
    position is_running controls ≡ Some task → (get_or rules task no_task).preemptable ≡ false →
    scheduler_of controls jobs holdings ≡ dispatch (rules_at rules ceilings) (scheduler_of controls jobs holdings)
dispatch-keeps rules ceilings controls jobs holdings task e p = rw (e, p) refl

-- a dispatch leaves the lists sound
pub dispatch-sound : (rules : List TaskRule) (ceilings : List ℕ) (controls controls' : List TaskControl) (jobs : List Job) (holdings : List Holding) (room spare : ℕ) →
    IsSound rules ceilings controls jobs holdings room spare → length controls' ≡ length controls →
    scheduler_of controls' jobs holdings ≡ dispatch (rules_at rules ceilings) (scheduler_of controls jobs holdings) → IsSound rules ceilings controls' jobs holdings room spare
dispatch-sound rules ceilings controls controls' jobs holdings room spare s long e =
    sound-after rules ceilings controls controls' jobs jobs holdings room room spare s long (omega arith) s.listed
    (subst (IsCoherent (rules_at rules ceilings)) (sym e) (dispatch-coherent (rules_at rules ceilings) (scheduler_of controls jobs holdings) s.coherent).0)
