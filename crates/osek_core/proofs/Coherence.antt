-- The services and the dispatch keep what holds of the scheduler.
use Rattle.std.proofs.Common.{◌⊎◌, ◌≡◌, ◌≢◌, ℕ, zero, suc, ◌+◌, ◌-◌, ◌<◌, ◌≤◌, max, Bool, true, false, nat_eq, if◌then◌else◌, List, [], ◌∷◌, ◌++◌, map, fold, length, get_or, drop, set, Option, Some, None, inl, inr, refl, sym, ap, ◌∙◌, subst, arith, slice_get, sum_by, length-set, get_or-set_same, get_or-set_other, position, replicate}
use Rattle.std.proofs.lemmas.Bool.{cases_lt}
use Rattle.std.proofs.lemmas.Bool.Decides.{eqb_tells, leb_tells, nat_tests}
use Rattle.std.proofs.lemmas.List.{set-get_or, get_or_past, length_push, length-replicate}
use Rattle.std.proofs.lemmas.List.Sums.{sum_by-set, sum_by_push, sum_by-cons}
use Rattle.std.proofs.lemmas.List.Folds.{sum_by-replicate}
use Rattle.osek_core.specs.declared.control.TaskControl.{TaskControl}
use Rattle.osek_core.specs.declared.control.TaskState.{TaskState}
use Rattle.osek_core.specs.declared.control.TaskState.TheVariants.{Suspended, Ready, Running, Waiting}
use Rattle.osek_core.specs.Kernel.Rules.{Rules, rule_of, ceiling_of, no_task}
use Rattle.osek_core.specs.Kernel.Scheduler.{Scheduler, idle, task_at, held_by, jobs_at, is_running, running, first_job, set_state, set_jobs, current_priority, move_first}
use Rattle.osek_core.specs.Kernel.State.{priorities, first_scheduler}
use Rattle.osek_core.specs.Kernel.Dispatch.{dispatch, run_first, run_job}
use Rattle.osek_core.specs.Kernel.Invariant.{count_of, jobs_due, RunsFirst, IsDispatched}
use Rattle.osek_core.specs.Kernel.TaskServices.{activate, activated, end_job, terminated}
use Rattle.osek_core.specs.Kernel.ResourceServices.{hold}
use Rattle.osek_core.specs.Kernel.EventServices.{set_events, wake}
use Rattle.osek_core.specs.Kernel.Coherent.{IsLawful, IsCoherent, IsTaskCoherent, FitsState, LeadsAt, raised, jobs_listed, jobs_standing}
use Rattle.osek_core.proofs.Running.{running-after, running-at, running-found, none-runs, position-none, set_here, set_there}

-- 1 where both are equal
abbrev one : ℕ → ℕ → ℕ → ℕ → ℕ
one k t q p = if nat_eq q p then (if nat_eq k t then 1 else 0) else 0

one-other : (k t q p : ℕ) → k ≢ t → one k t q p ≡ 0
one-other k t q p ne = grind (arith, nat_tests)

one-same : (t q p : ℕ) → one t t q p ≡ (if nat_eq q p then 1 else 0)
one-same t q p = grind (arith, nat_tests)

-- the list at a priority after one was set
get_set : (ready : List (List ℕ)) (p q : ℕ) (jobs : List ℕ) → p < length ready → get_or (set ready p jobs) q [] ≡ (if nat_eq q p then jobs else get_or ready q [])
get_set ready p q jobs lt =
    elim (eqb_tells q p) [
      | inl h ↦ rw h.0 (subst (λ r. get_or (set ready p jobs) r [] ≡ jobs) (sym h.1) (get_or-set_same ready p jobs [] lt))
      | inr h ↦ rw h.0 (get_or-set_other ready p q jobs [] h.1)
    ]

-- a list at a priority is replaced by one with more or fewer jobs
counts-set : (ready : List (List ℕ)) (p q k : ℕ) (jobs : List ℕ) (more less : ℕ) → p < length ready →
    count_of k jobs + less ≡ count_of k (get_or ready p []) + more →
    count_of k (get_or (set ready p jobs) q []) + (if nat_eq q p then less else 0) ≡ count_of k (get_or ready q []) + (if nat_eq q p then more else 0)
counts-set ready p q k jobs more less lt e =
    elim (eqb_tells q p) [
      | inl h ↦ let at = get_set ready p q jobs lt in rw (h.0, h.1) (rw (get_or-set_same ready p jobs [] lt) e)
      | inr h ↦ rw (h.0, get_or-set_other ready p q jobs [] h.1) refl
    ]

-- a job more, at either end of a list
pub push-count : (ready : List (List ℕ)) (p t k q : ℕ) → p < length ready →
    count_of k (get_or (set ready p (get_or ready p [] ++ t ∷ [])) q []) ≡ count_of k (get_or ready q []) + one k t q p
push-count ready p t k q lt =
    let e = counts-set ready p q k (get_or ready p [] ++ t ∷ []) (if nat_eq k t then 1 else 0) 0 lt (let h = sum_by_push (λ y. if nat_eq k y then 1 else 0) (get_or ready p []) t in omega (arith, h)) in
    grind (arith, nat_tests, e)

pub first-count : (ready : List (List ℕ)) (p t k q : ℕ) → p < length ready →
    count_of k (get_or (set ready p (t ∷ get_or ready p [])) q []) ≡ count_of k (get_or ready q []) + one k t q p
first-count ready p t k q lt =
    let e = counts-set ready p q k (t ∷ get_or ready p []) (if nat_eq k t then 1 else 0) 0 lt (let h = sum_by-cons (λ y. if nat_eq k y then 1 else 0) t (get_or ready p []) in omega (arith, h)) in
    grind (arith, nat_tests, e)

lead-cons : (xs : List ℕ) (t : ℕ) → slice_get xs 0 ≡ Some t → xs ≡ t ∷ drop 1 xs
lead-cons [] t e = absurd cc
lead-cons (x ∷ xs) t e = let same : x ≡ t = cc in ap (λ y. y ∷ xs) same

lead-count : (xs : List ℕ) (t k : ℕ) → slice_get xs 0 ≡ Some t → count_of k xs ≡ (if nat_eq k t then 1 else 0) + count_of k (drop 1 xs)
lead-count xs t k e = ap (count_of k) (lead-cons xs t e) ∙ sum_by-cons (λ y. if nat_eq k y then 1 else 0) t (drop 1 xs)

-- the first job of a list less
pub remove-count : (ready : List (List ℕ)) (p t k q : ℕ) → p < length ready → LeadsAt ready p t →
    count_of k (get_or (set ready p (drop 1 (get_or ready p []))) q []) + one k t q p ≡ count_of k (get_or ready q [])
remove-count ready p t k q lt lead =
    let h = lead-count (get_or ready p []) t k lead in
    let e = counts-set ready p q k (drop 1 (get_or ready p [])) 0 (if nat_eq k t then 1 else 0) lt (omega (arith, h)) in
    grind (arith, nat_tests, e)

-- the same of the job's task
pub push-own : (ready : List (List ℕ)) (p t q : ℕ) → p < length ready →
    count_of t (get_or (set ready p (get_or ready p [] ++ t ∷ [])) q []) ≡ count_of t (get_or ready q []) + (if nat_eq q p then 1 else 0)
push-own ready p t q lt = push-count ready p t t q lt ∙ ap (λ n. count_of t (get_or ready q []) + n) (one-same t q p)

pub first-own : (ready : List (List ℕ)) (p t q : ℕ) → p < length ready →
    count_of t (get_or (set ready p (t ∷ get_or ready p [])) q []) ≡ count_of t (get_or ready q []) + (if nat_eq q p then 1 else 0)
first-own ready p t q lt = first-count ready p t t q lt ∙ ap (λ n. count_of t (get_or ready q []) + n) (one-same t q p)

pub remove-own : (ready : List (List ℕ)) (p t q : ℕ) → p < length ready → LeadsAt ready p t →
    count_of t (get_or (set ready p (drop 1 (get_or ready p []))) q []) + (if nat_eq q p then 1 else 0) ≡ count_of t (get_or ready q [])
remove-own ready p t q lt lead =
    ap (λ n. count_of t (get_or (set ready p (drop 1 (get_or ready p []))) q []) + n) (sym (one-same t q p)) ∙ remove-count ready p t t q lt lead

-- how many jobs all lists have
pub push-total : (ready : List (List ℕ)) (p t : ℕ) → p < length ready → sum_by length (set ready p (get_or ready p [] ++ t ∷ [])) ≡ sum_by length ready + 1
push-total ready p t lt =
    let h = sum_by-set length ready p (get_or ready p [] ++ t ∷ []) [] lt in
    let l = length_push (get_or ready p []) t in
    omega (arith, h, l)

pub first-total : (ready : List (List ℕ)) (p t : ℕ) → p < length ready → sum_by length (set ready p (t ∷ get_or ready p [])) ≡ sum_by length ready + 1
first-total ready p t lt = let h = sum_by-set length ready p (t ∷ get_or ready p []) [] lt in omega (arith, h)

pub remove-total : (ready : List (List ℕ)) (p t : ℕ) → p < length ready → LeadsAt ready p t → sum_by length (set ready p (drop 1 (get_or ready p []))) + 1 ≡ sum_by length ready
remove-total ready p t lt lead =
    let h = sum_by-set length ready p (drop 1 (get_or ready p [])) [] lt in
    let l = ap length (lead-cons (get_or ready p []) t lead) in
    omega (arith, h, l)

-- a push leaves each list's first job
pub push-leads : (ready : List (List ℕ)) (p t q k : ℕ) → p < length ready → LeadsAt ready q k → LeadsAt (set ready p (get_or ready p [] ++ t ∷ [])) q k
push-leads ready p t q k lt lead =
    elim (eqb_tells q p) [
      | inl h ↦ subst (λ r. LeadsAt (set ready p (get_or ready p [] ++ t ∷ [])) r k) (sym h.1)
          (rw (get_or-set_same ready p (get_or ready p [] ++ t ∷ []) [] lt) (behind (get_or ready p []) (subst (λ r. LeadsAt ready r k) h.1 lead)))
      | inr h ↦ rw (get_or-set_other ready p q (get_or ready p [] ++ t ∷ []) [] h.1) lead
    ]
  where
    behind : (xs : List ℕ) → slice_get xs 0 ≡ Some k → slice_get (xs ++ t ∷ []) 0 ≡ Some k
    behind [] e = absurd cc
    behind (x ∷ xs) e = e

-- a task whose jobs and whose place as a first one are left alone
other-coherent : (rules : Rules) (ready ready' : List (List ℕ)) (k : ℕ) (held : List ℕ) (control : TaskControl) → IsTaskCoherent rules ready k held control →
    ((p : ℕ) → count_of k (get_or ready' p []) ≡ count_of k (get_or ready p [])) →
    (control.state ≡ Running → (p : ℕ) → LeadsAt ready p k → LeadsAt ready' p k) →
    IsTaskCoherent rules ready' k held control
other-coherent rules ready ready' k held control h same leads =
    record { placed = λ p. same p ∙ h.placed p; state = by control.state refl h.state; within = h.within }
  where
    by : (state : TaskState) → control.state ≡ state → FitsState rules ready k held control state → FitsState rules ready' k held control state
    by Suspended e f = f
    by Ready e f = f
    by Running e f = (f.0, leads e _ f.1)
    by (Waiting events) e f = f

-- one task changes, and its jobs and resources with it
pub changed : (rules : Rules) (s : Scheduler) (ready : List (List ℕ)) (task : ℕ) (control : TaskControl) (held : List ℕ) →
    IsCoherent rules s → task < length rules.tasks → length ready ≡ length s.ready →
    IsTaskCoherent rules ready task held control →
    ((k : ℕ) → k ≢ task → (p : ℕ) → count_of k (get_or ready p []) ≡ count_of k (get_or s.ready p [])) →
    ((k : ℕ) → k ≢ task → (task_at s k).state ≡ Running → (control.state ≡ Running → ⊥) × ((p : ℕ) → LeadsAt s.ready p k → LeadsAt ready p k)) →
    sum_by length ready + jobs_standing (task_at s task) ≤ sum_by length s.ready + jobs_standing control →
    ((resource : ℕ) → sum_by (count_of resource) (set s.held task held) ≤ 1) →
    IsCoherent rules (record { ready = ready; tasks = set s.tasks task control; held = set s.held task held })
changed rules s ready task control held c lt long own others alone fit holder =
    let there : task < length s.tasks = omega (arith, c.tasks) in
    record {
      lists = long ∙ c.lists;
      tasks = length-set s.tasks task control ∙ c.tasks;
      holders = length-set s.held task held ∙ c.holders;
      one_runs = λ a b ra rb. elim (running-after s.tasks task a control there ra) [
        | inl h ↦ elim (running-after s.tasks task b control there rb) [ inl k ↦ h.0 ∙ sym k.0 | inr k ↦ absurd ((alone b k.0 k.1).0 h.1) ]
        | inr h ↦ elim (running-after s.tasks task b control there rb) [ inl k ↦ absurd ((alone a h.0 h.1).0 k.1) | inr k ↦ c.one_runs a b h.1 k.1 ]
      ];
      each = λ k. elim (eqb_tells k task) [
        | inl e ↦ subst (λ n. IsTaskCoherent rules ready n (get_or (set s.held task held) n []) (get_or (set s.tasks task control) n idle)) (sym e.1)
            (rw (get_or-set_same s.held task held [] (omega (arith, c.holders)), set_here s.tasks task control there) own)
        | inr ne ↦ rw (get_or-set_other s.held task k held [] ne.1, set_there s.tasks task k control ne.1)
            (other-coherent rules s.ready ready k (held_by s k) (task_at s k) (c.each k) (others k ne.1) (λ r p. (alone k ne.1 r).1 p))
      ];
      counted = let h = sum_by-set jobs_standing s.tasks task control idle there in omega (arith, h, fit, c.counted);
      one_holder = holder;
    }

-- the same where its resources stay
pub changed-jobs : (rules : Rules) (s : Scheduler) (ready : List (List ℕ)) (task : ℕ) (control : TaskControl) →
    IsCoherent rules s → task < length rules.tasks → length ready ≡ length s.ready →
    IsTaskCoherent rules ready task (held_by s task) control →
    ((k : ℕ) → k ≢ task → (p : ℕ) → count_of k (get_or ready p []) ≡ count_of k (get_or s.ready p [])) →
    ((k : ℕ) → k ≢ task → (task_at s k).state ≡ Running → (control.state ≡ Running → ⊥) × ((p : ℕ) → LeadsAt s.ready p k → LeadsAt ready p k)) →
    sum_by length ready + jobs_standing (task_at s task) ≤ sum_by length s.ready + jobs_standing control →
    IsCoherent rules (record { ready = ready; tasks = set s.tasks task control; held = s.held })
changed-jobs rules s ready task control c lt long own others alone fit =
    let same = set-get_or s.held task [] in
    subst (λ h. IsCoherent rules (record { ready = ready; tasks = set s.tasks task control; held = h })) same
    (changed rules s ready task control (held_by s task) c lt long own others alone fit (λ r. rw same (c.one_holder r)))

-- a task in another state than suspended is there
pub task-there : (rules : Rules) (s : Scheduler) (task : ℕ) → IsCoherent rules s → ((task_at s task).state ≡ Suspended → ⊥) → task < length rules.tasks
task-there rules s task c begun =
    elim (cases_lt task (length rules.tasks)) [
      | inl lt ↦ lt
      | inr ge ↦ absurd (begun (ap (λ b. b.state) (get_or_past s.tasks task idle (omega (arith, ge, c.tasks)))))
    ]

-- the current priority of a task is at least its own, and within bounds
max-least : (a : ℕ) (xs : List ℕ) → a ≤ fold max a xs
max-least a [] = omega arith
max-least a (x ∷ xs) = let h = max-least (max a x) xs in omega (arith, h)

pub own-least : (rules : Rules) (task : ℕ) (held : List ℕ) → (rule_of rules task).priority ≤ raised rules task held
own-least rules task held = max-least (rule_of rules task).priority (map (ceiling_of rules) held)

ceiling-most : (rules : Rules) (resource : ℕ) → IsLawful rules → ceiling_of rules resource ≤ 63
ceiling-most rules resource l =
    elim (cases_lt resource (length rules.ceilings)) [
      | inl lt ↦ l.ceilings resource 0 lt
      | inr ge ↦ rw (get_or_past rules.ceilings resource 0 ge) (omega arith)
    ]

pub own-below : (rules : Rules) (task : ℕ) → IsLawful rules → (rule_of rules task).priority < priorities
own-below rules task l =
    elim (cases_lt task (length rules.tasks)) [
      | inl lt ↦ let h = (l.tasks task no_task lt).priority in omega (arith, h)
      | inr ge ↦ rw (get_or_past rules.tasks task no_task ge) (omega arith)
    ]

max-most : (rules : Rules) (a : ℕ) (held : List ℕ) → IsLawful rules → a ≤ 63 → fold max a (map (ceiling_of rules) held) ≤ 63
max-most rules a [] l le = le
max-most rules a (r ∷ held) l le = let h = ceiling-most rules r l in max-most rules (max a (ceiling_of rules r)) held l (omega (arith, h, le))

pub raised-below : (rules : Rules) (task : ℕ) (held : List ℕ) → IsLawful rules → raised rules task held < priorities
raised-below rules task held l =
    let h = own-below rules task l in
    let m = max-most rules (rule_of rules task).priority held l (omega (arith, h)) in
    omega (arith, m)

-- who else runs where this task does
nobody-else : (rules : Rules) (s : Scheduler) (task k : ℕ) → IsCoherent rules s → (task_at s task).state ≡ Running → k ≢ task → (task_at s k).state ≡ Running → ⊥
nobody-else rules s task k c run ne other = ne (c.one_runs k task other run)

-- a task's control block by its state
state-of : (rules : Rules) (s : Scheduler) (task : ℕ) (state : TaskState) → IsCoherent rules s → (task_at s task).state ≡ state → FitsState rules s.ready task (held_by s task) (task_at s task) state
state-of rules s task state c e = subst (FitsState rules s.ready task (held_by s task) (task_at s task)) e (c.each task).state

-- what stands where a task is in this state
placed-of : (rules : Rules) (s : Scheduler) (task : ℕ) (control : TaskControl) (priority : ℕ) → IsCoherent rules s → task_at s task ≡ control →
    count_of task (get_or s.ready priority []) ≡ jobs_listed rules task (held_by s task) control priority
placed-of rules s task control priority c e = (c.each task).placed priority ∙ ap (λ k. jobs_listed rules task (held_by s task) k priority) e

-- what holds of a control block in this state holds of the block
pub at-state : (P : TaskControl → Type 0) (control : TaskControl) (state : TaskState) → control.state ≡ state → P (record control { state = state }) → P control
at-state P control state e h = subst (λ (t : TaskState). P (record control { state = t })) (sym e) h

-- a running task that was not made so ran before
activated-ran : (control : TaskControl) → (activated control).state ≡ Running → control.state ≡ Running
activated-ran control run = by control.state refl
  where
    P : TaskControl → Type 0
    P k = (activated k).state ≡ Running → k.state ≡ Running

    by : (state : TaskState) → control.state ≡ state → control.state ≡ Running
    by Suspended e = at-state P control Suspended e (λ h. cc) run
    by Ready e = at-state P control Ready e (λ h. cc) run
    by Running e = e
    by (Waiting events) e = at-state P control (Waiting events) e (λ h. cc) run

-- ActivateTask below the limit
pub activate-coherent : (rules : Rules) (s : Scheduler) (task : ℕ) → IsLawful rules → IsCoherent rules s → task < length rules.tasks →
    (task_at s task).activations < (rule_of rules task).activations → IsCoherent rules (activate rules s task)
activate-coherent rules s task l c lt few =
    let p = (rule_of rules task).priority in
    let low : p < length s.ready = let h = own-below rules task l in omega (arith, h, c.lists) in
    let ready = set s.ready p (get_or s.ready p [] ++ task ∷ []) in
    let own = by (task_at s task).state refl low in
    changed-jobs rules s ready task (activated (task_at s task)) c lt (length-set s.ready p (get_or s.ready p [] ++ task ∷ []))
    own.0
    (λ k ne q. let h = push-count s.ready p task k q low in let z = one-other k task q p ne in omega (arith, h, z))
    (λ k ne run. (λ r. ne (c.one_runs k task run (activated-ran (task_at s task) r)), λ q lead. push-leads s.ready p task q k low lead))
    (let h = push-total s.ready p task low in omega (arith, h, own.1))
  where
    waits-not : (events : ℕ) → (task_at s task).state ≡ Waiting events → ⊥
    waits-not events e =
        let f = state-of rules s task (Waiting events) c e in
        let one_only = (l.tasks task no_task lt).extended f.2 in
        omega (arith, f.0, one_only, few)

    after : List (List ℕ)
    after = set s.ready (rule_of rules task).priority (get_or s.ready (rule_of rules task).priority [] ++ task ∷ [])

    placed : (control : TaskControl) → (rule_of rules task).priority < length s.ready → ((q : ℕ) → jobs_listed rules task (held_by s task) control q ≡ count_of task (get_or s.ready q []) + (if nat_eq q (rule_of rules task).priority then 1 else 0)) →
        (q : ℕ) → count_of task (get_or after q []) ≡ jobs_listed rules task (held_by s task) control q
    placed control low due q =
        push-count s.ready (rule_of rules task).priority task task q low
        ∙ ap (λ n. count_of task (get_or s.ready q []) + n) (one-same task q (rule_of rules task).priority)
        ∙ sym (due q)

    -- the task as it was is to become one with a job more
    Goal : TaskControl → Type 0
    Goal control = IsTaskCoherent rules s.ready task (held_by s task) control → control.activations < (rule_of rules task).activations →
        IsTaskCoherent rules after task (held_by s task) (activated control) × (jobs_standing (activated control) ≡ jobs_standing control + 1)

    by : (t : TaskState) → (task_at s task).state ≡ t → (rule_of rules task).priority < length s.ready →
        IsTaskCoherent rules after task (held_by s task) (activated (task_at s task)) × (jobs_standing (activated (task_at s task)) ≡ jobs_standing (task_at s task) + 1)
    by Suspended e low = at-state Goal (task_at s task) Suspended e (λ h k. (
      record {
        placed = placed (record { state = Ready; activations = (task_at s task).activations + 1; events = 0 }) low
            (λ q. let b = h.placed q in rw h.state.1 (grind (arith, nat_tests, b, h.state.0)));
        state = omega (arith, h.state.0);
        within = omega (arith, k);
      },
      omega (arith, h.state.0),
    )) (c.each task) few
    by Ready e low = at-state Goal (task_at s task) Ready e (λ h k. (
      record {
        placed = placed (record { state = Ready; activations = (task_at s task).activations + 1; events = (task_at s task).events }) low
            (λ q. let b = h.placed q in grind (arith, nat_tests, b, h.state));
        state = omega (arith, h.state);
        within = omega (arith, k);
      },
      omega (arith, h.state),
    )) (c.each task) few
    by Running e low = at-state Goal (task_at s task) Running e (λ h k. (
      record {
        placed = placed (record { state = Running; activations = (task_at s task).activations + 1; events = (task_at s task).events }) low
            (λ q. let b = h.placed q in grind (arith, nat_tests, b, h.state.0));
        state = (omega (arith, h.state.0), push-leads s.ready (rule_of rules task).priority task (raised rules task (held_by s task)) task low h.state.1);
        within = omega (arith, k);
      },
      omega (arith, h.state.0),
    )) (c.each task) few
    by (Waiting events) e low = absurd (waits-not events e)

-- how many jobs are left where the first one ends
ended-many : (n a q p own : ℕ) → p ≡ own → 2 ≤ a →
    n + (if nat_eq q p then 1 else 0) ≡ (if nat_eq q p then 1 else 0) + (if nat_eq q own then a - 1 else 0) →
    n ≡ (if nat_eq q p then 1 else 0) + (if nat_eq q own then a - 1 - 1 else 0)
ended-many n a q p own e le h = subst (λ p'. n + (if nat_eq q p' then 1 else 0) ≡ (if nat_eq q p' then 1 else 0) + (if nat_eq q own then a - 1 else 0) → n ≡ (if nat_eq q p' then 1 else 0) + (if nat_eq q own then a - 1 - 1 else 0)) (sym e) by h
  where
    by : n + (if nat_eq q own then 1 else 0) ≡ (if nat_eq q own then 1 else 0) + (if nat_eq q own then a - 1 else 0) → n ≡ (if nat_eq q own then 1 else 0) + (if nat_eq q own then a - 1 - 1 else 0)
    by k = elim (eqb_tells q own) [ inl t ↦ let m = rw t.0 at k in rw t.0 (omega (arith, m)) | inr t ↦ let m = rw t.0 at k in rw t.0 (omega (arith, m)) ]

ended-last : (n a q p own : ℕ) → p ≡ own → a < 2 →
    n + (if nat_eq q p then 1 else 0) ≡ (if nat_eq q p then 1 else 0) + (if nat_eq q own then a - 1 else 0) → n ≡ 0
ended-last n a q p own e le h =
    elim (eqb_tells q own) [ inl t ↦ let m = rw t.0 at h in omega (arith, m) | inr t ↦ let m = rw t.0 at h in omega (arith, m) ]

-- the running task's first job ends
pub end_job-coherent : (rules : Rules) (s : Scheduler) (task : ℕ) → IsLawful rules → IsCoherent rules s → (task_at s task).state ≡ Running → held_by s task ≡ [] →
    IsCoherent rules (end_job rules s task)
end_job-coherent rules s task l c run none =
    let f = state-of rules s task Running c run in
    let lt = task-there rules s task c (λ e. let h = sym e ∙ run in cc) in
    let p = current_priority rules s task in
    let low : p < length s.ready = let h = raised-below rules task (held_by s task) l in omega (arith, h, c.lists) in
    let same : p ≡ (rule_of rules task).priority = ap (raised rules task) none in
    let own = at-state Goal (task_at s task) Running run (λ h. elim (leb_tells 2 (task_at s task).activations) [
      | inl t ↦ rw t.0 (
        record {
          placed = λ q. ended-many _ (task_at s task).activations q p (rule_of rules task).priority same t.1
              (remove-own s.ready p task q low f.1 ∙ h.placed q);
          state = omega (arith, t.1);
          within = let w = h.within in omega (arith, w);
        },
        omega (arith, t.1),
      )
      | inr t ↦ rw t.0 (
        record {
          placed = λ q. ended-last _ (task_at s task).activations q p (rule_of rules task).priority same t.1
              (remove-own s.ready p task q low f.1 ∙ h.placed q);
          state = (omega (arith, t.1), none);
          within = let w = h.within in omega (arith, w);
        },
        let least = h.state.0 in omega (arith, t.1, least),
      )
    ]) (c.each task) in
    changed-jobs rules s (set s.ready p (drop 1 (get_or s.ready p []))) task (terminated (task_at s task)) c lt (length-set s.ready p (drop 1 (get_or s.ready p [])))
    own.0
    (λ k ne q. let h = remove-count s.ready p task k q low f.1 in let z = one-other k task q p ne in omega (arith, h, z))
    (λ k ne other. absurd (nobody-else rules s task k c run ne other))
    (let h = remove-total s.ready p task low f.1 in omega (arith, h, own.1))
  where
    Goal : TaskControl → Type 0
    Goal control = IsTaskCoherent rules s.ready task (held_by s task) control →
        IsTaskCoherent rules (set s.ready (current_priority rules s task) (drop 1 (get_or s.ready (current_priority rules s task) []))) task (held_by s task) (terminated control)
        × (jobs_standing control ≡ jobs_standing (terminated control) + 1)

-- the running task is made ready, as the first of its list
pub rest-coherent : (rules : Rules) (s : Scheduler) (task : ℕ) → IsCoherent rules s → (task_at s task).state ≡ Running → IsCoherent rules (set_state s task Ready)
rest-coherent rules s task c run =
    let f = state-of rules s task Running c run in
    let lt = task-there rules s task c (λ e. let h = sym e ∙ run in cc) in
    let own = at-state Goal (task_at s task) Running run (λ h. (record { placed = h.placed; state = h.state.0; within = h.within }, refl)) (c.each task) in
    changed-jobs rules s s.ready task (record (task_at s task) { state = Ready }) c lt refl own.0
    (λ k ne q. refl)
    (λ k ne other. absurd (nobody-else rules s task k c run ne other))
    (let e = own.1 in omega (arith, e))
  where
    Goal : TaskControl → Type 0
    Goal control = IsTaskCoherent rules s.ready task (held_by s task) control →
        IsTaskCoherent rules s.ready task (held_by s task) (record control { state = Ready }) × (jobs_standing control ≡ jobs_standing (record control { state = Ready }))

-- the first job of the highest list leads one, and the lists above have no job
first_job-top : (ready : List (List ℕ)) (t : ℕ) → first_job ready ≡ Some t → (p : ℕ) × (LeadsAt ready p t × ((q : ℕ) → p < q → get_or ready q [] ≡ []))
first_job-top [] t e = absurd cc
first_job-top (jobs ∷ higher) t e = by (first_job higher) refl (first_job-top higher) (first_job-empty higher)
  where
    first_job-empty : (lists : List (List ℕ)) → first_job lists ≡ None → (q : ℕ) → get_or lists q [] ≡ []
    first_job-empty [] h q = refl
    first_job-empty (list ∷ lists) h q = more (first_job lists) refl q (first_job-empty lists)
      where
        none : (xs : List ℕ) → slice_get xs 0 ≡ None → xs ≡ []
        none [] k = refl
        none (x ∷ xs) k = absurd cc

        more : (o : Option ℕ) → first_job lists ≡ o → (i : ℕ) → (first_job lists ≡ None → (j : ℕ) → get_or lists j [] ≡ []) → get_or (list ∷ lists) i [] ≡ []
        more (Some u) k i rest = let w = rw k at h in absurd cc
        more None k zero rest = none list (rw k at h)
        more None k (suc i) rest = rest k i

    by : (o : Option ℕ) → first_job higher ≡ o → ((u : ℕ) → first_job higher ≡ Some u → (p : ℕ) × (LeadsAt higher p u × ((q : ℕ) → p < q → get_or higher q [] ≡ []))) → (first_job higher ≡ None → (q : ℕ) → get_or higher q [] ≡ []) →
        (p : ℕ) × (LeadsAt (jobs ∷ higher) p t × ((q : ℕ) → p < q → get_or (jobs ∷ higher) q [] ≡ []))
    by (Some u) k rest empty =
        let h = rest t (k ∙ rw k at e) in
        (suc h.0, (h.1.0, above h.0 h.1.1))
      where
        above : (p : ℕ) → ((q : ℕ) → p < q → get_or higher q [] ≡ []) → (q : ℕ) → suc p < q → get_or (jobs ∷ higher) q [] ≡ []
        above p h zero lt = absurd (omega arith)
        above p h (suc q) lt = h q (omega arith)
    by None k rest empty = (0, (rw k at e, λ q lt. later q lt))
      where
        later : (q : ℕ) → 0 < q → get_or (jobs ∷ higher) q [] ≡ []
        later zero lt = absurd (omega arith)
        later (suc q) lt = empty k q

-- a task that leads the highest list is ready, and its list is the one of its current priority
leads-own : (rules : Rules) (s : Scheduler) (task p : ℕ) → IsCoherent rules s → ((task_at s task).state ≡ Running → ⊥) →
    LeadsAt s.ready p task → ((q : ℕ) → p < q → get_or s.ready q [] ≡ []) →
    ((task_at s task).state ≡ Ready) × LeadsAt s.ready (raised rules task (held_by s task)) task
leads-own rules s task p c rests lead above = by (task_at s task).state refl
  where
    some : 1 ≤ count_of task (get_or s.ready p [])
    some = let h = lead-count (get_or s.ready p []) task task lead in elim (eqb_tells task task) [ inl t ↦ let k = rw t.0 at h in omega (arith, k) | inr t ↦ absurd (t.1 refl) ]

    here : (r own a n m : ℕ) → own ≤ r → n ≡ (if nat_eq p r then 1 else 0) + (if nat_eq p own then a - 1 else 0) → 1 ≤ n →
        m ≡ (if nat_eq r r then 1 else 0) + (if nat_eq r own then a - 1 else 0) → (p < r → m ≡ 0) → p ≡ r
    here r own a n m le e one_more f none = elim (eqb_tells p r) [
      | inl t ↦ t.1
      | inr t ↦ elim (eqb_tells p own) [
        | inl u ↦ let z = none (omega (arith, t.1, u.1)) in elim (eqb_tells r r) [ inl w ↦ let k = rw w.0 at f in absurd (omega (arith, k, z)) | inr w ↦ absurd (w.1 refl) ]
        | inr u ↦ let k = rw (t.0, u.0) at e in absurd (omega (arith, k))
      ]
    ]

    Goal : TaskControl → Type 0
    Goal control = IsTaskCoherent rules s.ready task (held_by s task) control → p ≡ raised rules task (held_by s task)

    by : (t : TaskState) → (task_at s task).state ≡ t → ((task_at s task).state ≡ Ready) × LeadsAt s.ready (raised rules task (held_by s task)) task
    by Suspended e = absurd (at-state (λ k. IsTaskCoherent rules s.ready task (held_by s task) k → ⊥) (task_at s task) Suspended e (λ h. let k = h.placed p in omega (arith, some, k)) (c.each task))
    by (Waiting events) e = absurd (at-state (λ k. IsTaskCoherent rules s.ready task (held_by s task) k → ⊥) (task_at s task) (Waiting events) e (λ h. let k = h.placed p in omega (arith, some, k)) (c.each task))
    by Running e = absurd (rests e)
    by Ready e =
        let r = raised rules task (held_by s task) in
        let same = at-state Goal (task_at s task) Ready e (λ h. here r (rule_of rules task).priority (task_at s task).activations
        (count_of task (get_or s.ready p [])) (count_of task (get_or s.ready r [])) (own-least rules task (held_by s task)) (h.placed p) some (h.placed r) (λ lt. ap (count_of task) (above r lt))) (c.each task) in
        (e, subst (λ q. LeadsAt s.ready q task) same lead)

-- where nobody runs, the first job of all runs
pub run-coherent : (rules : Rules) (s : Scheduler) (task : ℕ) → IsCoherent rules s → ((k : ℕ) → (task_at s k).state ≡ Running → ⊥) → first_job s.ready ≡ Some task →
    IsCoherent rules (set_state s task Running)
run-coherent rules s task c rests e =
    let top = first_job-top s.ready task e in
    let at = leads-own rules s task top.0 c (rests task) top.1.0 top.1.1 in
    let lt = task-there rules s task c (λ k. let h = sym k ∙ at.0 in cc) in
    let own = at-state Goal (task_at s task) Ready at.0 (λ h. (record { placed = h.placed; state = (h.state, at.1); within = h.within }, refl)) (c.each task) in
    changed-jobs rules s s.ready task (record (task_at s task) { state = Running }) c lt refl own.0
    (λ k ne q. refl)
    (λ k ne other. absurd (rests k other))
    (let m = own.1 in omega (arith, m))
  where
    Goal : TaskControl → Type 0
    Goal control = IsTaskCoherent rules s.ready task (held_by s task) control →
        IsTaskCoherent rules s.ready task (held_by s task) (record control { state = Running }) × (jobs_standing control ≡ jobs_standing (record control { state = Running }))

run_first-coherent : (rules : Rules) (s : Scheduler) → IsCoherent rules s → ((k : ℕ) → (task_at s k).state ≡ Running → ⊥) →
    IsCoherent rules (run_first s) × RunsFirst rules (run_first s) (running (run_first s))
run_first-coherent rules s c rests = by (first_job s.ready) refl
  where
    by : (o : Option ℕ) → first_job s.ready ≡ o → IsCoherent rules (run_job s o) × RunsFirst rules (run_job s o) (running (run_job s o))
    by None e = (c, rw (position-none s.tasks rests) e)
    by (Some task) e =
        let k = run-coherent rules s task c rests e in
        let top = first_job-top s.ready task e in
        let at = leads-own rules s task top.0 c (rests task) top.1.0 top.1.1 in
        let lt = task-there rules s task c (λ q. let h = sym q ∙ at.0 in cc) in
        let found = running-found s.tasks task (record (task_at s task) { state = Running }) refl (omega (arith, lt, c.tasks)) rests in
        (k, rw found (inl e))

either : (b : Bool) → (b ≡ true) ⊎ (b ≡ false)
either true = inl refl
either false = inr refl

-- the dispatch
pub dispatch-coherent : (rules : Rules) (s : Scheduler) → IsCoherent rules s → IsCoherent rules (dispatch rules s) × RunsFirst rules (dispatch rules s) (running (dispatch rules s))
dispatch-coherent rules s c = by (position is_running s.tasks) refl
  where
    Goal : Scheduler → Type 0
    Goal d = IsCoherent rules d × RunsFirst rules d (running d)

    by : (o : Option ℕ) → position is_running s.tasks ≡ o → Goal (dispatch rules s)
    by None e = rw e (run_first-coherent rules s c (none-runs s.tasks e))
    by (Some task) e =
        let run = (running-at s.tasks task e).1 in
        let k = rest-coherent rules s task c run in
        let rests : (k : ℕ) → (task_at (set_state s task Ready) k).state ≡ Running → ⊥ =
        λ k r. elim (running-after s.tasks task k (record (task_at s task) { state = Ready }) (running-at s.tasks task e).0 r) [
          | inl h ↦ let w = h.1 in cc
          | inr h ↦ h.0 (c.one_runs k task h.1 run)
        ] in
        elim (either (rule_of rules task).preemptable) [
          | inl t ↦ rw (e, t) (run_first-coherent rules (set_state s task Ready) k rests)
          | inr t ↦ rw (e, t) (c, rw e (inr t))
        ]

jobs_due-listed : (rules : Rules) (s : Scheduler) (task priority : ℕ) → jobs_listed rules task (held_by s task) (task_at s task) priority ≡ jobs_due rules s task priority (task_at s task).state
jobs_due-listed rules s task priority = by (task_at s task).state refl
  where
    by : (t : TaskState) → (task_at s task).state ≡ t → jobs_listed rules task (held_by s task) (task_at s task) priority ≡ jobs_due rules s task priority (task_at s task).state
    by Suspended e = rw e refl
    by Ready e = rw e refl
    by Running e = rw e refl
    by (Waiting events) e = rw e refl

-- what holds after every dispatch
pub dispatched : (rules : Rules) (s : Scheduler) → IsCoherent rules s → IsDispatched rules (dispatch rules s)
dispatched rules s c =
    let h = dispatch-coherent rules s c in
    let d = h.0 in
    record {
      lists = d.lists;
      tasks = d.tasks;
      holders = d.holders;
      first = h.1;
      one_runs = d.one_runs;
      placed = λ task priority lt low. (d.each task).placed priority ∙ jobs_due-listed rules (dispatch rules s) task priority;
      suspended = λ task e. (state-of rules (dispatch rules s) task Suspended d e).0;
      within = λ task lt. (d.each task).within;
      one_holder = d.one_holder;
    }

-- the running task's resources change, and with them its place
pub hold-is : (rules : Rules) (s : Scheduler) (task : ℕ) (held : List ℕ) → task < length s.held →
    hold rules s task held ≡ move_first (record s { held = set s.held task held }) (raised rules task (held_by s task)) (raised rules task held) task
hold-is rules s task held lt =
    ap (λ h. move_first (record s { held = set s.held task held }) (raised rules task (held_by s task)) (raised rules task h) task) (get_or-set_same s.held task held [] lt)

held-number : (n m o q r r' own a : ℕ) → m + (if nat_eq q r then 1 else 0) ≡ n → o ≡ m + (if nat_eq q r' then 1 else 0) →
    n ≡ (if nat_eq q r then 1 else 0) + (if nat_eq q own then a else 0) → o ≡ (if nat_eq q r' then 1 else 0) + (if nat_eq q own then a else 0)
held-number n m o q r r' own a e f g = omega (arith, e, f, g)

pub hold-coherent : (rules : Rules) (s : Scheduler) (task : ℕ) (held : List ℕ) → IsLawful rules → IsCoherent rules s → (task_at s task).state ≡ Running →
    ((resource : ℕ) → sum_by (count_of resource) (set s.held task held) ≤ 1) → IsCoherent rules (hold rules s task held)
hold-coherent rules s task held l c run holder =
    subst (IsCoherent rules) (sym (hold-is rules s task held (omega (arith, lt, c.holders)))) (elim (eqb_tells before after) [
      | inl t ↦ rw t.0 (moved s.ready refl (λ k ne q. refl) refl
          (λ q. at-state (λ k. IsTaskCoherent rules s.ready task (held_by s task) k → count_of task (get_or s.ready q []) ≡ jobs_listed rules task held k q) (task_at s task) Running run
          (λ h. subst (λ r. count_of task (get_or s.ready q []) ≡ (if nat_eq q r then 1 else 0) + (if nat_eq q (rule_of rules task).priority then (task_at s task).activations - 1 else 0)) t.1 (h.placed q)) (c.each task))
          (subst (λ q. LeadsAt s.ready q task) t.1 f.1))
      | inr t ↦ rw t.0 (moved ready (long ∙ long_less) others total placed leads)
    ])
  where
    f : FitsState rules s.ready task (held_by s task) (task_at s task) Running
    f = state-of rules s task Running c run

    lt : task < length rules.tasks
    lt = task-there rules s task c (λ e. let h = sym e ∙ run in cc)

    before : ℕ
    before = raised rules task (held_by s task)

    after : ℕ
    after = raised rules task held

    less : List (List ℕ)
    less = set s.ready before (drop 1 (get_or s.ready before []))

    ready : List (List ℕ)
    ready = set less after (task ∷ get_or less after [])

    low : before < length s.ready
    low = let h = raised-below rules task (held_by s task) l in omega (arith, h, c.lists)

    long_less : length less ≡ length s.ready
    long_less = length-set s.ready before (drop 1 (get_or s.ready before []))

    long : length ready ≡ length less
    long = length-set less after (task ∷ get_or less after [])

    low_less : after < length less
    low_less = let h = raised-below rules task held l in let k = long_less in omega (arith, h, k, c.lists)

    others : (k : ℕ) → k ≢ task → (q : ℕ) → count_of k (get_or ready q []) ≡ count_of k (get_or s.ready q [])
    others k ne q =
        let a = first-count less after task k q low_less in
        let b = remove-count s.ready before task k q low f.1 in
        omega (arith, a, b, one-other k task q after ne, one-other k task q before ne)

    total : sum_by length ready ≡ sum_by length s.ready
    total = let a = first-total less after task low_less in let b = remove-total s.ready before task low f.1 in omega (arith, a, b)

    placed : (q : ℕ) → count_of task (get_or ready q []) ≡ jobs_listed rules task held (task_at s task) q
    placed q = at-state (λ k. IsTaskCoherent rules s.ready task (held_by s task) k → count_of task (get_or ready q []) ≡ jobs_listed rules task held k q) (task_at s task) Running run
        (λ h. held-number (count_of task (get_or s.ready q [])) (count_of task (get_or less q [])) (count_of task (get_or ready q [])) q before after (rule_of rules task).priority ((task_at s task).activations - 1)
        (remove-own s.ready before task q low f.1) (first-own less after task q low_less) (h.placed q)) (c.each task)

    leads : LeadsAt ready after task
    leads = rw (get_or-set_same less after (task ∷ get_or less after []) [] low_less) refl

    -- whatever the lists are then
    moved : (lists : List (List ℕ)) → length lists ≡ length s.ready → ((k : ℕ) → k ≢ task → (q : ℕ) → count_of k (get_or lists q []) ≡ count_of k (get_or s.ready q [])) →
        sum_by length lists ≡ sum_by length s.ready → ((q : ℕ) → count_of task (get_or lists q []) ≡ jobs_listed rules task held (task_at s task) q) → LeadsAt lists after task →
        IsCoherent rules (record { ready = lists; tasks = s.tasks; held = set s.held task held })
    moved lists same rest all mine lead =
        subst (λ ts. IsCoherent rules (record { ready = lists; tasks = ts; held = set s.held task held })) (set-get_or s.tasks task idle)
        (changed rules s lists task (task_at s task) held c lt same
        (record { placed = mine; state = subst (FitsState rules lists task held (task_at s task)) (sym run) (f.0, lead); within = (c.each task).within })
        rest (λ k ne other. absurd (nobody-else rules s task k c run ne other)) (omega (arith, all)) holder)

-- the events that are set change
pub events-coherent : (rules : Rules) (s : Scheduler) (task events : ℕ) → IsCoherent rules s → task < length rules.tasks → IsCoherent rules (set_events s task events)
events-coherent rules s task events c lt =
    let own = by (task_at s task).state refl in
    changed-jobs rules s s.ready task (record (task_at s task) { events = events }) c lt refl own.0
    (λ k ne q. refl)
    (λ k ne other. (λ r. ne (c.one_runs k task other r), λ q lead. lead))
    (let e = own.1 in omega (arith, e))
  where
    Goal : TaskControl → Type 0
    Goal control = IsTaskCoherent rules s.ready task (held_by s task) control →
        IsTaskCoherent rules s.ready task (held_by s task) (record control { events = events }) × (jobs_standing control ≡ jobs_standing (record control { events = events }))

    by : (t : TaskState) → (task_at s task).state ≡ t →
        IsTaskCoherent rules s.ready task (held_by s task) (record (task_at s task) { events = events }) × (jobs_standing (task_at s task) ≡ jobs_standing (record (task_at s task) { events = events }))
    by Suspended e = at-state Goal (task_at s task) Suspended e (λ h. (record { placed = h.placed; state = h.state; within = h.within }, refl)) (c.each task)
    by Ready e = at-state Goal (task_at s task) Ready e (λ h. (record { placed = h.placed; state = h.state; within = h.within }, refl)) (c.each task)
    by Running e = at-state Goal (task_at s task) Running e (λ h. (record { placed = h.placed; state = h.state; within = h.within }, refl)) (c.each task)
    by (Waiting mask) e = at-state Goal (task_at s task) (Waiting mask) e (λ h. (record { placed = h.placed; state = h.state; within = h.within }, refl)) (c.each task)

-- a job leaves waiting
pub wake-coherent : (rules : Rules) (s : Scheduler) (task mask : ℕ) → IsLawful rules → IsCoherent rules s → (task_at s task).state ≡ Waiting mask → IsCoherent rules (wake rules s task)
wake-coherent rules s task mask l c e =
    let p = (rule_of rules task).priority in
    let lt = task-there rules s task c (λ k. let h = sym k ∙ e in cc) in
    let low : p < length s.ready = let h = own-below rules task l in omega (arith, h, c.lists) in
    let own = at-state Goal (task_at s task) (Waiting mask) e (λ h. (
      record {
        placed = λ q. let b = h.placed q in let k = push-own s.ready p task q low in rw h.state.1 (woken _ (count_of task (get_or s.ready q [])) (task_at s task).activations q p h.state.0 k b);
        state = omega (arith, h.state.0);
        within = h.within;
      },
      omega (arith, h.state.0),
    )) (c.each task) in
    changed-jobs rules s (set s.ready p (get_or s.ready p [] ++ task ∷ [])) task (record (task_at s task) { state = Ready }) c lt (length-set s.ready p (get_or s.ready p [] ++ task ∷ [])) own.0
    (λ k ne q. let h = push-count s.ready p task k q low in let z = one-other k task q p ne in omega (arith, h, z))
    (λ k ne other. (λ r. absurd cc, λ q lead. push-leads s.ready p task q k low lead))
    (let h = push-total s.ready p task low in let m = own.1 in omega (arith, h, m))
  where
    woken : (n m a q p : ℕ) → a ≡ 1 → n ≡ m + (if nat_eq q p then 1 else 0) → m ≡ 0 → n ≡ (if nat_eq q p then 1 else 0) + (if nat_eq q p then a - 1 else 0)
    woken n m a q p one_only e f = elim (eqb_tells q p) [ inl t ↦ let k = rw t.0 at e in rw t.0 (omega (arith, k)) | inr t ↦ let k = rw t.0 at e in rw t.0 (omega (arith, k)) ]

    Goal : TaskControl → Type 0
    Goal control = IsTaskCoherent rules s.ready task (held_by s task) control →
        IsTaskCoherent rules (set s.ready (rule_of rules task).priority (get_or s.ready (rule_of rules task).priority [] ++ task ∷ [])) task (held_by s task) (record control { state = Ready })
        × (jobs_standing (record control { state = Ready }) ≡ jobs_standing control + 1)

-- the running task waits: it is extended, and holds no resource
pub wait-coherent : (rules : Rules) (s : Scheduler) (task mask : ℕ) → IsLawful rules → IsCoherent rules s → (task_at s task).state ≡ Running → held_by s task ≡ [] → (rule_of rules task).extended ≡ true →
    IsCoherent rules (set_state (set_jobs s (current_priority rules s task) (drop 1 (jobs_at s (current_priority rules s task)))) task (Waiting mask))
wait-coherent rules s task mask l c run none extended =
    let f = state-of rules s task Running c run in
    let lt = task-there rules s task c (λ e. let h = sym e ∙ run in cc) in
    let p = current_priority rules s task in
    let low : p < length s.ready = let h = raised-below rules task (held_by s task) l in omega (arith, h, c.lists) in
    let same : p ≡ (rule_of rules task).priority = ap (raised rules task) none in
    let limit = (l.tasks task no_task lt).extended extended in
    let own = at-state Goal (task_at s task) Running run (λ h.
    let few : (task_at s task).activations ≡ 1 = let w = h.within in let k = h.state.0 in omega (arith, w, k, limit) in (
      record {
        placed = λ q. ended-last _ (task_at s task).activations q p (rule_of rules task).priority same (omega (arith, few)) (remove-own s.ready p task q low f.1 ∙ h.placed q);
        state = (few, none, extended);
        within = h.within;
      },
      omega (arith, few),
    )) (c.each task) in
    changed-jobs rules s (set s.ready p (drop 1 (get_or s.ready p []))) task (record (task_at s task) { state = Waiting mask }) c lt (length-set s.ready p (drop 1 (get_or s.ready p []))) own.0
    (λ k ne q. let h = remove-count s.ready p task k q low f.1 in let z = one-other k task q p ne in omega (arith, h, z))
    (λ k ne other. absurd (nobody-else rules s task k c run ne other))
    (let h = remove-total s.ready p task low f.1 in let m = own.1 in omega (arith, h, m))
  where
    Goal : TaskControl → Type 0
    Goal control = IsTaskCoherent rules s.ready task (held_by s task) control →
        IsTaskCoherent rules (set s.ready (current_priority rules s task) (drop 1 (get_or s.ready (current_priority rules s task) []))) task (held_by s task) (record control { state = Waiting mask })
        × (jobs_standing control ≡ jobs_standing (record control { state = Waiting mask }) + 1)

-- no task was activated yet
get-replicate : {X : Type 0} (n i : ℕ) (x d : X) → x ≡ d → get_or (replicate n x) i d ≡ d
get-replicate zero i x d e = refl
get-replicate (suc n) zero x d e = e
get-replicate (suc n) (suc i) x d e = get-replicate n i x d e

pub first-coherent : (rules : Rules) → IsCoherent rules (first_scheduler rules)
first-coherent rules =
    let tasks = length rules.tasks in
    record {
      lists = length-replicate {A = List ℕ} priorities [];
      tasks = length-replicate tasks idle;
      holders = length-replicate {A = List ℕ} tasks [];
      one_runs = λ a b ra rb. let h = ap (λ k. k.state) (sym (get-replicate tasks a idle idle refl)) ∙ ra in cc;
      each = λ task. rw (get-replicate tasks task idle idle refl, get-replicate {X = List ℕ} tasks task [] [] refl) (record {
        placed = λ q. ap (count_of task) (get-replicate {X = List ℕ} priorities q [] [] refl);
        state = (refl, refl);
        within = omega arith;
      });
      counted = omega (arith, sum_by-replicate (length {A = ℕ}) priorities []);
      one_holder = λ r. omega (arith, sum_by-replicate (count_of r) tasks []);
    }
