use Rattle.std.proofs.Common.{◌≡◌, ◌<◌, List, true, false, None, Some, position, length, get_or, set, refl, sym, ap, ◌∙◌, subst, arith, vec_capacity, All, length-set}
use Rattle.osek_core.specs.declared.control.TaskControl.{TaskControl}
use Rattle.osek_core.specs.declared.control.TaskState.TheVariants.{Ready}
use Rattle.osek_core.specs.declared.tables.TaskRule.{TaskRule}
use Rattle.osek_core.specs.declared.scheduler.Job.{Job}
use Rattle.osek_core.specs.Core.Value.{Scheduled}
use Rattle.osek_core.specs.Core.Queue.{with_top_running}
use Rattle.osek_core.specs.Core.Kept.{scheduler_of}
use Rattle.osek_core.specs.Kernel.Rules.{no_task}
use Rattle.osek_core.specs.Kernel.Scheduler.{idle, is_running}
use Rattle.osek_core.specs.Kernel.Dispatch.{dispatch}
use Rattle.osek_core.specs.Kernel.Invariant.{IsDispatched}
use Rattle.osek_core.proofs.Running.{running-at}
use Rattle.osek_core.proofs.Coherence.{dispatched}
use Rattle.osek_core.proofs.Scheduling.{rules_at, read_at, sound-at, scheduled-at, written-over, jobs-there, dispatch-none, dispatch-preempts, dispatch-keeps, dispatch-sound, top_running-length}
use Rattle.osek_core.proofs.scheduler.Core.dispatch.Goals as goal

pub run_first_job-requires : goal.run_first_job-requires
run_first_job-requires c =
    let i = c.self.invariant in
    let v = c.self.view_is in
    let f = c.self.inside in
    let rules = f.rules.items in
    let ceilings = f.ceilings.items in
    let controls = f.controls.items in
    let jobs = f.jobs.items in
    let holdings = f.holdings.items in
    let R = rules_at rules ceilings in
    let S = scheduler_of controls jobs holdings in
    let there = jobs-there rules ceilings controls jobs holdings (vec_capacity f.jobs) (vec_capacity f.holdings) i in
    subst (λ (l : List Job). All (λ j. j.task < length c.deref_mut.result.now) l) (sym c.deref-in-None.ensures.value) (subst (λ (l : List TaskControl). All (λ j. j.task < length l) jobs) (sym c.deref_mut.ensures.value) there)

pub run_first_job-requires-then-index : goal.run_first_job-requires-then-index
run_first_job-requires-then-index c =
    let i = c.self.invariant in
    let v = c.self.view_is in
    let f = c.self.inside in
    let rules = f.rules.items in
    let ceilings = f.ceilings.items in
    let controls = f.controls.items in
    let jobs = f.jobs.items in
    let holdings = f.holdings.items in
    let R = rules_at rules ceilings in
    let S = scheduler_of controls jobs holdings in
    let task = c.in-Some.task in
    let some : position is_running controls ≡ Some task = cc in
    let at = running-at controls task some in
    let ready : TaskControl = record (get_or controls task idle) { state = Ready } in
    let once : c.set_state.new.controls ≡ set controls task ready = cc in
    let long : length c.set_state.new.controls ≡ f.controls.len = ap length once ∙ length-set controls task ready ∙ sym f.controls.ok.0 in
    let over_once = written-over f.controls.len controls c.set_state.new.controls long ∙ once in
    let there = jobs-there rules ceilings controls jobs holdings (vec_capacity f.jobs) (vec_capacity f.holdings) i in
    let same = ap length (c.deref_mut-then-index-2.ensures.value ∙ over_once) ∙ length-set controls task ready in
    subst (λ (l : List Job). All (λ j. j.task < length c.deref_mut-then-index-2.result.now) l) (sym c.deref-then-index.ensures.value) (subst (λ n. All (λ j. j.task < n) jobs) (sym same) there)

pub invariant_of-self : goal.invariant_of-self
invariant_of-self c =
    let i = c.self.invariant in
    let v = c.self.view_is in
    let f = c.self.inside in
    let rules = f.rules.items in
    let ceilings = f.ceilings.items in
    let controls = f.controls.items in
    let jobs = f.jobs.items in
    let holdings = f.holdings.items in
    let R = rules_at rules ceilings in
    let S = scheduler_of controls jobs holdings in
    let new : c.run_first_job.new.controls ≡ with_top_running controls jobs = c.run_first_job.ensures ∙ ap (λ (l : List TaskControl). with_top_running l c.deref-in-None.result.now) c.deref_mut.ensures.value ∙ ap (with_top_running controls) c.deref-in-None.ensures.value in
    let long : length c.run_first_job.new.controls ≡ f.controls.len = ap length new ∙ top_running-length controls jobs ∙ sym f.controls.ok.0 in
    let none : position is_running controls ≡ None = cc in
    let over = written-over f.controls.len controls c.run_first_job.new.controls long ∙ new in
    let below = i.listed in
    let is : scheduler_of (with_top_running controls jobs) jobs holdings ≡ dispatch R S = dispatch-none rules ceilings controls jobs holdings none below in
    let last = with_top_running controls jobs in
    let lasts = top_running-length controls jobs in
    sound-at rules ceilings _ _ jobs jobs holdings holdings (vec_capacity f.jobs) (vec_capacity f.holdings) over refl refl
    (dispatch-sound rules ceilings controls last jobs holdings (vec_capacity f.jobs) (vec_capacity f.holdings) i lasts is)

pub invariant_of-self-then-index : goal.invariant_of-self-then-index
invariant_of-self-then-index c =
    let i = c.self.invariant in
    let v = c.self.view_is in
    let f = c.self.inside in
    let rules = f.rules.items in
    let ceilings = f.ceilings.items in
    let controls = f.controls.items in
    let jobs = f.jobs.items in
    let holdings = f.holdings.items in
    let R = rules_at rules ceilings in
    let S = scheduler_of controls jobs holdings in
    let task = c.in-Some.task in
    let some : position is_running controls ≡ Some task = cc in
    let at = running-at controls task some in
    let ready : TaskControl = record (get_or controls task idle) { state = Ready } in
    let once : c.set_state.new.controls ≡ set controls task ready = cc in
    let long : length c.set_state.new.controls ≡ f.controls.len = ap length once ∙ length-set controls task ready ∙ sym f.controls.ok.0 in
    let over_once = written-over f.controls.len controls c.set_state.new.controls long ∙ once in
    let last = with_top_running (set controls task ready) jobs in
    let twice : c.run_first_job-then-index.new.controls ≡ last =
    c.run_first_job-then-index.ensures ∙ ap (λ (l : List TaskControl). with_top_running l c.deref-then-index.result.now) (c.deref_mut-then-index-2.ensures.value ∙ over_once) ∙ ap (with_top_running (set controls task ready)) c.deref-then-index.ensures.value in
    let lasts : length last ≡ length controls = top_running-length (set controls task ready) jobs ∙ length-set controls task ready in
    let longer : length c.run_first_job-then-index.new.controls ≡ f.controls.len = ap length twice ∙ lasts ∙ sym f.controls.ok.0 in
    let over = written-over f.controls.len _ c.run_first_job-then-index.new.controls longer ∙ twice in
    let rule = read_at rules task c.index.result.now no_task (omega (arith, at.0, i.coherent.tasks)) c.index.ensures in
    let preemptable : (get_or rules task no_task).preemptable ≡ true = ap (λ (k : TaskRule). k.preemptable) (sym rule) ∙ c.if-index.true in
    let is : scheduler_of last jobs holdings ≡ dispatch R S = dispatch-preempts rules ceilings controls jobs holdings task some preemptable i.listed in
    sound-at rules ceilings _ _ jobs jobs holdings holdings (vec_capacity f.jobs) (vec_capacity f.holdings) over refl refl
    (dispatch-sound rules ceilings controls last jobs holdings (vec_capacity f.jobs) (vec_capacity f.holdings) i lasts is)

pub returns-in-None-clause-state : goal.returns-in-None-clause-state
returns-in-None-clause-state c =
    let i = c.self.invariant in
    let v = c.self.view_is in
    let f = c.self.inside in
    let rules = f.rules.items in
    let ceilings = f.ceilings.items in
    let controls = f.controls.items in
    let jobs = f.jobs.items in
    let holdings = f.holdings.items in
    let R = rules_at rules ceilings in
    let S = scheduler_of controls jobs holdings in
    let new : c.run_first_job.new.controls ≡ with_top_running controls jobs = c.run_first_job.ensures ∙ ap (λ (l : List TaskControl). with_top_running l c.deref-in-None.result.now) c.deref_mut.ensures.value ∙ ap (with_top_running controls) c.deref-in-None.ensures.value in
    let long : length c.run_first_job.new.controls ≡ f.controls.len = ap length new ∙ top_running-length controls jobs ∙ sym f.controls.ok.0 in
    let none : position is_running controls ≡ None = cc in
    let over = written-over f.controls.len controls c.run_first_job.new.controls long ∙ new in
    let below = i.listed in
    let is : scheduler_of (with_top_running controls jobs) jobs holdings ≡ dispatch R S = dispatch-none rules ceilings controls jobs holdings none below in
    let last = with_top_running controls jobs in
    let lasts = top_running-length controls jobs in
    scheduled-at rules ceilings _ _ jobs jobs holdings holdings (dispatch R S) over refl refl is
    ∙ ap (λ (x : Scheduled). record { rules = x.rules; scheduler = dispatch x.rules x.scheduler }) v

pub returns-in-None-clause-dispatched : goal.returns-in-None-clause-dispatched
returns-in-None-clause-dispatched c =
    let i = c.self.invariant in
    let v = c.self.view_is in
    let f = c.self.inside in
    let rules = f.rules.items in
    let ceilings = f.ceilings.items in
    let controls = f.controls.items in
    let jobs = f.jobs.items in
    let holdings = f.holdings.items in
    let R = rules_at rules ceilings in
    let S = scheduler_of controls jobs holdings in
    let new : c.run_first_job.new.controls ≡ with_top_running controls jobs = c.run_first_job.ensures ∙ ap (λ (l : List TaskControl). with_top_running l c.deref-in-None.result.now) c.deref_mut.ensures.value ∙ ap (with_top_running controls) c.deref-in-None.ensures.value in
    let long : length c.run_first_job.new.controls ≡ f.controls.len = ap length new ∙ top_running-length controls jobs ∙ sym f.controls.ok.0 in
    let none : position is_running controls ≡ None = cc in
    let over = written-over f.controls.len controls c.run_first_job.new.controls long ∙ new in
    let below = i.listed in
    let is : scheduler_of (with_top_running controls jobs) jobs holdings ≡ dispatch R S = dispatch-none rules ceilings controls jobs holdings none below in
    let last = with_top_running controls jobs in
    let lasts = top_running-length controls jobs in
    subst (λ (l : List TaskControl). IsDispatched R (scheduler_of l jobs holdings)) (sym over) (subst (IsDispatched R) (sym is) (dispatched R S i.coherent))

pub returns-then-index-clause-state : goal.returns-then-index-clause-state
returns-then-index-clause-state c =
    let i = c.self.invariant in
    let v = c.self.view_is in
    let f = c.self.inside in
    let rules = f.rules.items in
    let ceilings = f.ceilings.items in
    let controls = f.controls.items in
    let jobs = f.jobs.items in
    let holdings = f.holdings.items in
    let R = rules_at rules ceilings in
    let S = scheduler_of controls jobs holdings in
    let task = c.in-Some.task in
    let some : position is_running controls ≡ Some task = cc in
    let at = running-at controls task some in
    let ready : TaskControl = record (get_or controls task idle) { state = Ready } in
    let once : c.set_state.new.controls ≡ set controls task ready = cc in
    let long : length c.set_state.new.controls ≡ f.controls.len = ap length once ∙ length-set controls task ready ∙ sym f.controls.ok.0 in
    let over_once = written-over f.controls.len controls c.set_state.new.controls long ∙ once in
    let last = with_top_running (set controls task ready) jobs in
    let twice : c.run_first_job-then-index.new.controls ≡ last =
    c.run_first_job-then-index.ensures ∙ ap (λ (l : List TaskControl). with_top_running l c.deref-then-index.result.now) (c.deref_mut-then-index-2.ensures.value ∙ over_once) ∙ ap (with_top_running (set controls task ready)) c.deref-then-index.ensures.value in
    let lasts : length last ≡ length controls = top_running-length (set controls task ready) jobs ∙ length-set controls task ready in
    let longer : length c.run_first_job-then-index.new.controls ≡ f.controls.len = ap length twice ∙ lasts ∙ sym f.controls.ok.0 in
    let over = written-over f.controls.len _ c.run_first_job-then-index.new.controls longer ∙ twice in
    let rule = read_at rules task c.index.result.now no_task (omega (arith, at.0, i.coherent.tasks)) c.index.ensures in
    let preemptable : (get_or rules task no_task).preemptable ≡ true = ap (λ (k : TaskRule). k.preemptable) (sym rule) ∙ c.if-index.true in
    let is : scheduler_of last jobs holdings ≡ dispatch R S = dispatch-preempts rules ceilings controls jobs holdings task some preemptable i.listed in
    scheduled-at rules ceilings _ _ jobs jobs holdings holdings (dispatch R S) over refl refl is
    ∙ ap (λ (x : Scheduled). record { rules = x.rules; scheduler = dispatch x.rules x.scheduler }) v

pub returns-then-index-clause-dispatched : goal.returns-then-index-clause-dispatched
returns-then-index-clause-dispatched c =
    let i = c.self.invariant in
    let v = c.self.view_is in
    let f = c.self.inside in
    let rules = f.rules.items in
    let ceilings = f.ceilings.items in
    let controls = f.controls.items in
    let jobs = f.jobs.items in
    let holdings = f.holdings.items in
    let R = rules_at rules ceilings in
    let S = scheduler_of controls jobs holdings in
    let task = c.in-Some.task in
    let some : position is_running controls ≡ Some task = cc in
    let at = running-at controls task some in
    let ready : TaskControl = record (get_or controls task idle) { state = Ready } in
    let once : c.set_state.new.controls ≡ set controls task ready = cc in
    let long : length c.set_state.new.controls ≡ f.controls.len = ap length once ∙ length-set controls task ready ∙ sym f.controls.ok.0 in
    let over_once = written-over f.controls.len controls c.set_state.new.controls long ∙ once in
    let last = with_top_running (set controls task ready) jobs in
    let twice : c.run_first_job-then-index.new.controls ≡ last =
    c.run_first_job-then-index.ensures ∙ ap (λ (l : List TaskControl). with_top_running l c.deref-then-index.result.now) (c.deref_mut-then-index-2.ensures.value ∙ over_once) ∙ ap (with_top_running (set controls task ready)) c.deref-then-index.ensures.value in
    let lasts : length last ≡ length controls = top_running-length (set controls task ready) jobs ∙ length-set controls task ready in
    let longer : length c.run_first_job-then-index.new.controls ≡ f.controls.len = ap length twice ∙ lasts ∙ sym f.controls.ok.0 in
    let over = written-over f.controls.len _ c.run_first_job-then-index.new.controls longer ∙ twice in
    let rule = read_at rules task c.index.result.now no_task (omega (arith, at.0, i.coherent.tasks)) c.index.ensures in
    let preemptable : (get_or rules task no_task).preemptable ≡ true = ap (λ (k : TaskRule). k.preemptable) (sym rule) ∙ c.if-index.true in
    let is : scheduler_of last jobs holdings ≡ dispatch R S = dispatch-preempts rules ceilings controls jobs holdings task some preemptable i.listed in
    subst (λ (l : List TaskControl). IsDispatched R (scheduler_of l jobs holdings)) (sym over) (subst (IsDispatched R) (sym is) (dispatched R S i.coherent))

pub returns-else-index-clause-dispatched : goal.returns-else-index-clause-dispatched
returns-else-index-clause-dispatched c =
    let i = c.self.invariant in
    let v = c.self.view_is in
    let f = c.self.inside in
    let rules = f.rules.items in
    let ceilings = f.ceilings.items in
    let controls = f.controls.items in
    let jobs = f.jobs.items in
    let holdings = f.holdings.items in
    let R = rules_at rules ceilings in
    let S = scheduler_of controls jobs holdings in
    let task = c.in-Some.task in
    let some : position is_running controls ≡ Some task = cc in
    let at = running-at controls task some in
    let rule = read_at rules task c.index.result.now no_task (omega (arith, at.0, i.coherent.tasks)) c.index.ensures in
    let fixed : (get_or rules task no_task).preemptable ≡ false = ap (λ (k : TaskRule). k.preemptable) (sym rule) ∙ c.if-index.false in
    let is : S ≡ dispatch R S = dispatch-keeps rules ceilings controls jobs holdings task some fixed in
    subst (λ (x : Scheduled). IsDispatched x.rules x.scheduler) v (subst (IsDispatched R) (sym is) (dispatched R S i.coherent))
