use Rattle.std.proofs.Common.{◌≡◌, true, Some, position, get_or, set, refl, sym, ap, ◌∙◌, subst, vec_capacity}
use Rattle.osek_core.specs.declared.control.TaskControl.{TaskControl}
use Rattle.osek_core.specs.declared.control.TaskState.TheVariants.{Waiting}
use Rattle.osek_core.specs.declared.tables.TaskRule.{TaskRule}
use Rattle.osek_core.specs.Core.Value.{Scheduled}
use Rattle.osek_core.specs.Core.Queue.{without_first}
use Rattle.osek_core.specs.Core.Kept.{IsSound, priority_of, scheduler_of}
use Rattle.osek_core.specs.Kernel.Rules.{no_task}
use Rattle.osek_core.specs.Kernel.Scheduler.{idle, is_running, current_priority, set_state, set_task, remove_first}
use Rattle.osek_core.specs.Kernel.Coherent.{IsCoherent}
use Rattle.osek_core.proofs.Coherence.{own-below, wait-coherent}
use Rattle.osek_core.proofs.Scheduling.{rules_at, read_at, run-at, free-nothing, sound-at, scheduled-at, remove-view, leave-sound, own-priority}
use Rattle.osek_core.proofs.scheduler.Core.wait.Goals as goal

pub invariant_of-self : goal.invariant_of-self
invariant_of-self c =
    let i = c.self.invariant in
    let v = c.self.view_is in
    let f = c.self.inside in
    let rules = f.rules.items in
    let ceilings = f.ceilings.items in
    let controls = f.controls.items in
    let jobs = f.jobs.items in
    let holdings = f.holdings.items in
    let R = rules_at rules ceilings in
    let S = scheduler_of controls jobs holdings in
    let task = c.args.task in
    let run : position is_running controls ≡ Some task = rw (← v) at c.requires.runs in
    let r = run-at rules ceilings controls jobs holdings (vec_capacity f.jobs) (vec_capacity f.holdings) task i run in
    let none = free-nothing controls jobs holdings task (rw (← v) at c.requires.free) in
    let own = own-priority rules ceilings controls jobs holdings task none in
    let rule = read_at rules task c.index.result.now no_task r.ruled c.index.ensures in
    let left = c.remove_first_job.ensures.items ∙ ap (λ (k : TaskRule). without_first jobs k.priority) rule in
    let room : vec_capacity f.jobs ≡ vec_capacity c.remove_first_job.new.jobs = sym c.remove_first_job.ensures.room in
    let low = own-below R task i.lawful in
    let control = read_at controls task c.index_mut.result.now idle r.there c.index_mut.ensures.value in
    let block = ap (λ (k : TaskControl). set controls task (record k { state = Waiting c.args.events })) control in
    let next : TaskControl = record (get_or controls task idle) { state = Waiting c.args.events } in
    let extended : (get_or rules task no_task).extended ≡ true = rw (← v) at c.requires.extended in
    let coherent = subst (λ p. IsCoherent R (set_task (remove_first S p) task next)) (sym own) (wait-coherent R S task c.args.events i.lawful i.coherent r.runs none extended) in
    sound-at rules ceilings _ _ _ _ holdings holdings _ _ block left refl
    (subst (λ n. IsSound rules ceilings (set controls task next) (without_first jobs (priority_of rules task)) holdings n (vec_capacity f.holdings)) room
    (leave-sound rules ceilings controls jobs holdings (vec_capacity f.jobs) (vec_capacity f.holdings) task next (priority_of rules task) low i coherent))

pub returns : goal.returns
returns c =
    let i = c.self.invariant in
    let v = c.self.view_is in
    let f = c.self.inside in
    let rules = f.rules.items in
    let ceilings = f.ceilings.items in
    let controls = f.controls.items in
    let jobs = f.jobs.items in
    let holdings = f.holdings.items in
    let R = rules_at rules ceilings in
    let S = scheduler_of controls jobs holdings in
    let task = c.args.task in
    let run : position is_running controls ≡ Some task = rw (← v) at c.requires.runs in
    let r = run-at rules ceilings controls jobs holdings (vec_capacity f.jobs) (vec_capacity f.holdings) task i run in
    let none = free-nothing controls jobs holdings task (rw (← v) at c.requires.free) in
    let own = own-priority rules ceilings controls jobs holdings task none in
    let rule = read_at rules task c.index.result.now no_task r.ruled c.index.ensures in
    let left = c.remove_first_job.ensures.items ∙ ap (λ (k : TaskRule). without_first jobs k.priority) rule in
    let room : vec_capacity f.jobs ≡ vec_capacity c.remove_first_job.new.jobs = sym c.remove_first_job.ensures.room in
    let low = own-below R task i.lawful in
    let control = read_at controls task c.index_mut.result.now idle r.there c.index_mut.ensures.value in
    let block = ap (λ (k : TaskControl). set controls task (record k { state = Waiting c.args.events })) control in
    let next : TaskControl = record (get_or controls task idle) { state = Waiting c.args.events } in
    scheduled-at rules ceilings _ _ _ _ holdings holdings (set_state (remove_first S (current_priority R S task)) task (Waiting c.args.events)) block left refl
    (remove-view controls jobs holdings task next (priority_of rules task) low ∙ ap (λ p. set_task (remove_first S p) task next) own)
    ∙ ap (λ (x : Scheduled). record { rules = x.rules; scheduler = set_state (remove_first x.scheduler (current_priority x.rules x.scheduler task)) task (Waiting c.args.events) }) v
