use Rattle.std.proofs.Common.{◌≡◌, Some, position, get_or, set, refl, ap, vec_capacity}
use Rattle.osek_core.specs.declared.control.TaskControl.{TaskControl}
use Rattle.osek_core.specs.declared.control.TaskState.TheVariants.{Ready}
use Rattle.osek_core.specs.Core.Kept.{scheduler_of}
use Rattle.osek_core.specs.Kernel.Scheduler.{idle, is_running}
use Rattle.osek_core.proofs.Coherence.{rest-coherent}
use Rattle.osek_core.proofs.Scheduling.{rules_at, read_at, run-at, sound-at, set-sound}
use Rattle.osek_core.proofs.scheduler.Core.give_way.Goals as goal

pub invariant_of-self : goal.invariant_of-self
invariant_of-self c =
    let i = c.self.invariant in
    let v = c.self.view_is in
    let f = c.self.inside in
    let rules = f.rules.items in
    let ceilings = f.ceilings.items in
    let controls = f.controls.items in
    let jobs = f.jobs.items in
    let holdings = f.holdings.items in
    let R = rules_at rules ceilings in
    let S = scheduler_of controls jobs holdings in
    let task = c.args.task in
    let run : position is_running controls ≡ Some task = rw (← v) at c.requires in
    let r = run-at rules ceilings controls jobs holdings (vec_capacity f.jobs) (vec_capacity f.holdings) task i run in
    let control = read_at controls task c.index_mut.result.now idle r.there c.index_mut.ensures.value in
    let block = ap (λ (k : TaskControl). set controls task (record k { state = Ready })) control in
    sound-at rules ceilings _ _ _ _ holdings holdings _ _ block refl refl
    (set-sound rules ceilings controls jobs holdings (vec_capacity f.jobs) (vec_capacity f.holdings) task (record (get_or controls task idle) { state = Ready }) i
    (rest-coherent R S task i.coherent r.runs))
