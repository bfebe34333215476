use Rattle.std.proofs.Common.{◌<◌, length, get_or, set, refl, ap, arith, vec_capacity}
use Rattle.osek_core.specs.declared.control.TaskControl.{TaskControl}
use Rattle.osek_core.specs.Core.Kept.{scheduler_of}
use Rattle.osek_core.specs.Kernel.Scheduler.{idle}
use Rattle.osek_core.proofs.Coherence.{events-coherent}
use Rattle.osek_core.proofs.Scheduling.{rules_at, read_at, sound-at, set-sound}
use Rattle.osek_core.proofs.scheduler.Core.set_events.Goals as goal

pub invariant_of-self : goal.invariant_of-self
invariant_of-self c =
    let i = c.self.invariant in
    let v = c.self.view_is in
    let f = c.self.inside in
    let rules = f.rules.items in
    let ceilings = f.ceilings.items in
    let controls = f.controls.items in
    let jobs = f.jobs.items in
    let holdings = f.holdings.items in
    let R = rules_at rules ceilings in
    let S = scheduler_of controls jobs holdings in
    let task = c.args.task in
    let there : task < length rules = rw (← v) at c.requires in
    let control = read_at controls task c.index_mut.result.now idle (omega (arith, there, i.coherent.tasks)) c.index_mut.ensures.value in
    let block = ap (λ (k : TaskControl). set controls task (record k { events = c.args.events })) control in
    sound-at rules ceilings _ _ _ _ holdings holdings _ _ block refl refl
    (set-sound rules ceilings controls jobs holdings (vec_capacity f.jobs) (vec_capacity f.holdings) task (record (get_or controls task idle) { events = c.args.events }) i
    (events-coherent R S task c.args.events i.coherent there))
