use Rattle.std.proofs.Common.{◌≡◌, ◌<◌, ◌++◌, ◌∷◌, [], true, is_ok, length, get_or, set, refl, sym, ap, ◌∙◌, arith, vec_capacity}
use Rattle.osek_core.specs.declared.control.TaskControl.{TaskControl}
use Rattle.osek_core.specs.declared.control.TaskState.TheVariants.{Ready}
use Rattle.osek_core.specs.declared.tables.TaskRule.{TaskRule}
use Rattle.osek_core.specs.Core.Value.{Scheduled}
use Rattle.osek_core.specs.Core.Kept.{scheduler_of}
use Rattle.osek_core.specs.Kernel.Rules.{no_task}
use Rattle.osek_core.specs.Kernel.Scheduler.{idle}
use Rattle.osek_core.specs.Kernel.EventServices.{wake}
use Rattle.osek_core.proofs.Coherence.{own-below, task-there, wake-coherent}
use Rattle.osek_core.proofs.Scheduling.{rules_at, read_at, sound-at, scheduled-at, push-view, add-sound, room-left, none-standing, is-waiting}
use Rattle.osek_core.proofs.scheduler.Core.wake.Goals as goal

pub invariant_of-self : goal.invariant_of-self
invariant_of-self c =
    let i = c.self.invariant in
    let v = c.self.view_is in
    let f = c.self.inside in
    let rules = f.rules.items in
    let ceilings = f.ceilings.items in
    let controls = f.controls.items in
    let jobs = f.jobs.items in
    let holdings = f.holdings.items in
    let R = rules_at rules ceilings in
    let S = scheduler_of controls jobs holdings in
    let task = c.args.task in
    let waits = is-waiting (get_or controls task idle).state (rw (← v) at c.requires) in
    let there = task-there R S task i.coherent (λ k. let h = sym k ∙ waits.1 in cc) in
    let within : task < length controls = omega (arith, there, i.coherent.tasks) in
    let rule = read_at rules task c.index.result.now no_task there c.index.ensures in
    let control = read_at controls task c.index_mut.result.now idle within c.index_mut.ensures.value in
    let room = room-left rules ceilings controls jobs holdings (vec_capacity f.jobs) (vec_capacity f.holdings) task i within (none-standing (get_or controls task idle) waits.0 waits.1) in
    let ok : is_ok c.push.result ≡ true = c.push.ensures.succeeds (omega (arith, room, f.jobs.ok.0)) in
    let items = rw ok at c.push.ensures.items in
    let block = ap (λ (k : TaskControl). set controls task (record k { state = Ready })) control in
    let queued = items ∙ ap (λ (k : TaskRule). jobs ++ record { task = task; priority = k.priority } ∷ []) rule in
    let next : TaskControl = record (get_or controls task idle) { state = Ready } in
    sound-at rules ceilings _ _ _ _ holdings holdings (vec_capacity c.push.new.self) (vec_capacity f.holdings) block queued refl
    (add-sound rules ceilings controls jobs holdings (vec_capacity f.jobs) (vec_capacity c.push.new.self) (vec_capacity f.holdings) task next i c.push.ensures.capacity
    (wake-coherent R S task waits.0 i.lawful i.coherent waits.1))

pub returns : goal.returns
returns c =
    let i = c.self.invariant in
    let v = c.self.view_is in
    let f = c.self.inside in
    let rules = f.rules.items in
    let ceilings = f.ceilings.items in
    let controls = f.controls.items in
    let jobs = f.jobs.items in
    let holdings = f.holdings.items in
    let R = rules_at rules ceilings in
    let S = scheduler_of controls jobs holdings in
    let task = c.args.task in
    let waits = is-waiting (get_or controls task idle).state (rw (← v) at c.requires) in
    let there = task-there R S task i.coherent (λ k. let h = sym k ∙ waits.1 in cc) in
    let within : task < length controls = omega (arith, there, i.coherent.tasks) in
    let rule = read_at rules task c.index.result.now no_task there c.index.ensures in
    let control = read_at controls task c.index_mut.result.now idle within c.index_mut.ensures.value in
    let room = room-left rules ceilings controls jobs holdings (vec_capacity f.jobs) (vec_capacity f.holdings) task i within (none-standing (get_or controls task idle) waits.0 waits.1) in
    let ok : is_ok c.push.result ≡ true = c.push.ensures.succeeds (omega (arith, room, f.jobs.ok.0)) in
    let items = rw ok at c.push.ensures.items in
    let block = ap (λ (k : TaskControl). set controls task (record k { state = Ready })) control in
    let queued = items ∙ ap (λ (k : TaskRule). jobs ++ record { task = task; priority = k.priority } ∷ []) rule in
    let next : TaskControl = record (get_or controls task idle) { state = Ready } in
    scheduled-at rules ceilings _ _ _ _ holdings holdings (wake R S task) block queued refl
    (push-view rules controls jobs holdings task next (own-below R task i.lawful))
    ∙ ap (λ (x : Scheduled). record { rules = x.rules; scheduler = wake x.rules x.scheduler task }) v
