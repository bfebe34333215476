use Rattle.std.proofs.Common.{◌≡◌, ◌<◌, ◌++◌, ◌∷◌, [], true, is_ok, length, get_or, set, refl, ap, ◌∙◌, arith, vec_capacity}
use Rattle.osek_core.specs.declared.tables.TaskRule.{TaskRule}
use Rattle.osek_core.specs.Core.Value.{Scheduled}
use Rattle.osek_core.specs.Core.Kept.{scheduler_of}
use Rattle.osek_core.specs.Kernel.Rules.{no_task}
use Rattle.osek_core.specs.Kernel.Scheduler.{idle}
use Rattle.osek_core.specs.Kernel.TaskServices.{activate, activated}
use Rattle.osek_core.proofs.Coherence.{own-below, activate-coherent}
use Rattle.osek_core.proofs.Scheduling.{rules_at, read_at, sound-at, scheduled-at, push-view, add-sound, room-left, few-standing}
use Rattle.osek_core.proofs.scheduler.Core.add_job.Goals as goal

pub invariant_of-self : goal.invariant_of-self
invariant_of-self c =
    let i = c.self.invariant in
    let v = c.self.view_is in
    let f = c.self.inside in
    let rules = f.rules.items in
    let ceilings = f.ceilings.items in
    let controls = f.controls.items in
    let jobs = f.jobs.items in
    let holdings = f.holdings.items in
    let R = rules_at rules ceilings in
    let S = scheduler_of controls jobs holdings in
    let task = c.args.task in
    let there : task < length rules = rw (← v) at c.requires.task in
    let limit : (get_or controls task idle).activations < (get_or rules task no_task).activations = rw (← v) at c.requires.limit in
    let rule = read_at rules task c.index.result.now no_task there c.index.ensures in
    let within : task < length controls = omega (arith, there, i.coherent.tasks) in
    let control = read_at controls task c.index-control.result.now idle within c.index-control.ensures in
    let room = room-left rules ceilings controls jobs holdings (vec_capacity f.jobs) (vec_capacity f.holdings) task i within (few-standing rules ceilings (get_or controls task idle) task i.lawful there limit) in
    let ok : is_ok c.push.result ≡ true = c.push.ensures.succeeds (omega (arith, room, f.jobs.ok.0)) in
    let items = rw ok at c.push.ensures.items in
    let block = ap (set controls task) (c.activated_control.ensures ∙ ap activated control) in
    let queued = items ∙ ap (λ (r : TaskRule). jobs ++ record { task = task; priority = r.priority } ∷ []) rule in
    sound-at rules ceilings _ _ _ _ holdings holdings (vec_capacity c.push.new.self) (vec_capacity f.holdings) block queued refl
    (add-sound rules ceilings controls jobs holdings (vec_capacity f.jobs) (vec_capacity c.push.new.self) (vec_capacity f.holdings) task (activated (get_or controls task idle)) i c.push.ensures.capacity
    (activate-coherent R S task i.lawful i.coherent there limit))

pub returns : goal.returns
returns c =
    let i = c.self.invariant in
    let v = c.self.view_is in
    let f = c.self.inside in
    let rules = f.rules.items in
    let ceilings = f.ceilings.items in
    let controls = f.controls.items in
    let jobs = f.jobs.items in
    let holdings = f.holdings.items in
    let R = rules_at rules ceilings in
    let S = scheduler_of controls jobs holdings in
    let task = c.args.task in
    let there : task < length rules = rw (← v) at c.requires.task in
    let limit : (get_or controls task idle).activations < (get_or rules task no_task).activations = rw (← v) at c.requires.limit in
    let rule = read_at rules task c.index.result.now no_task there c.index.ensures in
    let within : task < length controls = omega (arith, there, i.coherent.tasks) in
    let control = read_at controls task c.index-control.result.now idle within c.index-control.ensures in
    let room = room-left rules ceilings controls jobs holdings (vec_capacity f.jobs) (vec_capacity f.holdings) task i within (few-standing rules ceilings (get_or controls task idle) task i.lawful there limit) in
    let ok : is_ok c.push.result ≡ true = c.push.ensures.succeeds (omega (arith, room, f.jobs.ok.0)) in
    let items = rw ok at c.push.ensures.items in
    let block = ap (set controls task) (c.activated_control.ensures ∙ ap activated control) in
    let queued = items ∙ ap (λ (r : TaskRule). jobs ++ record { task = task; priority = r.priority } ∷ []) rule in
    scheduled-at rules ceilings _ _ _ _ holdings holdings (activate R S task) block queued refl
    (push-view rules controls jobs holdings task (activated (get_or controls task idle)) (own-below R task i.lawful))
    ∙ ap (λ (x : Scheduled). record { rules = x.rules; scheduler = activate x.rules x.scheduler task }) v
