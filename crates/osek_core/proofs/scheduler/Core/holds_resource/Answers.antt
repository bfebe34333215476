use Rattle.std.proofs.Common.{◌<◌, length, ap, ◌∙◌, arith, nat_eq}
use Rattle.std.specs.List.{list_any}
use Rattle.osek_core.specs.declared.scheduler.Holding.{Holding}
use Rattle.osek_core.specs.Core.Value.{Scheduled}
use Rattle.osek_core.specs.Core.Kept.{scheduler_of}
use Rattle.osek_core.specs.Kernel.TaskServices.{holds_resource}
use Rattle.osek_core.proofs.Scheduling.{rules_at, any-holds}
use Rattle.osek_core.proofs.scheduler.Core.holds_resource.Goals as goal

pub returns : goal.returns
returns c =
    let i = c.self.invariant in
    let v = c.self.view_is in
    let f = c.self.inside in
    let rules = f.rules.items in
    let ceilings = f.ceilings.items in
    let controls = f.controls.items in
    let jobs = f.jobs.items in
    let holdings = f.holdings.items in
    let R = rules_at rules ceilings in
    let S = scheduler_of controls jobs holdings in
    let there : c.args.task < length rules = rw (← v) at c.requires in
    c.holds_any.ensures ∙ ap (list_any (λ (h : Holding). nat_eq h.task c.args.task)) c.deref.ensures.value ∙ any-holds controls jobs holdings c.args.task (omega (arith, there, i.coherent.tasks))
    ∙ ap (λ (x : Scheduled). holds_resource x.scheduler c.args.task) v
