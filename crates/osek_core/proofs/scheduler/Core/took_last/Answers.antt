use Rattle.std.proofs.Common.{◌<◌, ◌∷◌, [], position, length, sym, ap, ◌∙◌, arith, nat_eq}
use Rattle.osek_core.specs.declared.scheduler.Holding.{Holding}
use Rattle.osek_core.specs.Core.Value.{Scheduled}
use Rattle.osek_core.specs.Core.Kept.{scheduler_of}
use Rattle.osek_core.specs.Kernel.Scheduler.{held_by}
use Rattle.osek_core.proofs.Scheduling.{rules_at, took-none, took-some}
use Rattle.std.specs.List.{ends_with}
use Rattle.osek_core.proofs.scheduler.Core.took_last.Goals as goal

pub returns-in-None : goal.returns-in-None
returns-in-None c =
    let i = c.self.invariant in
    let v = c.self.view_is in
    let f = c.self.inside in
    let rules = f.rules.items in
    let ceilings = f.ceilings.items in
    let controls = f.controls.items in
    let jobs = f.jobs.items in
    let holdings = f.holdings.items in
    let R = rules_at rules ceilings in
    let S = scheduler_of controls jobs holdings in
    let task = c.args.task in
    let there : task < length rules = rw (← v) at c.requires in
    let within : task < length controls = omega (arith, there, i.coherent.tasks) in
    let place = c.first_holding.ensures.place ∙ ap (position (λ (h : Holding). nat_eq h.task task)) c.deref.ensures.value in
    took-none controls jobs holdings task c.args.resource within (sym place ∙ c.in-None.is)
    ∙ ap (λ (x : Scheduled). ends_with nat_eq (held_by x.scheduler task) (c.args.resource ∷ [])) v

pub returns-in-Some : goal.returns-in-Some
returns-in-Some c =
    let i = c.self.invariant in
    let v = c.self.view_is in
    let f = c.self.inside in
    let rules = f.rules.items in
    let ceilings = f.ceilings.items in
    let controls = f.controls.items in
    let jobs = f.jobs.items in
    let holdings = f.holdings.items in
    let R = rules_at rules ceilings in
    let S = scheduler_of controls jobs holdings in
    let task = c.args.task in
    let there : task < length rules = rw (← v) at c.requires in
    let within : task < length controls = omega (arith, there, i.coherent.tasks) in
    let place = c.first_holding.ensures.place ∙ ap (position (λ (h : Holding). nat_eq h.task task)) c.deref.ensures.value in
    let some = sym place ∙ c.in-Some.is in
    ap (λ (h : Holding). nat_eq h.resource c.args.resource) c.index.ensures
    ∙ took-some controls jobs holdings task c.args.resource c.in-Some.place c.index.result.now within some
    ∙ ap (λ (x : Scheduled). ends_with nat_eq (held_by x.scheduler task) (c.args.resource ∷ [])) v
