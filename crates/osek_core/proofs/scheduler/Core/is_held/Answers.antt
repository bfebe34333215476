use Rattle.std.proofs.Common.{length, sym, ap, ◌∙◌, nat_eq}
use Rattle.std.specs.List.{list_any}
use Rattle.osek_core.specs.declared.scheduler.Holding.{Holding}
use Rattle.osek_core.specs.Core.Value.{Scheduled}
use Rattle.osek_core.specs.Core.Kept.{scheduler_of}
use Rattle.osek_core.specs.Kernel.ResourceServices.{is_held}
use Rattle.osek_core.proofs.Holdings.{held-any}
use Rattle.osek_core.proofs.Scheduling.{rules_at}
use Rattle.osek_core.proofs.scheduler.Core.is_held.Goals as goal

pub returns : goal.returns
returns c =
    let i = c.self.invariant in
    let v = c.self.view_is in
    let f = c.self.inside in
    let rules = f.rules.items in
    let ceilings = f.ceilings.items in
    let controls = f.controls.items in
    let jobs = f.jobs.items in
    let holdings = f.holdings.items in
    let R = rules_at rules ceilings in
    let S = scheduler_of controls jobs holdings in
    c.is_taken.ensures ∙ ap (list_any (λ (h : Holding). nat_eq h.resource c.args.resource)) c.deref.ensures.value ∙ sym (held-any holdings (length controls) c.args.resource i.holders)
    ∙ ap (λ (x : Scheduled). is_held x.scheduler c.args.resource) v
