use Rattle.std.proofs.Common.{Bool, List, Option, sym, ap, ◌∙◌, subst}
use Rattle.osek_core.specs.declared.tables.Start.{Start}
use Rattle.osek_core.specs.Core.Value.{Scheduled}
use Rattle.osek_core.specs.Kernel.Dispatch.{dispatch}
use Rattle.osek_core.specs.Kernel.State.{Kernel}
use Rattle.osek_core.specs.Kernel.Start.{start_kernel}
use Rattle.osek_time.specs.Value.{Timed}
use Rattle.osek_model.specs.Plan.{IsPlanned}
use Rattle.osek_model.specs.Value.{Planned, planned}
use Rattle.osek_model.specs.Acting.{activate_all, arm_all}
use Rattle.osek_model.proofs.Ticks.{planned-clock}
use Rattle.osek_model.proofs.Starts.{start-state, armed-length}
use Rattle.osek_model.proofs.kernel.Kernel.start.Goals as goal

pub invariant_of-self : goal.invariant_of-self
invariant_of-self c =
    let f = c.self.inside in
    let i = c.self.invariant in
    let w = planned f.core f.time f.autos.items f.actions.items f.starts.items f.suspended f.shut in
    let rules = ap (λ (x : Scheduled). x.rules) (c.dispatch.ensures.state ∙ ap (λ (x : Scheduled). record x { scheduler = dispatch x.rules x.scheduler }) c.activate_all.ensures) in
    let time = c.arm_all.ensures ∙ ap (λ (l : List (Option Start)). record f.time { clock = arm_all f.time.rules l f.time.clock }) c.deref-2.ensures.value in
    subst (λ r. IsPlanned (record { rules = r; clock = c.arm_all.new.time.rules; autos = f.autos.items; actions = f.actions.items; starts = f.starts.items }) c.arm_all.new.time.clock) (sym rules)
    (subst (λ (t : Timed). IsPlanned (record { rules = f.core.rules; clock = t.rules; autos = f.autos.items; actions = f.actions.items; starts = f.starts.items }) t.clock) (sym time)
    (planned-clock w.plan f.time.clock (arm_all f.time.rules f.starts.items f.time.clock) i (armed-length f.time.rules f.starts.items f.time.clock)))

pub returns-clause-state : goal.returns-clause-state
returns-clause-state c tables e new =
    let f = c.self.inside in
    let i = c.self.invariant in
    let w = planned f.core f.time f.autos.items f.actions.items f.starts.items f.suspended f.shut in
    let v = c.self.view_is in
    let core = c.dispatch.ensures.state ∙ ap (λ (x : Scheduled). record x { scheduler = dispatch x.rules x.scheduler })
    (c.activate_all.ensures ∙ ap (λ (l : List Bool). record f.core { scheduler = activate_all f.core.rules l f.core.scheduler }) c.deref.ensures.value) in
    let time = c.arm_all.ensures ∙ ap (λ (l : List (Option Start)). record f.time { clock = arm_all f.time.rules l f.time.clock }) c.deref-2.ensures.value in
    ap (λ (x : Scheduled). planned x c.arm_all.new.time f.autos.items f.actions.items f.starts.items f.suspended f.shut) core
    ∙ ap (λ (t : Timed). planned (record f.core { scheduler = dispatch f.core.rules (activate_all f.core.rules f.autos.items f.core.scheduler) }) t f.autos.items f.actions.items f.starts.items f.suspended f.shut) time
    ∙ ap (λ (k : Kernel). let x : Planned = record { plan = w.plan; kernel = k } in x)
    (start-state tables w.plan w.kernel (e ∙ ap (λ (x : Planned). x.plan) (sym v)) (ap (λ (x : Planned). x.kernel) v ∙ new) i.lawful i.started)
    ∙ ap (λ (x : Planned). record x { kernel = start_kernel tables x.kernel }) v
