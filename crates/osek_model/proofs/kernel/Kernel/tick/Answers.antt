use Rattle.std.proofs.Common.{List, sym, ap, ◌∙◌, subst}
use Rattle.osek_core.specs.declared.tables.Action.{Action}
use Rattle.osek_core.specs.Core.Value.{Scheduled}
use Rattle.osek_core.specs.Kernel.Clock.{due, advance}
use Rattle.osek_core.specs.Kernel.Dispatch.{dispatch}
use Rattle.osek_core.specs.Kernel.State.{Kernel}
use Rattle.osek_core.specs.Kernel.Tick.{tick}
use Rattle.osek_time.specs.Value.{Timed, alarm_set}
use Rattle.osek_model.specs.Plan.{IsPlanned}
use Rattle.osek_model.specs.Value.{Planned, planned}
use Rattle.osek_model.specs.Acting.{act_list}
use Rattle.osek_model.proofs.Ticks.{tick-lost, tick-state, planned-clock, advance-length}
use Rattle.osek_model.proofs.kernel.Kernel.tick.Goals as goal

pub invariant_of-self : goal.invariant_of-self
invariant_of-self c =
    let f = c.self.inside in
    let i = c.self.invariant in
    let rules = ap (λ (x : Scheduled). x.rules) (c.dispatch.ensures.state ∙ ap (λ (x : Scheduled). record x { scheduler = dispatch x.rules x.scheduler }) c.act_due-lost.ensures.state) in
    let w = planned f.core f.time f.autos.items f.actions.items f.starts.items f.suspended f.shut in
    subst (λ r. IsPlanned (record { rules = r; clock = c.tick.new.self.rules; autos = f.autos.items; actions = f.actions.items; starts = f.starts.items }) c.tick.new.self.clock) (sym rules)
    (subst (λ (t : Timed). IsPlanned (record { rules = f.core.rules; clock = t.rules; autos = f.autos.items; actions = f.actions.items; starts = f.starts.items }) t.clock) (sym c.tick.ensures.state)
    (planned-clock w.plan f.time.clock (advance f.time.rules f.time.clock c.args.counter) i (advance-length f.time.rules f.time.clock c.args.counter)))

pub returns-clause-lost : goal.returns-clause-lost
returns-clause-lost c tables e =
    let f = c.self.inside in
    let counter = c.args.counter in
    let w = planned f.core f.time f.autos.items f.actions.items f.starts.items f.suspended f.shut in
    c.act_due-lost.ensures.lost
    ∙ ap (λ (l : List Action). alarm_set (act_list f.core.rules l f.core.scheduler (due f.time.rules f.time.clock counter)).lost) c.deref.ensures.value
    ∙ tick-lost tables w.plan w.kernel counter (e ∙ ap (λ (x : Planned). x.plan) (sym c.self.view_is))
    ∙ ap (λ (x : Planned). alarm_set (tick tables x.kernel counter).lost) c.self.view_is

pub returns-clause-state : goal.returns-clause-state
returns-clause-state c tables e =
    let f = c.self.inside in
    let counter = c.args.counter in
    let w = planned f.core f.time f.autos.items f.actions.items f.starts.items f.suspended f.shut in
    let acted = c.act_due-lost.ensures.state
    ∙ ap (λ (l : List Action). record f.core { scheduler = (act_list f.core.rules l f.core.scheduler (due f.time.rules f.time.clock counter)).scheduler }) c.deref.ensures.value in
    let core = c.dispatch.ensures.state ∙ ap (λ (x : Scheduled). record x { scheduler = dispatch x.rules x.scheduler }) acted in
    ap (λ (x : Scheduled). planned x c.tick.new.self f.autos.items f.actions.items f.starts.items f.suspended f.shut) core
    ∙ ap (λ (t : Timed). planned (record f.core { scheduler = dispatch f.core.rules (act_list f.core.rules f.actions.items f.core.scheduler (due f.time.rules f.time.clock counter)).scheduler }) t f.autos.items f.actions.items f.starts.items f.suspended f.shut) c.tick.ensures.state
    ∙ ap (λ (k : Kernel). let x : Planned = record { plan = w.plan; kernel = k } in x) (tick-state tables w.plan w.kernel counter (e ∙ ap (λ (x : Planned). x.plan) (sym c.self.view_is)))
    ∙ ap (λ (x : Planned). record x { kernel = (tick tables x.kernel counter).kernel }) c.self.view_is
