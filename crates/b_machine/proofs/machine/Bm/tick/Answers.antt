use Rattle.std.proofs.Common.{sym, ap, ◌∙◌, subst, refl, None}
use Rattle.b_machine.specs.Application.{tables}
use Rattle.b_machine.specs.Moves.{Machine, IsMoved}
use Rattle.b_machine.specs.Shown.{Planned}
use Rattle.b_machine.specs.Trace.{tick_move}
use Rattle.b_machine.proofs.Ticked.{ticked}
use Rattle.b_machine.proofs.machine.Bm.tick.Goals as goal

pub invariant_of-self : goal.invariant_of-self
invariant_of-self c = ap (λ (x : Planned). x.plan) (c.tick-lost.ensures.state (tables c.self.inside.program) (sym c.self.invariant)) ∙ c.self.invariant

pub returns : goal.returns
returns c =
    let app = c.self.inside.program in
    let m : Machine = record { app = app; state = record { start = c.self.inside.start; jobs = c.self.inside.jobs.items; shared = c.self.inside.shared.shared } } in
    let left = c.tick-lost.new.self in
    subst (λ (x : Machine). IsMoved (tick_move x.app x.state c.args.counter) x (record { event = None; lost = c.tick-lost.result; weight = 0 }) (record { app = app; state = record m.state { shared = left.shared } })) c.self.view_is
    (ticked m c.self.inside.shared left c.args.counter c.tick-lost.result refl (c.tick-lost.ensures.state (tables app) (sym c.self.invariant)) (c.tick-lost.ensures.lost (tables app) (sym c.self.invariant)))
