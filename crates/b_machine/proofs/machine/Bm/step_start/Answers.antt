use Rattle.std.proofs.Common.{subst, Some}
use Rattle.osek_core.specs.declared.event.Who.TheVariants.{Start}
use Rattle.b_machine.specs.Moves.{Machine, IsMoved}
use Rattle.b_machine.specs.Trace.{run_actor}
use Rattle.b_machine.proofs.Moved.{by_start}
use Rattle.b_machine.proofs.machine.Bm.step_start.Goals as goal

pub returns : goal.returns
returns c =
    let in_it = c.self.inside in
    let app = in_it.program in
    let after : Machine = record { app = app; state = record { start = c.step.new.actor; jobs = in_it.jobs.items; shared = c.step.new.shared.shared } } in
    subst (λ (m : Machine). IsMoved (run_actor m.app m.state Start (Some m.state.start)) m (record { event = c.in_ok-event.event; lost = 0; weight = 1 }) after) c.self.view_is
    (by_start app in_it.start in_it.jobs.items in_it.shared c.step.new.shared c.in_ok-event.event c.step.new.actor c.in_ok-event.ensures)
