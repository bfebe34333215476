use Rattle.std.proofs.Common.{subst, sym, Some, None, arith}
use Rattle.std.specs.Prelude.{slice_get, slice_set}
use Rattle.std.proofs.lemmas.Option.{slice_get_read, slice_get_past}
use Rattle.osek_core.specs.declared.event.Who.TheVariants.{Task}
use Rattle.b_machine.specs.Moves.{Machine, IsMoved}
use Rattle.b_machine.specs.Trace.{run_actor}
use Rattle.b_machine.proofs.Moved.{by_job, by_none}
use Rattle.b_machine.proofs.machine.Bm.step_task.Goals as goal

pub returns-then-at-len : goal.returns-then-at-len
returns-then-at-len c =
    let in_it = c.self.inside in
    let m : Machine = record { app = in_it.program; state = record { start = in_it.start; jobs = in_it.jobs.items; shared = in_it.shared.shared } } in
    subst (λ (x : Machine). IsMoved (run_actor x.app x.state (Task c.args.task) (slice_get x.state.jobs c.args.task)) x (record { event = None; lost = 0; weight = 0 }) x) c.self.view_is
    (by_none m c.args.task (slice_get_past in_it.jobs.items c.args.task (let all = in_it.jobs.ok in let len = c.len.ensures in let past = c.if-at-len.true in omega (all, len, past, arith))))

pub returns : goal.returns
returns c =
    let in_it = c.self.inside in
    let app = in_it.program in
    let after : Machine = record { app = app; state = record { start = in_it.start; jobs = slice_set in_it.jobs.items c.args.task c.step.new.actor; shared = c.step.new.shared.shared } } in
    subst (λ (m : Machine). IsMoved (run_actor m.app m.state (Task c.args.task) (slice_get m.state.jobs c.args.task)) m (record { event = c.in_ok-event.event; lost = 0; weight = 1 }) after) c.self.view_is
    (by_job app in_it.start in_it.jobs.items c.args.task c.index_mut-job.result.now in_it.shared c.step.new.shared c.in_ok-event.event c.step.new.actor
    (slice_get_read in_it.jobs.items c.len.result c.args.task c.index_mut-job.result.now (let all = in_it.jobs.ok in let len = c.len.ensures in omega (all, len, arith)) c.if-at-len.false c.index_mut-job.ensures.value) c.in_ok-event.ensures)
