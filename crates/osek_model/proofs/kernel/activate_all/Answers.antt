use Rattle.std.proofs.Common.{fold, if◌then◌else◌, sym, ap, ◌∙◌}
use Rattle.std.specs.List.{range_with_len}
use Rattle.osek_core.specs.Core.Value.{Scheduled}
use Rattle.osek_core.specs.Kernel.Scheduler.{Scheduler}
use Rattle.osek_core.specs.Kernel.TaskServices.{activate_task}
use Rattle.osek_model.specs.Acting.{activate_marked}
use Rattle.osek_model.proofs.Steps.{fold-more}
use Rattle.osek_model.proofs.kernel.activate_all.Goals.{then-autos-task, else-autos-task}
use Rattle.osek_model.proofs.kernel.activate_all.Goals as goal

pub loop-task-preserved : goal.loop-task-preserved
loop-task-preserved c =
    let i = c.loop-task.task in
    let old = c.args.core.now in
    let autos = c.args.autos.now in
    let so_far : Scheduler = fold (activate_marked old.rules autos) old.scheduler (range_with_len 0 i) in
    elim c.if-autos-task.branch [
      | then-autos-task w ↦ w.core-is ∙ w.activate.ensures.state ∙ ap (λ (k : Scheduled). record k { scheduler = (activate_task k.rules k.scheduler i).state }) c.loop-task.invariant
          ∙ ap (λ (s : Scheduler). record old { scheduler = s }) (sym (fold-more (activate_marked old.rules autos) old.scheduler i ∙ ap (λ b. if b then (activate_task old.rules so_far i).state else so_far) w.if-autos-task.true))
      | else-autos-task w ↦ w.core-is ∙ c.loop-task.invariant
          ∙ ap (λ (s : Scheduler). record old { scheduler = s }) (sym (fold-more (activate_marked old.rules autos) old.scheduler i ∙ ap (λ b. if b then (activate_task old.rules so_far i).state else so_far) w.if-autos-task.false))
    ]
