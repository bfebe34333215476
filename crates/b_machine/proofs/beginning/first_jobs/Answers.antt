use Rattle.std.proofs.Common.{sym, ap, ◌∙◌, ◌++◌, [], ◌∷◌, List, map, arith}
use Rattle.std.specs.List.{range_with_len}
use Rattle.std.proofs.lemmas.List.FromFn.{map-range_with_len_more}
use Rattle.b_machine.specs.State.{Actor, begun, no_actor}
use Rattle.b_machine.proofs.beginning.first_jobs.Goals as goal

pub loop-task-preserved : goal.loop-task-preserved
loop-task-preserved c =
    c.in_ok-push.ensures.items ∙ ap (λ (jobs : List Actor). jobs ++ c.in_ok-first_job.field-0 ∷ []) c.loop-task.invariant
    ∙ ap (λ (job : Actor). map (λ task. begun c.args.program.now task no_actor) (range_with_len 0 c.loop-task.task) ++ job ∷ []) c.in_ok-first_job.ensures ∙ sym (map-range_with_len_more (λ task. begun c.args.program.now task no_actor) 0 c.loop-task.task c.loop-task.task (omega arith))
