use Rattle.std.proofs.Common.{◌≡◌, ◌<◌, ◌-◌, ◌∷◌, [], length, codes, length-append, Some, arith}
use Rattle.std.proofs.lemmas.Result.{err_from_is_err_and}
use Rattle.oil_in.specs.Forms.{header}
use Rattle.oil_in.specs.Tasks.{task_at, tasks_at}
use Rattle.oil_in.proofs.ManyLemmas.{goes_on, ends, is_full, is_done}
use Rattle.oil_in.proofs.tasks.tasks_at.Goals as goal

pub returns-then-len-eq-MOST_TASKS-clause-read : goal.returns-then-len-eq-MOST_TASKS-clause-read
returns-then-len-eq-MOST_TASKS-clause-read c =
    let e : header (codes "  TASK t_") c.loop-name.scan.text ≡ Some (c.in-Some.name.now, c.in-Some.rest.now) = rw (← c.text.ensures) c.in-Some.ensures in
    let full : length c.loop-name.tasks ≡ 64 = omega (arith, c.len.ensures, c.if-len-eq-MOST_TASKS.true) in
    rw c.refused.ensures (is_full (header (codes "  TASK t_")) (task_at c.args.resources.now c.args.events.now) 64 c.loop-name.tasks c.loop-name.scan (c.in-Some.name.now, c.in-Some.rest.now) (tasks_at c.args.resources.now c.args.events.now c.args.start) e full c.loop-name.invariant.so_far)

pub returns-in_err-task-clause-read : goal.returns-in_err-task-clause-read
returns-in_err-task-clause-read c =
    let p = err_from_is_err_and c.from_residual.result c.from_residual.ensures.1 in
    let e : header (codes "  TASK t_") c.loop-name.scan.text ≡ Some (c.in-Some.name.now, c.in-Some.rest.now) = rw (← c.text.ensures) c.in-Some.ensures in
    let lt : length c.loop-name.tasks < 64 = omega (arith, c.len.ensures, c.if-len-eq-MOST_TASKS.false, c.loop-name.invariant.room) in
    rw (p.1, p.2) (ends (header (codes "  TASK t_")) (task_at c.args.resources.now c.args.events.now) 64 c.loop-name.tasks c.loop-name.scan (c.in-Some.name.now, c.in-Some.rest.now) c.in_err-task.field-0.0 (tasks_at c.args.resources.now c.args.events.now c.args.start) e (rw c.as_slice-rows.ensures at c.in_err-task.ensures) lt c.loop-name.invariant.so_far)

pub loop-name-preserved : goal.loop-name-preserved
loop-name-preserved c =
    let e : header (codes "  TASK t_") c.loop-name.scan.text ≡ Some (c.in-Some.name.now, c.in-Some.rest.now) = rw (← c.text.ensures) c.in-Some.ensures in
    let lt : length c.loop-name.tasks < 64 = omega (arith, c.len.ensures, c.if-len-eq-MOST_TASKS.false, c.loop-name.invariant.room) in
    rw c.in_ok-push.ensures.ok (record {
      room = omega (arith, length-append c.loop-name.tasks (c.in_ok-task.task ∷ []));
      so_far = goes_on (header (codes "  TASK t_")) (task_at c.args.resources.now c.args.events.now) 64 c.loop-name.tasks c.loop-name.scan (c.in-Some.name.now, c.in-Some.rest.now) c.in_ok-task.task c.in_ok-task.behind (tasks_at c.args.resources.now c.args.events.now c.args.start) e (rw c.as_slice-rows.ensures at c.in_ok-task.ensures) lt c.loop-name.invariant.so_far;
    })

pub returns-clause-read : goal.returns-clause-read
returns-clause-read c =
    is_done (header (codes "  TASK t_")) (task_at c.args.resources.now c.args.events.now) (64 - length c.loop-name.tasks) c.loop-name.tasks c.loop-name.scan (tasks_at c.args.resources.now c.args.events.now c.args.start) (rw (← c.text.ensures) c.in_default.ensures) c.loop-name.invariant.so_far
