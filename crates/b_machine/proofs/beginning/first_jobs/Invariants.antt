-- The jobs of the tasks before the loop's place.
use Rattle.std.proofs.Common.{◌≡◌, map}
use Rattle.std.specs.List.{range_with_len}
use Rattle.b_machine.specs.State.{begun, no_actor}
use Rattle.b_machine.proofs.beginning.first_jobs.Given as goal

abbrev pub invariant-loop-task : goal.invariant-loop-task
invariant-loop-task l = l.jobs.items ≡ map (λ task. begun l.program task no_actor) (range_with_len 0 l.task)
