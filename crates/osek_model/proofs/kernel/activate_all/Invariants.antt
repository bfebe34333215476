use Rattle.std.proofs.Common.{◌≡◌, fold}
use Rattle.std.specs.List.{range_with_len}
use Rattle.osek_model.specs.Acting.{activate_marked}
use Rattle.osek_model.proofs.kernel.activate_all.Given as goal

-- the tasks so far were activated
abbrev pub invariant-loop-task : goal.invariant-loop-task
invariant-loop-task l = l.core ≡ record l.fn.core { scheduler = fold (activate_marked l.fn.core.rules l.autos) l.fn.core.scheduler (range_with_len 0 l.task) }
