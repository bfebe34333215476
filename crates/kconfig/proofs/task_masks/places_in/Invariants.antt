use Rattle.std.proofs.Common.{◌≡◌}
use Rattle.kconfig.specs.Tables.{places_where}
use Rattle.kconfig.specs.Masks.{is_set}
use Rattle.kconfig.proofs.task_masks.places_in.Given as goal

abbrev pub invariant-loop-place : goal.invariant-loop-place
invariant-loop-place l = l.found ≡ places_where (is_set l.mask) l.place
