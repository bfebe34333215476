use Rattle.std.proofs.Common.{◌≡◌, drop}
use Rattle.std.specs.Prelude.{replicate, false}
use Rattle.first_form.specs.Operands.{runs}
use Rattle.first_form.proofs.first_class.held.runs.Given as goal

abbrev pub invariant-loop-placed : goal.invariant-loop-placed
invariant-loop-placed l =
    runs l.max_stack l.held (drop l.placed-index l.code)
    ≡ runs l.max_stack (record { depth = 0; stored = replicate l.max_locals false }) l.code
