use Rattle.std.proofs.Common.{◌≡◌, drop}
use Rattle.jworld.specs.Faults.{first_from, first_of_files, cycle_fault}
use Rattle.jworld.proofs.cycles.cycle_fault.Given as goal

abbrev pub invariant-loop-i : goal.invariant-loop-i
invariant-loop-i l = first_from (cycle_fault l.classes) l.i (drop l.i l.classes) ≡ first_of_files cycle_fault l.classes
