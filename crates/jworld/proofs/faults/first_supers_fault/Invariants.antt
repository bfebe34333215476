use Rattle.std.proofs.Common.{◌≡◌, drop}
use Rattle.jworld.specs.Faults.{first_from, first_of_files, supers_fault}
use Rattle.jworld.proofs.faults.first_supers_fault.Given as goal

abbrev pub invariant-loop-i : goal.invariant-loop-i
invariant-loop-i l = first_from (supers_fault l.classes) l.i (drop l.i l.class-items) ≡ first_of_files supers_fault l.classes
