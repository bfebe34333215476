use Rattle.std.proofs.Common.{◌≡◌, drop}
use Rattle.jworld.specs.Faults.{first_from, first_of_files, split_fault}
use Rattle.jworld.proofs.splits.split_fault.Given as goal

abbrev pub invariant-loop-i : goal.invariant-loop-i
invariant-loop-i l = first_from (split_fault l.classes) l.i (drop l.i l.classes) ≡ first_of_files split_fault l.classes
