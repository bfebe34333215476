use Rattle.std.proofs.Common.{◌≡◌, ◌≤◌, drop, take}
use Rattle.jworld.specs.Faults.{first_from, first_of_files, large_fault, members}
use Rattle.jworld.proofs.faults.first_large_fault.Given as goal

abbrev pub invariant-loop-i : goal.invariant-loop-i
invariant-loop-i l = record {
  counted : l.members ≡ members (take l.i l.classes);
  few : l.members ≤ 65536;
  faults : first_from (large_fault l.classes) l.i (drop l.i l.classes) ≡ first_of_files large_fault l.classes;
}
