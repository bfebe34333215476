use Rattle.std.proofs.Common.{◌≡◌, take, drop}
use Rattle.jworld.specs.Classes.{names}
use Rattle.jworld.specs.Faults.{first_from, first_of_files, duplicate_fault}
use Rattle.jworld.proofs.classes.all_names.Given as goal

abbrev pub invariant-loop-i : goal.invariant-loop-i
invariant-loop-i l = record {
  named : l.names ≡ names (take l.i l.classes);
  faults : first_from (duplicate_fault l.classes) l.i (drop l.i l.classes) ≡ first_of_files duplicate_fault l.classes;
}
