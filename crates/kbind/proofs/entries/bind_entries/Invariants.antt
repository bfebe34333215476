use Rattle.std.proofs.Common.{◌≡◌, ◌++◌, drop}
use Rattle.std.specs.List.{filter_map}
use Rattle.kbind.specs.Bound.{entry_of, entry_faults}
use Rattle.kbind.proofs.entries.bind_entries.Given as goal

abbrev pub invariant-loop-line : goal.invariant-loop-line
invariant-loop-line l = record {
  members : l.members ++ filter_map (entry_of l.classes) (drop l.line-index l.lines) ≡ filter_map (entry_of l.classes) l.lines;
  faults : l.faults ++ entry_faults l.classes (drop l.line-index l.lines) ≡ l.initial.faults ++ entry_faults l.classes l.lines;
}
