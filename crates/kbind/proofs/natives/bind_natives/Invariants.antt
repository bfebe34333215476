use Rattle.std.proofs.Common.{◌≡◌, ◌++◌, drop}
use Rattle.std.specs.List.{filter_map}
use Rattle.kbind.specs.Natives.{native_named}
use Rattle.kbind.specs.Bound.{native_faults}
use Rattle.kbind.proofs.natives.bind_natives.Given as goal

abbrev pub invariant-loop-line : goal.invariant-loop-line
invariant-loop-line l = record {
  members : l.members ++ filter_map (native_named l.methods) (drop l.line-index l.lines) ≡ filter_map (native_named l.methods) l.lines;
  faults : l.faults ++ native_faults l.methods (drop l.line-index l.lines) ≡ l.initial.faults ++ native_faults l.methods l.lines;
}
