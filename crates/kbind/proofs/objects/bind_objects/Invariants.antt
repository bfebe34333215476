use Rattle.std.proofs.Common.{◌≡◌, ◌++◌, drop, take}
use Rattle.std.specs.List.{filter_map, list_any}
use Rattle.kconfig.specs.declared.config.ObjectLine.{ObjectLine}
use Rattle.kbind.specs.Bases.{is_taken}
use Rattle.kbind.specs.Objects.{object_class, takes_base}
use Rattle.kbind.specs.Bound.{object_faults}
use Rattle.kbind.proofs.objects.bind_objects.Given as goal

abbrev pub invariant-loop-line : goal.invariant-loop-line
invariant-loop-line l = record {
  members : l.members ++ filter_map (object_class l.classes) (drop l.line-index l.lines) ≡ filter_map (object_class l.classes) l.lines;
  faults : l.faults ++ object_faults l.size l.cells l.lines l.line-index (drop l.line-index l.lines) ≡ l.initial.faults ++ object_faults l.size l.cells l.lines 0 l.lines;
  taken : (line : ObjectLine) → is_taken l.bases line.base line.class ≡ list_any (takes_base line) (take l.line-index l.lines);
}
