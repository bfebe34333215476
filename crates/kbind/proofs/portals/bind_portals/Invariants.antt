use Rattle.std.proofs.Common.{◌≡◌, ◌++◌, drop}
use Rattle.std.specs.List.{filter_map}
use Rattle.kbind.specs.Portals.{portal_named}
use Rattle.kbind.specs.Bound.{portal_faults}
use Rattle.kbind.proofs.portals.bind_portals.Given as goal

abbrev pub invariant-loop-line : goal.invariant-loop-line
invariant-loop-line l = record {
  members : l.members ++ filter_map (portal_named l.methods) (drop l.line-index l.lines) ≡ filter_map (portal_named l.methods) l.lines;
  faults : l.faults ++ portal_faults l.methods (drop l.line-index l.lines) ≡ l.initial.faults ++ portal_faults l.methods l.lines;
}
