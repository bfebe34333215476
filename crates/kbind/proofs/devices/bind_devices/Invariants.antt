use Rattle.std.proofs.Common.{◌≡◌, ◌++◌, drop}
use Rattle.std.specs.List.{filter_map}
use Rattle.kbind.specs.Objects.{device_named}
use Rattle.kbind.specs.Bound.{device_faults}
use Rattle.kbind.proofs.devices.bind_devices.Given as goal

abbrev pub invariant-loop-line : goal.invariant-loop-line
invariant-loop-line l = record {
  members : l.members ++ filter_map (device_named l.methods l.objects) (drop l.line-index l.lines) ≡ filter_map (device_named l.methods l.objects) l.lines;
  faults : l.faults ++ device_faults l.methods l.objects (drop l.line-index l.lines) ≡ l.initial.faults ++ device_faults l.methods l.objects l.lines;
}
